use Rattle.std.proofs.Common.{◌≡◌, ◌∙◌, refl}
use Rattle.std.specs.Prelude.{nat_eq}
use denote.Enum.Declared.{tag_of}
use denote.Enum.Bare.{sameb}
use Rattle.tsql_grammar.specs.contracts.terminal.Terminal.{the_type}
use Rattle.tsql_grammar.specs.declared.terminal.Terminal.{Terminal}
use Rattle.tsql_grammar.specs.declared.terminal.Terminal.TheVariants as terminal
use Rattle.tsql_grammar.specs.Terminals.{code, same}
use Rattle.tsql_grammar.proofs.terminal.is_same.Goals as goal

code_is_tag : (a : Terminal) → tag_of the_type a ≡ code a
code_is_tag terminal.All = refl
code_is_tag _ = refl

same_is : (a b : Terminal) → sameb the_type a b ≡ same a b
same_is a b = rw (code_is_tag a, code_is_tag b) refl

pub returns : goal.returns
returns c = c.eq.ensures ∙ same_is c.args.terminal c.args.other
