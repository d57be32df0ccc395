use Rattle.std.proofs.Common.{string_bytes, sym, ◌∙◌}
use Rattle.command_words.proofs.Short.{named_short}
use Rattle.command_words.proofs.pairs.is_named.Goals as goal

pub returns : goal.returns
returns c = sym (named_short string_bytes c.args.name.now c.pairs.rest.now c.in_default.len_below) ∙ c.pairs.invariant
