use Rattle.std.proofs.Common.{◌≡◌, ◌-◌, [], ◌∷◌, length}
use Rattle.tsql_grammar.specs.declared.terminal.Terminal.TheVariants as terminal
use Rattle.tsql_grammar.specs.Forms.{many_reads, with_front}
use Rattle.tsql_grammar.specs.Grammar.{behind}
use Rattle.tsql_exprs.proofs.grammar.Grammar.more_listed.Given as goal

abbrev pub invariant-more : goal.invariant-more
invariant-more g l =
    with_front l.list (many_reads (terminal.CommaSign ∷ []) (behind terminal.CommaSign (g.L.Line.form l.self.text.now l.self.depth)).reads (l.end - l.counter) l.reader.rest.now)
    ≡ with_front l.fn.first (many_reads (terminal.CommaSign ∷ []) (behind terminal.CommaSign (g.L.Line.form l.self.text.now l.self.depth)).reads (length l.fn.reader.rest.now) l.fn.reader.rest.now)
