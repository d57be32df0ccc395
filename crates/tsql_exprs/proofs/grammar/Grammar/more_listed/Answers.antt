use Rattle.std.proofs.Common.{◌+◌, ◌-◌, [], ◌∷◌, length, rules, arith}
use Rattle.tsql_grammar.specs.declared.terminal.Terminal.TheVariants as terminal
use Rattle.tsql_grammar.specs.Grammar.{behind}
use Rattle.tsql_exprs.proofs.Lists.{one_more, not_one_more}
use Rattle.tsql_exprs.proofs.grammar.Grammar.more_listed.Goals as goal

pub more-preserved : goal.more-preserved
more-preserved g c =
    rw (c.in_ok-push.ensures.ok) (one_more (terminal.CommaSign ∷ []) (behind terminal.CommaSign (g.L.Line.form c.args.self.now.text.now c.args.self.now.depth)).reads
    c.more.list c.more.reader.rest.now _ (length c.args.reader.now.rest.now - c.more.counter) (length c.args.reader.now.rest.now - (c.more.counter + 1))
    c.next_listed.new.reader.rest.now c.in_ok-next.next (omega arith) (search rules) c.in_ok-next.ensures c.more.invariant)

pub returns-in_err-next : goal.returns-in_err-next
returns-in_err-next g c =
    not_one_more (terminal.CommaSign ∷ []) (behind terminal.CommaSign (g.L.Line.form c.args.self.now.text.now c.args.self.now.depth)).reads
    c.more.list c.more.reader.rest.now _ c.from_residual.result c.in_err-next.field-0.0
    (length c.args.reader.now.rest.now - c.more.counter) (length c.args.reader.now.rest.now - (c.more.counter + 1))
    c.next_listed.new.reader.rest.now c.from_residual.ensures.1 (omega arith) (search rules) c.in_err-next.ensures c.more.invariant
