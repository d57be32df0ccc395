use Rattle.std.proofs.Common.{rules, refl}
use Rattle.std.proofs.lemmas.Result.{on_ok_weaker}
use Rattle.batch_aggregate.specs.declared.partial.Partial.{Partial}
use Rattle.batch_aggregate.proofs.Stands.{on_ok_both, stands-more}
use Rattle.batch_aggregate.proofs.partial.Partial.add.Goals as goal

pub returns-then-self-clause-added : goal.returns-then-self-clause-added
returns-then-self-clause-added c = λ rows stands.
    let old = c.args.self.now in
    let new : Partial = record { schema = old.schema; query = old.query; rows = old.rows; groups = c.add_row.new.entries; alloc = old.alloc } in
    on_ok_weaker c.add_row.result (λ h. stands-more old new rows c.args.row.now c.if-self.true (search rules) stands refl refl h.0 h.1)
    (on_ok_both _ _ c.add_row.result c.add_row.ensures.by c.add_row.ensures.added)
