use Rattle.std.proofs.Common.{refl}
use Rattle.std.proofs.lemmas.Result.{on_ok_weaker}
use Rattle.batch_aggregate.specs.declared.partial.Partial.{Partial}
use Rattle.batch_aggregate.proofs.Merges.{as_wide}
use Rattle.batch_aggregate.proofs.Stands.{kept-groups, on_ok_both, stands-further}
use Rattle.batch_aggregate.proofs.partial.Partial.add_group.Goals as goal

pub returns-clause-added : goal.returns-clause-added
returns-clause-added c = λ rows more grouped stands keep have are some.
    let old = c.args.self.now in
    let new : Partial = record { schema = old.schema; query = old.query; rows = old.rows; groups = c.add_tallies.new.entries; alloc = old.alloc } in
    let columns = old.query.now.groups in
    let by = (kept-groups old rows grouped stands).0 in
    let wide = as_wide columns (c.args.cells, more) (have, some) in
    on_ok_weaker c.add_tallies.result (λ h. stands-further old new rows more c.args.cells c.args.tallies grouped stands keep have are some refl refl (h.0 columns by) (h.1 columns by wide))
    (on_ok_both _ _ c.add_tallies.result c.add_tallies.ensures.by c.add_tallies.ensures.added)
