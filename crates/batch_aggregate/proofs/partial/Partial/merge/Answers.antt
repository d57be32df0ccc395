use Rattle.std.proofs.Common.{rules, ◌≡◌, ◌++◌, refl}
use Rattle.std.proofs.lemmas.Result.{on_ok_weaker}
use Rattle.cs_model.specs.Queries.{kept}
use Rattle.batch_aggregate.specs.Standing.{entries_in}
use Rattle.batch_aggregate.specs.declared.partial.Partial.{Partial}
use Rattle.batch_aggregate.proofs.Merges.{entries-wide}
use Rattle.batch_aggregate.proofs.Stands.{kept-groups, others_kept, on_ok_both, stands-merged, stands-appended}
use Rattle.batch_aggregate.proofs.partial.Partial.merge.Goals as goal

pub returns-then-self-clause-merged : goal.returns-then-self-clause-merged
returns-then-self-clause-merged c = λ rows more other_schema other_query stands others.
    let old = c.args.self.now in
    let other = c.args.other in
    let new : Partial = record { schema = old.schema; query = old.query; rows = old.rows; groups = c.add_all.new.entries; alloc = old.alloc } in
    let columns = old.query.now.groups in
    let grouped = c.if-self.true in
    let by = (kept-groups old rows grouped stands).0 in
    let wide = entries-wide old.query.now (kept old.schema.now old.query.now more) (entries_in other.groups) (others_kept old other more grouped other_schema other_query others) in
    on_ok_weaker c.add_all.result (λ h. stands-merged old other new rows more grouped other_schema other_query stands others refl refl (h.0 columns by) (h.1 columns by wide))
    (on_ok_both _ _ c.add_all.result c.add_all.ensures.by c.add_all.ensures.added)

pub returns-clause-merged : goal.returns-clause-merged
returns-clause-merged c = λ rows more other_schema other_query stands others.
    let old = c.args.self.now in
    let other = c.args.other in
    let new : Partial = record { schema = old.schema; query = old.query; rows = c.append.new.self; groups = old.groups; alloc = old.alloc } in
    let all : c.append.new.self.items ≡ old.rows.items ++ other.rows.items = search rules in
    stands-appended old other new rows more c.if-self.false other_schema other_query stands others refl refl all
