use Rattle.std.proofs.Common.{◌∙◌, length, map, ap}
use Rattle.std.specs.Prelude.{None}
use Rattle.std.specs.Map.{keys_of}
use Rattle.std.proofs.lemmas.Result.{IfOk-weaker}
use Rattle.cs_model.specs.Answers.{chosen}
use Rattle.cs_model.specs.Queries.{keeps}
use Rattle.row_work.specs.declared.choose.Chosen.{Chosen}
use Rattle.row_work.specs.Reads.{read_by}
use Rattle.row_work.proofs.Kept.{ascend_by, edit_keys, gone_keys, gone_of}
use Rattle.row_work.proofs.Overlaid.{ascends_filter, read_ascends}
use Rattle.row_work.proofs.delete.deleted.Goals as goal

pub returns-clause-gives : goal.returns-clause-gives
returns-clause-gives c =
    let schema = c.args.schema.now in
    let pinned = c.args.pinned.now in
    let width = length schema.columns in
    let rows = chosen schema c.args.condition.now (read_by width pinned) in
    IfOk-weaker c.without.result _ _ (λ writes is. is ∙ ap (map (λ (one : Chosen). (one.key, None))) c.deref.ensures.value ∙ gone_of width pinned c.in_ok-chosen.chosen.items rows c.in_ok-chosen.ensures.rows) c.without.ensures.edits

pub returns-clause-order : goal.returns-clause-order
returns-clause-order c =
    let schema = c.args.schema.now in
    let pinned = c.args.pinned.now in
    let width = length schema.columns in
    let rows = chosen schema c.args.condition.now (read_by width pinned) in
    IfOk-weaker c.without.result _ _ (λ writes is. ascend_by writes.items (keys_of rows) (edit_keys writes.items ∙ ap keys_of is ∙ gone_keys rows)
    (ascends_filter (λ entry. keeps schema c.args.condition.now entry.1) (read_by width pinned) (read_ascends width pinned))) (returns-clause-gives c)
