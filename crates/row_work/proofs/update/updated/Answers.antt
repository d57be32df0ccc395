use Rattle.std.proofs.Common.{◌∙◌, length, map, ap, sym, subst}
use Rattle.std.specs.Prelude.{IsSome}
use Rattle.std.specs.List.{All}
use Rattle.std.specs.Map.{keys_of}
use Rattle.std.proofs.lemmas.Result.{IfOk-weaker}
use Rattle.cs_model.specs.Answers.{chosen}
use Rattle.cs_model.specs.Queries.{keeps}
use Rattle.row_work.specs.declared.choose.Chosen.{Chosen}
use Rattle.row_work.specs.Reads.{read_by}
use Rattle.row_work.specs.Sources.{row_of}
use Rattle.row_work.proofs.Kept.{ascend_by, each_there, keys_chosen}
use Rattle.row_work.proofs.Overlaid.{ascends_filter, read_ascends}
use Rattle.row_work.proofs.update.updated.Goals as goal

pub updated_rows-requires-clause-there : goal.updated_rows-requires-clause-there
updated_rows-requires-clause-there c =
    let schema = c.args.schema.now in
    let pinned = c.args.pinned.now in
    let width = length schema.columns in
    let rows = chosen schema c.args.plan.now.filter (read_by width pinned) in
    subst (λ list. All (λ (one : Chosen). IsSome (row_of width pinned one.source)) list) (sym c.deref.ensures.value) (each_there width pinned c.in_ok-chosen.chosen.items rows c.in_ok-chosen.ensures.rows)

pub returns-clause-order : goal.returns-clause-order
returns-clause-order c =
    let schema = c.args.schema.now in
    let pinned = c.args.pinned.now in
    let width = length schema.columns in
    let rows = chosen schema c.args.plan.now.filter (read_by width pinned) in
    IfOk-weaker c.updated_rows.result _ _ (λ writes is. ascend_by writes.items (keys_of rows) (is ∙ ap (map (λ (one : Chosen). one.key)) c.deref.ensures.value ∙ keys_chosen width pinned c.in_ok-chosen.chosen.items rows c.in_ok-chosen.ensures.rows)
    (ascends_filter (λ entry. keeps schema c.args.plan.now.filter entry.1) (read_by width pinned) (read_ascends width pinned))) c.updated_rows.ensures.keys
