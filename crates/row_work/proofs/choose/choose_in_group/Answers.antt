use Rattle.std.proofs.Common.{◌∙◌, ◌++◌, ℕ, List, length, map, ap, sym, subst}
use Rattle.std.specs.List.{All, filter_map}
use Rattle.std.proofs.lemmas.Result.{on_ok_weaker}
use Rattle.cs_model.specs.Answers.{chosen}
use Rattle.cs_model.specs.Changes.{Edit, Table}
use Rattle.batch_scan.specs.Reads.{is_read, rowed_at}
use Rattle.row_work.specs.Sources.{chosen_edit, rows_as_edits}
use Rattle.row_work.specs.Stores.{is_read_within, read_at_position, PassesAt}
use Rattle.row_work.proofs.Stored.{enough_within}
use Rattle.row_work.proofs.choose.choose_in_group.Goals as goal

pub choose_at_positions-requires-clause-read : goal.choose_at_positions-requires-clause-read
choose_at_positions-requires-clause-read c =
    let pinned = c.args.pinned.now in
    let versions = rowed_at pinned.view c.args.group in
    let enough = enough_within c.args.schema.now c.args.condition.now pinned c.args.bounds c.requires.within c.args.group c.requires.may in
    let are = c.deref.ensures.value ∙ c.in_order-positions.ensures.order (map (is_read_within pinned c.args.bounds) versions) (rw c.in-Some.is at c.in_ok-found.ensures) in
    subst (All (PassesAt (is_read pinned) versions)) (sym are) enough.read

pub returns-in-Some-clause-rows : goal.returns-in-Some-clause-rows
returns-in-Some-clause-rows c =
    let schema = c.args.schema.now in
    let condition = c.args.condition.now in
    let pinned = c.args.pinned.now in
    let width = length schema.columns in
    let versions = rowed_at pinned.view c.args.group in
    let enough = enough_within schema condition pinned c.args.bounds c.requires.within c.args.group c.requires.may in
    let are = c.deref.ensures.value ∙ c.in_order-positions.ensures.order (map (is_read_within pinned c.args.bounds) versions) (rw c.in-Some.is at c.in_ok-found.ensures) in
    let behind : Table → List Edit = λ l. map (chosen_edit width pinned) c.args.chosen.now.items ++ rows_as_edits l in
    on_ok_weaker c.choose_at_positions.result
    (λ is. is ∙ ap (λ (list : List ℕ). behind (chosen schema condition (filter_map (read_at_position width pinned versions) list))) are ∙ ap behind enough.kept)
    c.choose_at_positions.ensures.rows
