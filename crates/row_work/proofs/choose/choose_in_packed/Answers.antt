use Rattle.std.proofs.Common.{◌≡◌, ◌∙◌, ◌<◌, ◌++◌, List, true, filter, length, map, ap, sym, subst}
use Rattle.std.specs.List.{All, filter_map}
use Rattle.std.specs.Map.{values_of}
use Rattle.std.specs.Option.{option_copied}
use Rattle.std.proofs.lemmas.Result.{on_ok_weaker}
use Rattle.cs_model.specs.Queries.{keeps}
use Rattle.cs_model.specs.Scans.{is_skipped}
use Rattle.row_group.specs.Rows.{column_of}
use Rattle.group_view.specs.Parts.{Rowed}
use Rattle.batch_scan.specs.Reads.{read_row, rowed_at}
use Rattle.batch_scan.specs.Scans.{kept_positions}
use Rattle.batch_scan.proofs.Passed.{passed_over}
use Rattle.row_work.specs.Sources.{chosen_at}
use Rattle.row_work.proofs.ChosenAt.{chose_nothing, chose_positions, chose_shown, chose_within}
use Rattle.row_work.proofs.choose.choose_in_packed.Goals as goal

pub returns-then-is_skipped-clause-rows : goal.returns-then-is_skipped-clause-rows
returns-then-is_skipped-clause-rows c =
    let schema = c.args.schema.now in
    let condition = c.args.condition.now in
    let pinned = c.args.pinned.now in
    let width = length schema.columns in
    let same : option_copied c.as_ref-pred.result ≡ condition = c.as_ref-pred.ensures.value in
    let skipped : is_skipped schema condition (column_of c.args.packed.now.rows) ≡ true
    = ap (λ o. is_skipped schema o (column_of c.args.packed.now.rows)) (sym same) ∙ sym c.is_skipped.ensures ∙ c.if-is_skipped.true in
    chose_nothing width pinned schema condition c.args.chosen.now.items (filter_map (read_row width pinned) (rowed_at pinned.view c.args.group))
    (ap (λ (versions : List Rowed). filter (keeps schema condition) (values_of (filter_map (read_row width pinned) versions))) c.requires.versions
    ∙ passed_over schema pinned c.args.packed.now.key condition c.args.packed.now.rows c.args.marks.now skipped)

pub choose_positions-requires : goal.choose_positions-requires
choose_positions-requires c =
    let schema = c.args.schema.now in
    let condition = c.args.condition.now in
    let pinned = c.args.pinned.now in
    let group = c.args.packed.now in
    let marks = c.args.marks.now in
    let are = c.deref.ensures.value ∙ c.in_ok-positions.ensures ∙ ap (λ o. kept_positions pinned schema o group marks) c.as_ref-pred.ensures.value in
    subst (All (λ position. position < length group.rows)) (sym are) (chose_within schema condition pinned c.args.group group marks c.requires.fits c.requires.versions)

pub returns-clause-rows : goal.returns-clause-rows
returns-clause-rows c =
    let schema = c.args.schema.now in
    let condition = c.args.condition.now in
    let pinned = c.args.pinned.now in
    let group = c.args.packed.now in
    let marks = c.args.marks.now in
    let are = c.deref.ensures.value ∙ c.in_ok-positions.ensures ∙ ap (λ o. kept_positions pinned schema o group marks) c.as_ref-pred.ensures.value in
    on_ok_weaker c.choose_positions.result
    (λ is. chose_positions schema condition pinned c.args.group group marks c.requires.fits c.requires.versions c.args.chosen.now.items c.choose_positions.new.chosen.items
    (is ∙ ap (λ positions. c.args.chosen.now.items ++ map (chosen_at c.args.group group) positions) are)) c.choose_positions.ensures

pub returns-clause-shown : goal.returns-clause-shown
returns-clause-shown c =
    let schema = c.args.schema.now in
    let condition = c.args.condition.now in
    let pinned = c.args.pinned.now in
    let group = c.args.packed.now in
    let marks = c.args.marks.now in
    let are = c.deref.ensures.value ∙ c.in_ok-positions.ensures ∙ ap (λ o. kept_positions pinned schema o group marks) c.as_ref-pred.ensures.value in
    on_ok_weaker c.choose_positions.result
    (λ is. chose_shown schema condition pinned c.args.group group marks c.requires.fits c.requires.versions c.args.chosen.now.items c.choose_positions.new.chosen.items c.requires.shown
    (is ∙ ap (λ positions. c.args.chosen.now.items ++ map (chosen_at c.args.group group) positions) are)) c.choose_positions.ensures
