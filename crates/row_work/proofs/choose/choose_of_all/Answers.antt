use Rattle.std.proofs.Common.{◌∙◌, ◌++◌, length, sym, ap}
use Rattle.std.specs.List.{filter_map}
use Rattle.group_view.specs.Views.{rowed_of}
use Rattle.row_work.specs.Reads.{own_row, read_row}
use Rattle.row_work.proofs.Ordered.{chosen_sorted}
use Rattle.row_work.proofs.Overlaid.{rows_are_read}
use Rattle.row_work.proofs.Scanned.{picked, picked_append}
use Rattle.row_work.proofs.choose.choose_of_all.Goals as goal

pub returns-clause-rows : goal.returns-clause-rows
returns-clause-rows c =
    let schema = c.args.schema.now in
    let condition = c.args.condition.now in
    let pinned = c.args.pinned.now in
    let width = length schema.columns in
    let own = filter_map own_row pinned.own in
    let shown = filter_map (read_row width pinned) (rowed_of pinned.view) in
    let all = c.in_ok-choose_own.ensures.rows ∙ ap (λ l. l ++ picked schema condition own) c.in_ok-chosen.ensures.rows ∙ sym (picked_append schema condition shown own) in
    chosen_sorted width pinned schema condition c.choose_own.new.chosen.items c.sort.new.chosen.items (rows_are_read width pinned c.requires.snapshot c.choose_own.ensures.order) all
    c.sort.ensures.permutation c.sort.ensures.sorted
