use Rattle.std.proofs.Common.{◌∙◌, ◌++◌, ℕ, length, take, ap, sym}
use Rattle.std.specs.List.{filter_map, flat_map}
use Rattle.std.proofs.lemmas.List.Elements.{filter_map-append}
use Rattle.group_view.specs.declared.parts.GroupPart.{GroupPart}
use Rattle.group_view.specs.Parts.{rowed_in}
use Rattle.row_work.specs.Reads.{read_row, rowed_at}
use Rattle.row_work.proofs.Scanned.{groups_more, picked, picked_append}
use Rattle.row_work.proofs.choose.choose_shown.Goals as goal

pub loop-group-preserved : goal.loop-group-preserved
loop-group-preserved c =
    let schema = c.args.schema.now in
    let condition = c.args.condition.now in
    let view = c.args.pinned.now.view in
    let f = read_row (length schema.columns) c.args.pinned.now in
    let n = c.loop-group.group in
    let front = flat_map (λ (group : ℕ × GroupPart). rowed_in group.1) (take n view.groups) in
    let next = rowed_at view n in
    record {
      rows = c.in_ok-choose_in_group.ensures.rows ∙ ap (λ l. l ++ picked schema condition (filter_map f next)) c.loop-group.invariant.rows
          ∙ sym (picked_append schema condition (filter_map f front) (filter_map f next)) ∙ ap (picked schema condition) (sym (filter_map-append f front next))
          ∙ ap (λ l. picked schema condition (filter_map f l)) (sym (groups_more view n));
      shown = c.in_ok-choose_in_group.ensures.shown;
    }
