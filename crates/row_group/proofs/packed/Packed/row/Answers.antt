use Rattle.std.proofs.Common.{◌≡◌, ◌<◌, ◌≤◌, ◌∙◌, length, map, sym, ap, subst, arith}
use Rattle.std.proofs.lemmas.List.{take_all}
use Rattle.column_segment.specs.declared.segment.Segment.{Segment}
use Rattle.column_segment.specs.Bodies.{cell_in}
use Rattle.row_group.specs.Rows.{PackedRow}
use Rattle.row_group.specs.Groups.{Group, row_at}
use Rattle.row_group.proofs.ShownLemmas.{shown_at}
use Rattle.row_group.proofs.packed.Packed.row.Goals as goal

pub returns : goal.returns
returns c =
    let f = c.self.inside in
    let cells = λ (segment : Segment). cell_in segment.body c.args.position in
    let all : length c.as_slice-segment-items.result.now ≤ c.loop-segment.segment-index = omega arith in
    subst (λ (group : Group). c.args.position < length group.rows → c.loop-segment.row ≡ (row_at group c.args.position).cells) c.self.view_is
    (λ l.
    c.loop-segment.invariant ∙ ap (map cells) (take_all c.loop-segment.segment-index c.as_slice-segment-items.result.now all)
    ∙ ap (map cells) c.as_slice-segment-items.ensures
    ∙ ap (λ (row : PackedRow). row.cells) (sym (shown_at f.segments f.key f.length f.base f.late f.places c.args.position l)))
    c.requires
