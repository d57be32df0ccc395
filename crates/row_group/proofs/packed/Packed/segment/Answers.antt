use Rattle.std.proofs.Common.{◌≡◌, ◌<◌, ◌∙◌, ℕ, length, List, sym, ap, subst}
use Rattle.cs_types.specs.declared.Value.{Value}
use Rattle.column_segment.specs.declared.segment.Segment.{Segment}
use Rattle.column_segment.specs.Segments.{IsSegmentOf}
use Rattle.column_segment.specs.Bodies.{cell_in}
use Rattle.cs_types.specs.Rows.{cell_at}
use Rattle.row_group.specs.Rows.{PackedRow, column_of}
use Rattle.row_group.specs.Groups.{Group, row_at}
use Rattle.row_group.specs.Fields.{cells_in}
use Rattle.row_group.proofs.ShownLemmas.{length-shown, column-shown, cell_at-map, shown_at}
use Rattle.row_group.proofs.packed.Packed.segment.Goals as goal

pub returns-clause-rows : goal.returns-clause-rows
returns-clause-rows c =
    let f = c.self.inside in
    subst (λ (group : Group). c.args.column < group.width → c.at.result.now.length ≡ length group.rows) c.self.view_is
    (λ l. subst (λ (s : Segment). s.length ≡ f.length) (sym c.at.ensures.item) (c.self.invariant.counted c.args.column c.at.result.now l) ∙ sym (length-shown f.segments f.late f.base f.length))
    c.requires

pub returns-clause-cells : goal.returns-clause-cells
returns-clause-cells c =
    let f = c.self.inside in
    let s = c.at.result.now in
    subst (λ (group : Group). c.args.column < group.width → IsSegmentOf (column_of group.rows c.args.column) s.length s.body s.least s.greatest s.nulls) c.self.view_is
    (λ l.
    let same = subst (λ (other : Segment). other.length ≡ f.length) (sym c.at.ensures.item) (c.self.invariant.counted c.args.column s l) in
    let kept = subst (λ (other : Segment). IsSegmentOf (cells_in other) other.length other.body other.least other.greatest other.nulls) (sym c.at.ensures.item) (c.self.invariant.kept c.args.column s l) in
    subst (λ (cells : List Value). IsSegmentOf cells s.length s.body s.least s.greatest s.nulls)
    (sym (column-shown f.segments f.late f.base f.length c.args.column s l same c.at.ensures.item)) kept)
    c.requires

pub returns-clause-each : goal.returns-clause-each
returns-clause-each c =
    let f = c.self.inside in
    let s = c.at.result.now in
    subst (λ (group : Group). c.args.column < group.width → (i : ℕ) → i < length group.rows → cell_in s.body i ≡ cell_at (row_at group i).cells c.args.column) c.self.view_is
    (λ l i m.
    ap (λ (segment : Segment). cell_in segment.body i) c.at.ensures.item
    ∙ sym (cell_at-map (λ segment. cell_in segment.body i) f.segments c.args.column s l)
    ∙ ap (λ (row : PackedRow). cell_at row.cells c.args.column) (sym (shown_at f.segments f.key f.length f.base f.late f.places i m)))
    c.requires
