use Rattle.std.proofs.Common.{◌≡◌, ◌∙◌, length, ap, subst, arith}
use Rattle.std.specs.List.{All}
use Rattle.std.proofs.lemmas.List.{length-map}
use Rattle.column_segment.specs.Bodies.{cell_in}
use Rattle.row_group.specs.Rows.{PackedRow}
use Rattle.row_group.specs.Groups.{Group}
use Rattle.row_group.proofs.ShownLemmas.{row-shown, length-shown}
use Rattle.row_group.proofs.packed.Packed.width.Goals as goal

pub returns-clause-rows : goal.returns-clause-rows
returns-clause-rows c =
    let f = c.self.inside in
    subst (λ (group : Group). All (λ (row : PackedRow). length row.cells ≡ group.width) group.rows) c.self.view_is
    (λ k d l.
    ap (λ (row : PackedRow). length row.cells) (row-shown f.segments f.late f.base f.length k d (omega (arith, l, length-shown f.segments f.late f.base f.length)))
    ∙ length-map f.segments (λ segment. cell_in segment.body k))
