use Rattle.std.proofs.Common.{List, [], ◌∷◌, ◌++◌, ◌∙◌, sym, ap}
use Rattle.cs_types.specs.declared.Value.{Value}
use Rattle.cs_types.specs.Rows.{padded}
use Rattle.cs_types.proofs.PaddedLemmas.{padded_more}
use Rattle.row_group.specs.Groups.{row_at}
use Rattle.row_work.proofs.reading.packed_row.Goals as goal

pub loop-column-preserved : goal.loop-column-preserved
loop-column-preserved c =
    let row = (row_at c.args.packed.now c.args.position).cells in
    let column = c.loop-column.column in
    c.in_ok-push.ensures.ok
    ∙ ap (λ (made : List Value). made ++ c.in_ok-packed_cell.field-0 ∷ []) c.loop-column.invariant
    ∙ ap (λ (cell : Value). padded column row ++ cell ∷ []) c.in_ok-packed_cell.ensures
    ∙ sym (padded_more row column)
