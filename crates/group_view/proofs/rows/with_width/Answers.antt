use Rattle.std.proofs.Common.{List, [], ◌∷◌, ◌++◌, ◌∙◌, sym, ap}
use Rattle.cs_types.specs.declared.Value.{Value}
use Rattle.cs_types.specs.Rows.{padded}
use Rattle.cs_types.proofs.PaddedLemmas.{padded_more}
use Rattle.group_view.proofs.rows.with_width.Goals as goal

pub loop-column-preserved : goal.loop-column-preserved
loop-column-preserved c =
    let row = c.args.row.now in
    let column = c.loop-column.column in
    c.in_ok-push.ensures.ok
    ∙ ap (λ (made : List Value). made ++ c.in_ok-copy.field-0 ∷ []) c.loop-column.invariant
    ∙ ap (λ (cell : Value). padded column row ++ cell ∷ []) (c.in_ok-copy.ensures ∙ c.cell.ensures)
    ∙ sym (padded_more row column)
