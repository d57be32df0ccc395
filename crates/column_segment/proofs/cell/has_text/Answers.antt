use Rattle.std.proofs.Common.{◌<◌, ◌∙◌, length, sym, subst, arith, IsNone}
use Rattle.cs_types.specs.declared.Value.{Value}
use Rattle.column_segment.specs.Cells.{text_of}
use Rattle.column_segment.proofs.Dicts.{All-more, copied-none}
use Rattle.column_segment.proofs.cell.has_text.Goals as goal

pub loop-cell-preserved : goal.loop-cell-preserved
loop-cell-preserved c =
    let P : Value → Type 0 = λ v. IsNone (text_of v) in
    let low : c.loop-cell.cell-index < length c.args.cells.now = omega (arith, c.loop-cell-test.true) in
    All-more P c.args.cells.now c.loop-cell.cell-index c.cell-item.result low c.loop-cell.invariant
    (subst P c.cell-item.is (copied-none c.as_text.result _ c.as_text.ensures (sym c.is_some.ensures ∙ c.if-is_some.false)))
