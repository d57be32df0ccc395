use Rattle.std.proofs.Common.{◌≡◌, ◌<◌, true, length, subst, arith, IsTrue}
use Rattle.cs_types.specs.declared.Value.{Value}
use Rattle.cs_types.specs.Kinds.{is_of_type}
use Rattle.std.proofs.lemmas.List.Elements.{All-more}
use Rattle.segment_tests.proofs.column_segment_tests.are_kept.Goals as goal

pub loop-cell-preserved : goal.loop-cell-preserved
loop-cell-preserved c =
    let P : Value → Type 0 = λ v. IsTrue (is_of_type c.args.kind v) in
    let low : c.loop-cell.cell-index < length c.args.cells.now = omega (arith, c.loop-cell-test.true) in
    let here : is_of_type c.args.kind c.cell-item.result ≡ true = cc in
    All-more P c.args.cells.now c.loop-cell.cell-index c.cell-item.result low c.loop-cell.invariant (subst P c.cell-item.is here)
