use Rattle.std.proofs.Common.{rules, Some, FitsSigned, w64}
use Rattle.std.proofs.lemmas.Int.{to_z-of_z}
use Rattle.segment_value.proofs.Cells.{numbers_in-more, numbers_in-null}
use Rattle.segment_value.proofs.Exponents.{IsCommonExponent-push, IsCommonExponent-least}
use Rattle.segment_value.proofs.common_exponent.Goals as goal
use Rattle.segment_value.proofs.common_exponent.Goals.{in-Some, in_default}

pub loop-cell-preserved : goal.loop-cell-preserved
loop-cell-preserved c = elim c.match-cell.branch [
  | in-Some w ↦
      let fits : FitsSigned w64 w.in-Some.number = search rules in
      let told = simp to_z-of_z at w.exponent_up_to-exponent.ensures in
      rw (w.exponent-is, numbers_in-more c.args.cells.now c.loop-cell.cell-index (Some w.in-Some.number) c.loop-cell-test.true w.in-Some.is)
      (IsCommonExponent-push _ _ _ _ c.loop-cell.invariant told.bound told.divides told.greatest)
  | in_default w ↦ rw (w.exponent-is, numbers_in-null c.args.cells.now c.loop-cell.cell-index c.loop-cell-test.true w.in_default.is) c.loop-cell.invariant
]

pub returns-then-exponent-eq0 : goal.returns-then-exponent-eq0
returns-then-exponent-eq0 c = IsCommonExponent-least c.args.cells.now c.loop-cell.cell-index (rw c.if-exponent-eq0.true at c.loop-cell.invariant)
