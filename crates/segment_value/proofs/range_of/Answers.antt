use Rattle.std.proofs.Common.{◌+◌, Some, FitsSigned, w64, take, rules}
use Rattle.std.proofs.lemmas.Int.{to_z-of_z}
use Rattle.segment_value.specs.Scales.{numbers_in, IsRange}
use Rattle.segment_value.proofs.Cells.{numbers_in-more, numbers_in-null}
use Rattle.segment_value.proofs.range_of.Goals as goal
use Rattle.segment_value.proofs.range_of.Goals.{in-Some, in_default}

pub loop-cell-preserved : goal.loop-cell-preserved
loop-cell-preserved c =
    let next : IsRange (numbers_in (take (c.loop-cell.cell-index + 1) c.args.cells.now)) c.match-cell.range = elim c.match-cell.branch [
      | in-Some w ↦
          let fits : FitsSigned w64 w.in-Some.number = search rules in
          let told = simp to_z-of_z at w.widened.ensures in
          rw (w.range-is, numbers_in-more c.args.cells.now c.loop-cell.cell-index (Some w.in-Some.number) c.loop-cell-test.true w.in-Some.is)
          (told (numbers_in (take c.loop-cell.cell-index c.args.cells.now)) c.loop-cell.invariant)
      | in_default w ↦ rw (w.range-is, numbers_in-null c.args.cells.now c.loop-cell.cell-index c.loop-cell-test.true w.in_default.is) c.loop-cell.invariant
    ] in
    next
