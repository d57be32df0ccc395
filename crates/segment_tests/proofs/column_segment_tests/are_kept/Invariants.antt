use Rattle.std.proofs.Common.{take, All, IsTrue}
use Rattle.cs_types.specs.Kinds.{is_of_type}
use Rattle.segment_tests.proofs.column_segment_tests.are_kept.Given as goal

abbrev pub invariant-loop-cell : goal.invariant-loop-cell
invariant-loop-cell l = All (λ cell. IsTrue (is_of_type l.kind cell)) (take l.cell-index l.cells)
