use Rattle.std.proofs.Common.{◌≡◌, ◌<◌, ℕ, Some, IsTrue}
use Rattle.std.specs.List.{slice_get}
use Rattle.cs_types.specs.declared.Column.{Column}
use Rattle.cs_types.specs.Rows.{cell_at}
use Rattle.cs_types.specs.Schemas.{may_hold}
use Rattle.store_tests.proofs.group_reports_tests.fits.Given as goal

abbrev pub invariant-loop-i : goal.invariant-loop-i
invariant-loop-i l = (k : ℕ) (column : Column) → k < l.i → slice_get l.schema.columns k ≡ Some column → IsTrue (may_hold column (cell_at l.row k))
