use Rattle.std.specs.List.{All}
use Rattle.cs_types.specs.Schemas.{IsRowOf}
use Rattle.scan_tests.proofs.batch_scan_tests.views.packed_of.Given as goal

abbrev pub invariant-loop-row : goal.invariant-loop-row
invariant-loop-row g l = All (λ version. IsRowOf l.schema version.row) l.versions
