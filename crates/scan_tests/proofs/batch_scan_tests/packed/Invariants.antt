use Rattle.std.specs.List.{All}
use Rattle.cs_types.specs.Schemas.{IsRowOf}
use Rattle.scan_tests.proofs.batch_scan_tests.packed.Given as goal

abbrev pub invariant-loop-key : goal.invariant-loop-key
invariant-loop-key l = All (λ version. IsRowOf l.schema version.row) l.versions
