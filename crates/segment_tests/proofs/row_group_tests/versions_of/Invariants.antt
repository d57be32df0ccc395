use Rattle.std.specs.List.{All}
use Rattle.cs_types.specs.Schemas.{IsRowOf}
use Rattle.segment_tests.proofs.row_group_tests.versions_of.Given as goal

abbrev pub invariant-loop-cells : goal.invariant-loop-cells
invariant-loop-cells g l = All (λ version. IsRowOf l.schema version.row) l.versions
