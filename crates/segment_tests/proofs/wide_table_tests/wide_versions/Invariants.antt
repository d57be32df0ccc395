use Rattle.std.specs.List.{All}
use Rattle.cs_types.specs.Schemas.{IsRowOf}
use Rattle.segment_tests.proofs.wide_table_tests.wide_versions.Given as goal

abbrev pub invariant-loop-place : goal.invariant-loop-place
invariant-loop-place g l = All (λ version. IsRowOf l.schema version.row) l.versions
