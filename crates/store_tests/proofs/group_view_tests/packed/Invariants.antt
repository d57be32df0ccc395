use Rattle.std.specs.List.{All}
use Rattle.cs_types.specs.Schemas.{IsRowOf}
use Rattle.store_tests.proofs.group_view_tests.packed.Given as goal

abbrev pub invariant-loop-key : goal.invariant-loop-key
invariant-loop-key l = All (λ version. IsRowOf l.schema version.row) l.versions
