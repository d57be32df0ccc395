use Rattle.std.proofs.Common.{◌≡◌, ◌∷◌, [], false}
use Rattle.std.specs.List.{All}
use Rattle.cs_types.specs.declared.ColumnType.TheVariants.{BigInt}
use Rattle.cs_types.specs.declared.Schema.{Schema}
use Rattle.edit_laws.specs.Edits.{edits_of}
use Rattle.tuple_mover.specs.Inserts.{FitsIn}
use Rattle.store_tests.proofs.tuple_mover_tests.writes_of.Given as goal

abbrev pub invariant-loop-number : goal.invariant-loop-number
invariant-loop-number l = (schema : Schema) → schema.columns ≡ record { name = 107 ∷ []; kind = BigInt; nullable = false } ∷ [] → schema.key ≡ 0 → All (FitsIn schema) (edits_of l.writes.items)
