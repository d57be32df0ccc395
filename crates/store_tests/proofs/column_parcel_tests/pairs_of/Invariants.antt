use Rattle.std.proofs.Common.{◌≡◌, ◌∷◌, [], List, true, false}
use Rattle.cs_types.specs.declared.ColumnType.TheVariants.{BigInt}
use Rattle.cs_types.specs.declared.Schema.{Schema}
use Rattle.cs_types.specs.declared.Value.{Value}
use Rattle.store_tests.proofs.ColumnRows.{AreComing}
use Rattle.store_tests.proofs.column_parcel_tests.pairs_of.Given as goal

abbrev pub invariant-loop-number : goal.invariant-loop-number
invariant-loop-number l = (schema : Schema) → schema.columns ≡ record { name = 107 ∷ []; kind = BigInt; nullable = false } ∷ record { name = 118 ∷ []; kind = BigInt; nullable = true } ∷ []
    → (rows : List (List Value)) × AreComing schema l.keys.items l.numbers.items l.others.items l.writes.items rows
