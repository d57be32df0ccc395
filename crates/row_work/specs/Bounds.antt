-- The keys between which a condition keeps rows.
use Rattle.std.specs.Prelude.{◌≡◌, List, true, Option}
use Rattle.cs_types.specs.declared.Key.{Key}
use Rattle.cs_types.specs.declared.Loose.{Loose}
use Rattle.cs_types.specs.declared.Schema.{Schema}
use Rattle.cs_types.specs.declared.Value.{Value}
use Rattle.cs_types.specs.Schemas.{IsSchema}
use Rattle.cs_model.specs.declared.pred.Pred.{Pred}
use Rattle.cs_model.specs.declared.pred.Relation.{Relation}
use Rattle.cs_model.specs.declared.truth.Truth.TheVariants.{True}
use Rattle.cs_model.specs.Cells.{loose_at}
use Rattle.cs_model.specs.Held.{IsRowAt}
use Rattle.cs_model.specs.Queries.{keeps}
use Rattle.cs_model.specs.Truths.{compare, truth, truth_if}
use Rattle.delta_store.specs.Index.{is_between}
use Rattle.row_work.specs.declared.bounds.Bounds.{Bounds}
use Rattle.row_work.specs.declared.exact.KeyRange.{KeyRange}

-- the key is one of these
abbrev pub IsWithin : Bounds → Key → Type 0
IsWithin bounds key = is_between bounds.least bounds.greatest key ≡ true

-- a key that stands so to the constant is one of these
abbrev pub BoundsBeside : Relation → Loose → Bounds → Type 0
BoundsBeside sign constant bounds =
    (schema : Schema) (key : Key) (row : List Value) → IsSchema schema → IsRowAt schema key row → compare sign (loose_at schema row schema.key) constant ≡ True → IsWithin bounds key

-- where the condition is True of a row of the table, the row's key is one of these
abbrev pub BoundsTrue : Schema → Pred → Bounds → Type 0
BoundsTrue schema pred bounds = (key : Key) (row : List Value) → IsRowAt schema key row → truth pred row schema ≡ True → IsWithin bounds key

-- each row of the table that the condition keeps has one of these keys
abbrev pub KeepsWithin : Schema → Option Pred → Bounds → Type 0
KeepsWithin schema condition bounds = (key : Key) (row : List Value) → IsRowAt schema key row → keeps schema condition row ≡ true → IsWithin bounds key

-- of the rows of the table exactly those of these keys stand so to the constant, and each other one does not
abbrev pub IsRangeBeside : Schema → Relation → Loose → Bounds → Type 0
IsRangeBeside schema sign constant bounds = (key : Key) (row : List Value) → IsRowAt schema key row → compare sign (loose_at schema row schema.key) constant ≡ truth_if (is_between bounds.least bounds.greatest key)

-- the condition is True of the rows of the table with one of these keys, and False of each other one
abbrev pub IsRange : Schema → Pred → Bounds → Type 0
IsRange schema pred bounds = (key : Key) (row : List Value) → IsRowAt schema key row → truth pred row schema ≡ truth_if (is_between bounds.least bounds.greatest key)

-- of the rows of the table the condition keeps exactly those with one of these keys
abbrev pub KeepsRange : Schema → Option Pred → Bounds → Type 0
KeepsRange schema condition bounds = (key : Key) (row : List Value) → IsRowAt schema key row → keeps schema condition row ≡ is_between bounds.least bounds.greatest key

-- the condition keeps no row of the table whose key is not in the range; and where the range is exact, it keeps each row whose key is
pub record IsKeyRange (schema : Schema) (condition : Option Pred) (range : KeyRange) : Type 0 where
  pub within : KeepsWithin schema condition range.bounds
  pub exact : range.is_exact ≡ true → KeepsRange schema condition range.bounds
