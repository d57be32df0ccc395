-- The parcel of a commit: its rows, as they load directly or go into the open store.
use Rattle.std.specs.Prelude.{◌≡◌, ℕ, List, [], ◌∷◌, ◌++◌, ◌≤◌, map, length, All, Any, IsPermutation, Some}
use Rattle.std.specs.List.{AllZip}
use Rattle.std.specs.Option.{option_map}
use Rattle.cs_types.specs.declared.Key.{Key}
use Rattle.cs_types.specs.declared.Schema.{Schema}
use Rattle.cs_types.specs.declared.Value.{Value}
use Rattle.cs_types.specs.Rows.{key_in, padded}
use Rattle.cs_model.specs.Changes.{Edit}
use Rattle.row_group.specs.declared.packed.Packed.{Packed}
use Rattle.row_group.specs.Rows.{PackedRow}
use Rattle.group_book.specs.Commits.{Sizes, inserted_by, direct_parts}
use Rattle.group_view.specs.declared.claim.Parcel.{Parcel}
use Rattle.group_view.specs.Parts.{IsPackedGroup}

abbrev pub keys_in : List (Key × List Value) → List Key
keys_in rows = map (λ (entry : Key × List Value). entry.0) rows

-- no row of the group has a begin beside its base
abbrev pub HasOneBegin : Packed → Type 0
HasOneBegin group = All (λ row. row.begin ≡ group.base) group.rows

abbrev pub packed_keys : Packed → List Key
packed_keys group = map (λ (row : PackedRow). key_in group.key row.cells) group.rows

abbrev pub packed_rows : List Packed → List (Key × List Value)
packed_rows [] = []
packed_rows (group ∷ groups) = map (λ (row : PackedRow). (key_in group.key row.cells, row.cells)) group.rows ++ packed_rows groups

-- the rows of a parcel with their keys
abbrev pub parcel_rows : Parcel → List (Key × List Value)
parcel_rows parcel = packed_rows parcel.groups ++ parcel.rest

-- the parcel is of these keys: each part that loads directly is a group, with its keys in some order, and the rest follows by key
pub record IsParcelOf (sizes : Sizes) (inserted : List Key) (parcel : Parcel) : Type 0 where
  pub groups : AllZip (λ (part : List Key) (group : Packed). IsPermutation part (packed_keys group)) (direct_parts (length inserted) sizes inserted).0 parcel.groups
  pub rest : keys_in parcel.rest ≡ (direct_parts (length inserted) sizes inserted).1

-- one of the edits gives the key this row, in so many cells
abbrev pub IsGiven : ℕ → List Edit → Key × List Value → Type 0
IsGiven width own entry = Any (λ (edit : Edit). (edit.0 ≡ entry.0) × (option_map (padded width) edit.1 ≡ Some (padded width entry.1))) own

-- the parcel has the rows that own edits give their keys, in so many cells as the schema has columns; its groups are packed ones
-- of the schema, without a begin beside the base, and its other rows have no more cells
pub record IsParcelFor (schema : Schema) (sizes : Sizes) (own : List Edit) (parcel : Parcel) : Type 0 where
  pub parts : IsParcelOf sizes (inserted_by own) parcel
  pub packed : All (IsPackedGroup schema) parcel.groups
  pub wide : All (λ (entry : Key × List Value). length entry.1 ≤ length schema.columns) parcel.rest
  pub begun : All HasOneBegin parcel.groups
  pub given : All (IsGiven (length schema.columns) own) (parcel_rows parcel)
