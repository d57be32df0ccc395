-- The versions of a group with their rows.
use Rattle.std.specs.Prelude.{◌≡◌, ℕ, List, [], ◌∷◌, map, length, All, Option, None, Some}
use Rattle.std.specs.List.{flat_map}
use Rattle.std.specs.Option.{option_map}
use Rattle.cs_types.specs.declared.Schema.{Schema}
use Rattle.cs_types.specs.declared.Value.{Value}
use Rattle.cs_types.specs.Rows.{key_in}
use Rattle.delete_bitmap.specs.declared.MarkedEnd.{MarkedEnd}
use Rattle.delete_bitmap.specs.declared.MarkedEnd.TheVariants as marked
use Rattle.delta_store.specs.declared.version.KeyedVersion.{KeyedVersion}
use Rattle.row_group.specs.Rows.{PackedRow, AreInOrder}
use Rattle.row_group.specs.Groups as group
use Rattle.group_book.specs.Book.{End, Version}
use Rattle.group_book.specs.Book.End.{At, Plain}
use Rattle.group_view.specs.declared.parts.GroupPart.{GroupPart}
use Rattle.group_view.specs.declared.parts.GroupPart.TheVariants.{Packed, Store}
use Rattle.group_view.specs.declared.parts.GroupRef.{GroupRef}
use Rattle.group_view.specs.declared.parts.GroupRef.TheVariants as lent
use Rattle.group_view.specs.declared.lived.Lived.{Lived}

-- a version of the book with its row
pub record Rowed : Type 0 where
  pub version : Version
  pub row : List Value

-- the end that a bitmap records
abbrev pub end_of_mark : Option MarkedEnd → Option End
end_of_mark None = None
end_of_mark (Some marked.Plain) = Some Plain
end_of_mark (Some (marked.Stamped commit)) = Some (At commit)

-- the version of the book that code reads
abbrev pub lived_version : Lived → Version
lived_version lived = record { key = lived.key; begin = lived.begin; end = end_of_mark lived.end }

abbrev pub packed_version : ℕ → PackedRow → Option MarkedEnd → Rowed
packed_version key row mark = record {
  version = record { key = key_in key row.cells; begin = row.begin; end = end_of_mark mark };
  row = row.cells;
}

-- the rows of a packed group with the ends of its bitmap, position by position
abbrev pub packed_versions : ℕ → List PackedRow → List (Option MarkedEnd) → List Rowed
packed_versions key [] marks = []
packed_versions key (row ∷ rows) [] = []
packed_versions key (row ∷ rows) (mark ∷ marks) = packed_version key row mark ∷ packed_versions key rows marks

abbrev pub stored_version : KeyedVersion → Rowed
stored_version keyed = record {
  version = record { key = keyed.key; begin = keyed.version.begin; end = option_map At keyed.version.end };
  row = keyed.version.row;
}

-- the versions of a delta store
abbrev pub stored_versions : List KeyedVersion → List Rowed
stored_versions keyed = map stored_version keyed

-- the versions of a group by position
abbrev pub rowed_in : GroupPart → List Rowed
rowed_in (Packed packed marks) = let group = packed.value in packed_versions group.key group.rows marks.value
rowed_in (Store store) = stored_versions store.value

abbrev pub versions_in : GroupPart → List Version
versions_in part = map (λ rowed. rowed.version) (rowed_in part)

-- a packed group has a place in its bitmap for each row
abbrev pub IsFitting : GroupPart → Type 0
IsFitting (Packed packed marks) = let group = packed.value in length marks.value ≡ length group.rows
IsFitting (Store store) = Unit {0}

-- what is lent is what the group shares
abbrev pub IsBorrowed : GroupPart → GroupRef → Type 0
IsBorrowed (Packed packed marks) (lent.Packed group ends) = (group.now ≡ packed.value) × (ends.now ≡ marks.value)
IsBorrowed (Packed packed marks) (lent.Store versions) = ⊥
IsBorrowed (Store store) (lent.Packed group ends) = ⊥
IsBorrowed (Store store) (lent.Store versions) = versions.now ≡ store.value

-- ---- packed groups

-- a packed group of a table: its rows in the order that makes them small, in the table's columns, with the table's key
pub record IsPackedGroup (schema : Schema) (packed : group.Group) : Type 0 where
  pub order : AreInOrder (length schema.columns) packed.rows
  pub width : packed.width ≡ length schema.columns
  pub key : packed.key ≡ schema.key

-- each of these groups, which stand by id, is one of the table
abbrev pub ArePacked : Schema → List (ℕ × group.Group) → Type 0
ArePacked schema groups = All (λ (entry : ℕ × group.Group). IsPackedGroup schema entry.1) groups

abbrev pub packed_part : ℕ × GroupPart → List (ℕ × group.Group)
packed_part (id, Packed packed marks) = (id, packed.value) ∷ []
packed_part (id, Store store) = []

-- the packed groups of a view by id, without their bitmaps
abbrev pub packed_parts : List (ℕ × GroupPart) → List (ℕ × group.Group)
packed_parts parts = flat_map packed_part parts

-- packed groups by id with their rows in order, those of ended versions too
abbrev pub rows_by_id : List (ℕ × group.Group) → List (ℕ × List PackedRow)
rows_by_id groups = map (λ (entry : ℕ × group.Group). let packed = entry.1 in (entry.0, packed.rows)) groups
