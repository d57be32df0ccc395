-- What the work of a claim gives.
use Rattle.std.specs.Prelude.{◌≡◌, ℕ, ◌<◌, List, [], map, filter, length, not, nat_le, true, IsPermutation, Option, None, Some, is_some, All}
use Rattle.std.specs.List.{AllZip}
use Rattle.std.specs.declared.alloc.Global.{Global}
use Rattle.std.specs.declared.sync.Arc.{Arc}
use Rattle.cs_types.specs.declared.Schema.{Schema}
use Rattle.cs_types.specs.Rows.{padded}
use Rattle.cs_types.specs.Schemas.{IsSchema}
use Rattle.cs_model.specs.Held.{IsRowAt}
use Rattle.delete_bitmap.specs.declared.Marks.{Marks}
use Rattle.row_group.specs.declared.packed.Packed.{Packed}
use Rattle.group_book.specs.Book as book
use Rattle.group_book.specs.Book.{Version, Ending, has_ended}
use Rattle.group_book.specs.Book.Choice.{Compress, Flush, Rebuild, Merge, Settle, Clear, Idle}
use Rattle.group_book.specs.Invariant.{makes_group}
use Rattle.group_book.specs.Turns.{entries_for, is_gone, raised, flushed}
use Rattle.group_view.specs.declared.claim.Claim.{Claim}
use Rattle.group_view.specs.declared.claim.Product.{Product}
use Rattle.group_view.specs.declared.claim.Product.TheVariants.{Group, Marked}
use Rattle.group_view.specs.declared.parts.GroupPart.{GroupPart}
use Rattle.group_view.specs.declared.parts.GroupPart.TheVariants as part
use Rattle.group_view.specs.Parts.{Rowed, packed_versions, IsFitting, IsPackedGroup}
use Rattle.group_view.specs.Views.{endings_of, buffer_of, rowed_of}
use Rattle.group_view.specs.Books.{versions_of, choice_of}

-- the version with its row in so many cells
abbrev pub padded_rowed : ℕ → Rowed → Rowed
padded_rowed width rowed = record rowed { row = padded width rowed.row }

-- ---- the work of a claim

-- the entries of the claim's buffer that end the versions that it lends
abbrev pub lent_entries : Claim → List Ending
lent_entries claim = entries_for (buffer_of claim.view) (versions_of (rowed_of claim.view))

-- what the new group keeps of the lent versions: those that had not ended at the claim's floor, with begins of at least that
abbrev pub kept_rowed : Claim → List Rowed
kept_rowed claim = map (λ (rowed : Rowed). record rowed { version = raised claim.floor rowed.version })
    (filter (λ (rowed : Rowed). not (is_gone claim.floor (lent_entries claim) rowed.version)) (rowed_of claim.view))

-- the rows of a packed group with its bitmap
abbrev pub rowed_of_packed : Packed → Marks → List Rowed
rowed_of_packed group marks = packed_versions group.key group.rows marks

-- a packed group of a table, with a bitmap of its length
pub record IsPackedFor (schema : Schema) (group : Packed) (marks : Marks) : Type 0 where
  pub packed : IsPackedGroup schema group
  pub fitting : length marks ≡ length group.rows

-- the new group has the kept versions, in the order of a packed group, with their rows; there is none where nothing is kept
abbrev pub IsMadeOf : Claim → Option (Arc Packed Global × Arc Marks Global) → Type 0
IsMadeOf claim None = kept_rowed claim ≡ []
IsMadeOf claim (Some group) =
    IsPermutation (map (padded_rowed (length claim.schema.value.columns)) (kept_rowed claim)) (rowed_of_packed group.0.value group.1.value)
    × (0 < length (kept_rowed claim))
    × IsPackedFor claim.schema.value group.0.value group.1.value

-- the bitmap of a source with the ends of the entries that a flush writes
abbrev pub IsMarkedOf : Claim → ℕ × GroupPart → ℕ × Arc Marks Global → Type 0
IsMarkedOf claim (id, part.Packed group marks) marked =
    (marked.0 ≡ id)
    × (length marked.1.value ≡ length marks.value)
    × (versions_of (rowed_of_packed group.value marked.1.value) ≡ map (flushed (buffer_of claim.view) (lent_entries claim)) (versions_of (rowed_of_packed group.value marks.value)))
IsMarkedOf claim (id, part.Store store) marked = ⊥

-- the product is what the work of the claim gives: the new group and the entries that go with left-out versions; or of a flush
-- the bitmap of each source
abbrev pub IsProductOf : Claim → Product → Type 0
IsProductOf claim (Group group spent) =
    (makes_group (choice_of claim.choice) ≡ true) × IsMadeOf claim group × (endings_of spent ≡ filter (λ (entry : Ending). nat_le entry.end claim.floor) (lent_entries claim))
IsProductOf claim (Marked marks) = (choice_of claim.choice ≡ Flush) × AllZip (IsMarkedOf claim) claim.view.groups marks

-- ---- which claims may be worked on

-- in the table's cells the version has a row of the table under its key
abbrev pub IsLentRow : Schema → Rowed → Type 0
IsLentRow schema rowed = IsRowAt schema rowed.version.key (padded (length schema.columns) rowed.row)

-- a packed group has the table's columns and its key
abbrev pub IsTablePart : Schema → GroupPart → Type 0
IsTablePart schema (part.Packed group marks) = let packed = group.value in (packed.width ≡ length schema.columns) × (packed.key ≡ schema.key)
IsTablePart schema (part.Store store) = Unit {0}

abbrev pub IsPackedPart : GroupPart → Type 0
IsPackedPart (part.Packed group marks) = Unit {0}
IsPackedPart (part.Store store) = ⊥

-- where an end is recorded, it alone says whether the version had ended
abbrev pub IsEndedOnce : ℕ → List Ending → Version → Type 0
IsEndedOnce floor entries version = is_some version.end ≡ true → is_gone floor entries version ≡ has_ended floor version.end

-- the kind has work: the sources of a flush are packed, and its entries are those that end versions of theirs
abbrev pub HasWork : Claim → book.Choice → Type 0
HasWork claim (Compress source) = Unit {0}
HasWork claim Flush = All (λ (group : ℕ × _). IsPackedPart group.1) claim.view.groups × (endings_of claim.entries ≡ lent_entries claim)
HasWork claim (Rebuild source) = Unit {0}
HasWork claim (Merge first second) = Unit {0}
HasWork claim Settle = ⊥
HasWork claim Clear = ⊥
HasWork claim Idle = ⊥

-- the claim is of a table: its kind has work, and what it lends is of the table's rows; bitmaps fit their groups
pub record IsMendable (claim : Claim) : Type 0 where
  pub schema : IsSchema claim.schema.value
  pub work : HasWork claim (choice_of claim.choice)
  pub fitting : All (λ (group : ℕ × _). IsFitting group.1) claim.view.groups
  pub parts : All (λ (group : ℕ × _). IsTablePart claim.schema.value group.1) claim.view.groups
  pub rows : All (IsLentRow claim.schema.value) (rowed_of claim.view)
  pub ends : All (IsEndedOnce claim.floor (lent_entries claim)) (versions_of (rowed_of claim.view))
