-- The versions of groups by position.
use Rattle.std.proofs.Common.{◌≡◌, ℕ, zero, suc, ◌<◌, List, [], ◌∷◌, length, refl, sym, ap, ◌∙◌, arith}
use Rattle.std.specs.Prelude.{Option, None, Some, slice_get}
use Rattle.std.specs.Option.{option_map}
use Rattle.std.proofs.lemmas.Option.{same_Some, slice_get-get_or, slice_get-map, unwrap_or-slice_get}
use Rattle.cs_types.specs.declared.Key.{Key}
use Rattle.cs_types.specs.declared.row.Version.{Version as Stored}
use Rattle.cs_types.specs.Rows.{key_in, padded}
use Rattle.delete_bitmap.specs.declared.MarkedEnd.{MarkedEnd}
use Rattle.delete_bitmap.specs.Marks.{end_at}
use Rattle.delta_store.specs.declared.version.KeyedVersion.{KeyedVersion}
use Rattle.row_group.specs.Groups.{Group, row_at}
use Rattle.row_group.specs.Rows.{PackedRow}
use Rattle.group_book.specs.Book.{Version}
use Rattle.group_book.specs.Book.End.{At}
use Rattle.group_view.specs.Parts.{Rowed, end_of_mark, packed_version, packed_versions, stored_version, stored_versions}

-- the version at a position, if there is one
abbrev pub version_in : List Rowed → ℕ → Option Version
version_in versions position = option_map (λ (rowed : Rowed). rowed.version) (slice_get versions position)

-- ---- packed groups

pub length-packed_versions : (key : ℕ) (rows : List PackedRow) (marks : List (Option MarkedEnd)) → length marks ≡ length rows → length (packed_versions key rows marks) ≡ length rows
length-packed_versions key [] marks same = refl
length-packed_versions key (row ∷ rows) [] same = absurd (omega (arith, same))
length-packed_versions key (row ∷ rows) (mark ∷ marks) same = omega (arith, length-packed_versions key rows marks (omega (arith, same)))

-- a position among the versions is one of the rows and one of the bitmap
pub packed_within : (key : ℕ) (rows : List PackedRow) (marks : List (Option MarkedEnd)) (position : ℕ) → position < length (packed_versions key rows marks) → (position < length rows) × (position < length marks)
packed_within key [] marks position there = absurd (omega (arith, there))
packed_within key (row ∷ rows) [] position there = absurd (omega (arith, there))
packed_within key (row ∷ rows) (mark ∷ marks) zero there = (omega arith, omega arith)
packed_within key (row ∷ rows) (mark ∷ marks) (suc position) there =
    let rest = packed_within key rows marks position (omega (arith, there)) in
    (omega (arith, rest.0), omega (arith, rest.1))

pub packed_at : (key : ℕ) (rows : List PackedRow) (marks : List (Option MarkedEnd)) (position : ℕ) (row : PackedRow) (mark : Option MarkedEnd) → slice_get rows position ≡ Some row → slice_get marks position ≡ Some mark
    → slice_get (packed_versions key rows marks) position ≡ Some (packed_version key row mark)
packed_at key [] marks position row mark at_row at_mark = cc
packed_at key (x ∷ rows) [] position row mark at_row at_mark = cc
packed_at key (x ∷ rows) (y ∷ marks) zero row mark at_row at_mark =
    ap (λ r. Some (packed_version key r y)) (same_Some x row at_row) ∙ ap (λ m. Some (packed_version key row m)) (same_Some y mark at_mark)
packed_at key (x ∷ rows) (y ∷ marks) (suc position) row mark at_row at_mark = packed_at key rows marks position row mark at_row at_mark

module _ (group : Group) (marks : List (Option MarkedEnd)) (position : ℕ) (there : position < length (packed_versions group.key group.rows marks)) where
  within : (position < length group.rows) × (position < length marks)
  within = packed_within group.key group.rows marks position there

  pub packed_read : slice_get (packed_versions group.key group.rows marks) position ≡ Some (packed_version group.key (row_at group position) (end_at marks position))
  packed_read =
      packed_at group.key group.rows marks position (row_at group position) (end_at marks position) (slice_get-get_or group.rows position (record { cells = []; begin = 0 }) within.0)
      (slice_get-get_or marks position None within.1 ∙ ap Some (sym (unwrap_or-slice_get marks position None)))

  -- what is read of a row and of the bitmap is the version there
  pub packed_is : (key : Key) (begin : ℕ) (mark : Option MarkedEnd) → key ≡ key_in group.key (row_at group position).cells → begin ≡ (row_at group position).begin → mark ≡ end_at marks position
      → version_in (packed_versions group.key group.rows marks) position ≡ Some (record { key = key; begin = begin; end = end_of_mark mark })
  packed_is key begin mark key_is begin_is mark_is =
      ap (option_map (λ (rowed : Rowed). rowed.version)) packed_read
      ∙ ap Some (λ i. record { key = sym key_is i; begin = sym begin_is i; end = end_of_mark (sym mark_is i) })

  pub packed_row : (width : ℕ) → option_map (λ (rowed : Rowed). padded width rowed.row) (slice_get (packed_versions group.key group.rows marks) position) ≡ Some (padded width (row_at group position).cells)
  packed_row width = ap (option_map (λ (rowed : Rowed). padded width rowed.row)) packed_read

  pub packed_key : (version : Version) → version_in (packed_versions group.key group.rows marks) position ≡ Some version → version.key ≡ key_in group.key (row_at group position).cells
  packed_key version is =
      ap (λ (v : Version). v.key) (same_Some version _ (sym is ∙ ap (option_map (λ (rowed : Rowed). rowed.version)) packed_read))

-- ---- stores

module _ (key : Key) (stored : Stored) (mark : Option MarkedEnd) (end : end_of_mark mark ≡ option_map At stored.end) where
  stored_step : (o : Option KeyedVersion) → option_map (λ (v : KeyedVersion). v.key) o ≡ Some key → option_map (λ (v : KeyedVersion). v.version) o ≡ Some stored
      → option_map (λ (rowed : Rowed). rowed.version) (option_map stored_version o) ≡ Some (record { key = key; begin = stored.begin; end = end_of_mark mark })
  stored_step None at_key at_version = cc
  stored_step (Some v) at_key at_version =
      let is : v.version ≡ stored = same_Some v.version stored at_version in
      ap Some (λ i. record { key = same_Some v.key key at_key i; begin = (is i).begin; end = (ap (λ (w : Stored). option_map At w.end) is ∙ sym end) i })

  -- what is read of a store is the version there
  pub stored_is : (versions : List KeyedVersion) (position : ℕ) → option_map (λ (v : KeyedVersion). v.key) (slice_get versions position) ≡ Some key → option_map (λ (v : KeyedVersion). v.version) (slice_get versions position) ≡ Some stored
      → version_in (stored_versions versions) position ≡ Some (record { key = key; begin = stored.begin; end = end_of_mark mark })
  stored_is versions position at_key at_version =
      ap (option_map (λ (rowed : Rowed). rowed.version)) (slice_get-map stored_version versions position) ∙ stored_step (slice_get versions position) at_key at_version

row_step : (width : ℕ) (stored : Stored) (o : Option KeyedVersion) → option_map (λ (v : KeyedVersion). v.version) o ≡ Some stored → option_map (λ (rowed : Rowed). padded width rowed.row) (option_map stored_version o) ≡ Some (padded width stored.row)
row_step width stored None at_version = cc
row_step width stored (Some v) at_version = ap (λ (w : Stored). Some (padded width w.row)) (same_Some v.version stored at_version)

pub stored_row : (width : ℕ) (stored : Stored) (versions : List KeyedVersion) (position : ℕ) → option_map (λ (v : KeyedVersion). v.version) (slice_get versions position) ≡ Some stored
    → option_map (λ (rowed : Rowed). padded width rowed.row) (slice_get (stored_versions versions) position) ≡ Some (padded width stored.row)
stored_row width stored versions position at_version =
    ap (option_map (λ (rowed : Rowed). padded width rowed.row)) (slice_get-map stored_version versions position) ∙ row_step width stored (slice_get versions position) at_version
