-- What contracts see of a packed group.
use Rattle.std.specs.Prelude.{◌≡◌, ◌<◌, ◌≤◌, ℕ, ◌==◌, List, [], length, map, slice_index, slice_index_or, Option, None, Some, Bool, true, false, if◌then◌else◌, IsPermutation}
use Rattle.std.specs.declared.cmp.Ordering.{Ordering}
use Rattle.std.specs.declared.cmp.Ordering.TheVariants.{Less, Equal, Greater}
use Rattle.cs_types.specs.declared.Key.{Key}
use Rattle.cs_types.specs.declared.Schema.{Schema}
use Rattle.cs_types.specs.declared.row.Version.{Version}
use Rattle.cs_types.specs.declared.Value.{Value}
use Rattle.cs_types.specs.Keys.{key_cmp}
use Rattle.cs_types.specs.Rows.{key_in, number_in}
use Rattle.row_group.specs.Orders.{IsOrderOf}
use Rattle.row_group.specs.Rows.{PackedRow, repacked, row_of, AreInOrder}

-- the rows in their order, the number of columns, the key's column, the begin of each row without one of its own, and the
-- positions of the rows by key
pub record Group : Type 0 where
  pub rows : List PackedRow
  pub width : ℕ
  pub key : ℕ
  pub base : ℕ
  pub places : List ℕ

-- the row at a position
abbrev pub row_at : Group → ℕ → PackedRow
row_at group position = slice_index_or group.rows position (record { cells = []; begin = 0 })

-- a begin of a row's own: one that is not the base
abbrev pub begin_beside : ℕ → ℕ → Option ℕ
begin_beside base begin = if begin == base then None else Some begin

-- the row with another begin
abbrev pub begun_at : ℕ → PackedRow → PackedRow
begun_at begin row = record row { begin = begin }

-- the key that a cell is
abbrev pub key_of_cell : Value → Key
key_of_cell cell = record { 0 = number_in cell }

-- the keys of rows
abbrev pub keys_of : ℕ → List PackedRow → List Key
keys_of key rows = map (λ row. key_in key row.cells) rows

-- the group of rows with a base: exactly these rows, in order, and its positions by key, those of one key in their own
-- order
pub record HoldsRows (schema : Schema) (given : List PackedRow) (floor : ℕ) (group : Group) : Type 0 where
  pub rows : IsPermutation given group.rows
  pub order : AreInOrder (length schema.columns) group.rows
  pub places : IsOrderOf key_cmp (keys_of schema.key group.rows) group.places
  pub width : group.width ≡ length schema.columns
  pub key : group.key ≡ schema.key
  pub base : group.base ≡ floor

-- the group of the versions that are kept above a floor
abbrev pub IsGroupOf : Schema → List Version → ℕ → Group → Type 0
IsGroupOf schema versions floor group =
    HoldsRows schema (map (row_of (length schema.columns)) (repacked versions floor)) floor group

-- what is less comes before, and what is equal where ties are to
abbrev pub precedes : Bool → Ordering → Bool
precedes tied Less = true
precedes tied Equal = tied
precedes tied Greater = false

-- the key of the row at a place among the positions by key
abbrev pub key_at_place : Group → ℕ → Key
key_at_place group place = key_in group.key (row_at group (slice_index group.places place)).cells

-- the places from one up to another, among the positions by key, are those of a key
pub record ArePlacesOf (group : Group) (key : Key) (from to : ℕ) : Type 0 where
  pub ordered : from ≤ to
  pub within : to ≤ length group.places
  pub of_key : (i : ℕ) → from ≤ i → i < to → key_at_place group i ≡ key
  pub every : (position : ℕ) → position < length group.rows → key_in group.key (row_at group position).cells ≡ key → (i : ℕ) × (from ≤ i) × (i < to) × (slice_index group.places i ≡ position)

-- the places hold each position once, by the keys of the rows there, those of one key in their own order
abbrev pub AreByKey : Group → Type 0
AreByKey group = IsOrderOf key_cmp (keys_of group.key group.rows) group.places

-- the keys at all places below `low` come before this one, or tie with it where those of this key are passed over, and none from
-- `high` on does: the first place that does not is `low`, `high` or one between them
pub record IsFirstBetween (group : Group) (key : Key) (tied : Bool) (low high : ℕ) : Type 0 where
  pub ordered : low ≤ high
  pub within : high ≤ length group.places
  pub before : (i : ℕ) → i < low → precedes tied (key_cmp (key_at_place group i) key) ≡ true
  pub after : (i : ℕ) → high ≤ i → i < length group.places → precedes tied (key_cmp (key_at_place group i) key) ≡ false

-- the first place whose key does not come before this one, or, where those of this key are passed over, comes after it; the
-- number of places where there is none
pub record IsFirstPlace (group : Group) (key : Key) (tied : Bool) (place : ℕ) : Type 0 where
  pub within : place ≤ length group.places
  pub before : (i : ℕ) → i < place → precedes tied (key_cmp (key_at_place group i) key) ≡ true
  pub after : (i : ℕ) → place ≤ i → i < length group.places → precedes tied (key_cmp (key_at_place group i) key) ≡ false

-- where a key lies to those of a group: below all of them, above all of them, or anywhere
abbrev pub IsSide : Group → Key → Ordering → Type 0
IsSide group key Less = (i : ℕ) → i < length group.places → key_cmp (key_at_place group i) key ≡ Greater
IsSide group key Equal = Unit {0}
IsSide group key Greater = (i : ℕ) → i < length group.places → key_cmp (key_at_place group i) key ≡ Less
