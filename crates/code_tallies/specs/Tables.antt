-- What is kept of the chosen rows of a group, an entry for each key number.
use Rattle.std.specs.Prelude.{◌≡◌, ◌<◌, ◌≤◌, ℕ, ◌+◌, ◌-◌, ◌*◌, ◌==◌, min, max, ℤ, pos, ◌+ℤ◌, Bool, false, ◌&&◌, nat_le, nat_lt, List, Option, None, Some, length, filter, fold, slice_index, slice_index_or, vec_len}
use Rattle.std.specs.List.{range_with_len, AllZip}
use Rattle.std.specs.Option.{option_copied}
use Rattle.std.specs.Cow.{cow_slice_items}
use Rattle.std.specs.declared.borrow.CowSlice.{CowSlice}
use Rattle.std.specs.declared.alloc.Global.{Global}
use Rattle.cs_types.specs.Rows.{number_in}
use Rattle.column_segment.specs.Bodies.{IsKnown}
use Rattle.cs_model.specs.declared.plan.Item.{Item}
use Rattle.row_group.specs.Groups.{Group}
use Rattle.batch_aggregate.specs.Tallies.{tally_of}
use Rattle.batch_aggregate.specs.declared.tally.Tally.{Tally}
use Rattle.batch_aggregate.specs.declared.tally.Tally.TheVariants as tally
use Rattle.code_tallies.specs.declared.column.Column.{Column}
use Rattle.code_tallies.specs.declared.table.Table.{Table}
use Rattle.code_tallies.specs.declared.table.Table.TheVariants.{Nothing, Rows, Counts, Sums, Least, Greatest, LeastCell, GreatestCell}
use Rattle.code_tallies.specs.declared.chosen.Chosen.{Chosen}
use Rattle.code_tallies.specs.declared.chosen.Batch.{Batch}
use Rattle.batch_kernels.specs.Places.{key_in, IsSumOf}
use Rattle.code_tallies.specs.Keys.{key_at}
use Rattle.code_tallies.specs.Columns.{code_at, cell_there, shown_code}
use Rattle.code_tallies.specs.Shown.{is_shown, rows_at}

-- whether a position is chosen: by a list, or where there is none as it is shown
abbrev pub chosen_by : Option (CowSlice Bool Global) → Option (List Bool) → ℕ → Bool
chosen_by None shown i = is_shown shown i
chosen_by (Some kept) shown i = slice_index_or (cow_slice_items kept) i false

-- the same by the list and the set of a group's chosen rows
abbrev pub is_chosen : Chosen → ℕ → Bool
is_chosen chosen i = chosen_by chosen.kept (option_copied chosen.shown) i

-- each position that is shown is chosen, and no other
abbrev pub IsEachShown : Chosen → Type 0
IsEachShown chosen = (i : ℕ) → is_chosen chosen i ≡ is_shown (option_copied chosen.shown) i

-- the positions below n that are chosen and have a key number
abbrev pub positions : (ℕ → Bool) → (ℕ → ℕ) → ℕ → ℕ → List ℕ
positions chosen key k n = filter (λ i. chosen i && key i == k) (range_with_len 0 n)

-- whether a position is chosen and the column's cell there is not NULL
abbrev pub present_in : Column → (ℕ → Bool) → ℕ → Bool
present_in column chosen i = chosen i && nat_le column.first (code_at column i)

-- the sum of the numbers at positions, the least and the greatest of the codes there
abbrev pub sum_at : Column → List ℕ → ℤ
sum_at column at = fold (λ sum i. sum +ℤ number_in (cell_there column i)) (pos 0) at

abbrev pub least_at : Column → List ℕ → ℕ
least_at column at = fold (λ least i. min least (code_at column i)) column.last at

abbrev pub greatest_at : Column → List ℕ → ℕ
greatest_at column at = fold (λ greatest i. max greatest (code_at column i)) 0 at

-- the tally that a table keeps for a key number, which so many rows have
abbrev pub tally_in : ℕ → Table → ℕ → Tally
tally_in rows Nothing k = tally.Nothing
tally_in rows Rows k = tally.Count rows
tally_in rows (Counts counts) k = tally.Count (slice_index counts.items k)
tally_in rows (Sums sums) k = tally.Sum (slice_index sums.counts.items k, slice_index_or sums.sums.items k (pos 0))
tally_in rows (Least codes) k = tally.Least (shown_code codes.column (slice_index codes.counts.items k) (slice_index codes.codes.items k))
tally_in rows (Greatest codes) k = tally.Greatest (shown_code codes.column (slice_index codes.counts.items k) (slice_index codes.codes.items k))
tally_in rows (LeastCell segment) k = tally.Least segment.now.least
tally_in rows (GreatestCell segment) k = tally.Greatest segment.now.greatest

-- a table has an entry for a key number, and its column knows all codes up to `last`
abbrev pub HasEntry : ℕ → Table → Type 0
HasEntry k Nothing = Unit {0}
HasEntry k Rows = Unit {0}
HasEntry k (Counts counts) = k < vec_len counts
HasEntry k (Sums sums) = k < vec_len sums.counts
HasEntry k (Least codes) = (k < vec_len codes.counts) × ((code : ℕ) → code ≤ codes.column.last → IsKnown codes.column.segment.now.body code)
HasEntry k (Greatest codes) = (k < vec_len codes.counts) × ((code : ℕ) → code ≤ codes.column.last → IsKnown codes.column.segment.now.body code)
HasEntry k (LeastCell segment) = Unit {0}
HasEntry k (GreatestCell segment) = Unit {0}

-- how many rows the batches before a number have
abbrev pub reached : Chosen → ℕ → ℕ
reached chosen number = min (1024 * number) chosen.length

-- a batch has the rows of its number: their key numbers, and which of them pass a test
pub record IsBatch (chosen : Chosen) (test : ℕ → Bool) (number : ℕ) (batch : Batch) : Type 0 where
  pub from : batch.from ≡ 1024 * number
  pub count : batch.count ≡ min 1024 (chosen.length - 1024 * number)
  pub some : 0 < batch.count
  pub keys : (i : ℕ) → i < batch.count → key_in batch.keys i ≡ key_at chosen.keys.items (batch.from + i)
  pub below : (i : ℕ) → i < batch.count → key_in batch.keys i < chosen.size
  pub mask : (i : ℕ) → i < batch.count → slice_index_or batch.mask i false ≡ test (batch.from + i)

-- a batch has the codes of a column
abbrev pub HasCodes : Column → Batch → Type 0
HasCodes column batch = (i : ℕ) → i < batch.count → slice_index batch.codes i ≡ code_at column (batch.from + i)

-- the positions that are present in a column and have a key number
abbrev pub present_positions : Chosen → Column → ℕ → ℕ → List ℕ
present_positions chosen column k n = positions (present_in column (is_chosen chosen)) (key_at chosen.keys.items) k n

-- the positions that are chosen and have a key number
abbrev pub key_positions : Chosen → ℕ → List ℕ
key_positions chosen k = positions (is_chosen chosen) (key_at chosen.keys.items) k chosen.length

-- for each key number how many of the positions below n pass a test
pub record AreCounts (chosen : Chosen) (test : ℕ → Bool) (n : ℕ) (counts : List ℕ) : Type 0 where
  pub long : length counts ≡ chosen.size
  pub each : (k : ℕ) → k < chosen.size → slice_index counts k ≡ length (positions test (key_at chosen.keys.items) k n)

-- for each key number the sum of a column over the positions below n that are present in it
pub record AreSums (chosen : Chosen) (column : Column) (n : ℕ) (sums : List ℤ) : Type 0 where
  pub long : length sums ≡ chosen.size
  pub each : (k : ℕ) → k < chosen.size → slice_index_or sums k (pos 0) ≡ sum_at column (present_positions chosen column k n)
  pub bound : (k : ℕ) → k < chosen.size → IsSumOf (length (present_positions chosen column k n)) (slice_index_or sums k (pos 0))

-- for each key number the least code of a column there
pub record AreLeast (chosen : Chosen) (column : Column) (n : ℕ) (codes : List ℕ) : Type 0 where
  pub long : length codes ≡ chosen.size
  pub each : (k : ℕ) → k < chosen.size → slice_index codes k ≡ least_at column (present_positions chosen column k n)

-- for each key number the greatest code of a column there
pub record AreGreatest (chosen : Chosen) (column : Column) (n : ℕ) (codes : List ℕ) : Type 0 where
  pub long : length codes ≡ chosen.size
  pub each : (k : ℕ) → k < chosen.size → slice_index codes k ≡ greatest_at column (present_positions chosen column k n)

-- the positions that are chosen and have a key number below k
abbrev pub positions_below : (ℕ → Bool) → (ℕ → ℕ) → ℕ → ℕ → List ℕ
positions_below chosen key k n = filter (λ i. chosen i && nat_lt (key i) k) (range_with_len 0 n)

abbrev pub keys_below : Chosen → ℕ → List ℕ
keys_below chosen k = positions_below (is_chosen chosen) (key_at chosen.keys.items) k chosen.length

-- a table keeps an item: its tally of each key number is that of the rows with this key number
pub record IsTableOf (group : Group) (chosen : Chosen) (item : Item) (table : Table) : Type 0 where
  pub long : (k : ℕ) → k < chosen.size → HasEntry k table
  pub tallies : (k : ℕ) → k < chosen.size → tally_in (length (key_positions chosen k)) table k ≡ tally_of (rows_at group (key_positions chosen k)) item

abbrev pub AreTablesOf : Group → Chosen → List Item → List Table → Type 0
AreTablesOf group chosen items tables = AllZip (IsTableOf group chosen) items tables
