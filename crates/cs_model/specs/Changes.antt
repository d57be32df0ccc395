-- Committed changes, and the table that they make.
use Rattle.std.specs.Prelude.{ℕ, List, [], map, filter, fold, nat_le, if◌then◌else◌, Option, None, Some}
use Rattle.std.specs.BTreeMap.{insert_entry, is_at}
use Rattle.std.specs.Map.{remove_entry}
use Rattle.cs_types.specs.declared.Value.{Value}
use Rattle.cs_types.specs.declared.Key.{Key}
use Rattle.cs_types.specs.Keys.{key_cmp, same_key}

-- a key, and what becomes of it: a row, or nothing
abbrev pub Edit : Type 0
Edit = Key × Option (List Value)

-- rows by key, the keys ascending
abbrev pub Table : Type 0
Table = List (Key × List Value)

-- a committed change: its commit number, its transaction, and what it made of a key
pub record Change : Type 0 where
  pub commit : ℕ
  pub txn : ℕ
  pub edit : Edit

-- the table with one edit laid over it: a row replaces or adds its key, nothing takes it away
abbrev pub edited_by : Table → Key → Option (List Value) → Table
edited_by table key (Some row) = insert_entry key_cmp table key row
edited_by table key None = remove_entry (is_at (key_cmp key)) table

abbrev pub edited : Table → Edit → Table
edited table edit = edited_by table edit.0 edit.1

-- the table with these edits laid over it, in their order
abbrev pub laid : Table → List Edit → Table
laid table edits = fold edited table edits

-- the changes numbered at most s, in the order of the list, which is that of their numbers
abbrev pub until : ℕ → List Change → List Change
until s changes = filter (λ (change : Change). nat_le change.commit s) changes

-- the table of a snapshot: the changes numbered at most s, laid over the empty table
abbrev pub table : List Change → ℕ → Table
table changes s = laid [] (map (λ (change : Change). change.edit) (until s changes))

-- the key's newest change
abbrev pub newest : Key → List Change → Option Change
newest key changes = fold (λ last (change : Change). if same_key key change.edit.0 then Some change else last) None changes

-- the key's last change numbered at most s
abbrev pub last_change : Key → ℕ → List Change → Option Change
last_change key s changes = newest key (until s changes)

-- what a change made of its key
abbrev pub made : Option Change → Option (List Value)
made None = None
made (Some change) = change.edit.1
