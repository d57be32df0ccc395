-- What an INSERT puts at its keys.
use Rattle.std.specs.Prelude.{◌≡◌, ◌||◌, ◌++◌, ◌-◌, ℕ, List, [], ◌∷◌, length, map, filter, All, Contains, Bool, false, if◌then◌else◌, Option, None, Some, slice_get, Result, Ok, Err}
use Rattle.std.specs.List.Sorted.{IsStrictlySortedBy}
use Rattle.cs_types.specs.declared.Key.{Key}
use Rattle.cs_types.specs.declared.Schema.{Schema}
use Rattle.cs_types.specs.declared.Value.{Value}
use Rattle.cs_types.specs.Keys.{key_cmp, same_key}
use Rattle.cs_types.specs.Rows.{key_in}
use Rattle.cs_model.specs.declared.entry.Refusal.{Refusal}
use Rattle.cs_model.specs.declared.expr.Expr.{Expr}
use Rattle.cs_model.specs.Answers as spec
use Rattle.cs_model.specs.Answers.{inserted_row}
use Rattle.cs_model.specs.Changes.{Edit, Table}
use Rattle.cs_model.specs.Obstacles.{has_row, keys_of, stands_twice}
use Rattle.batch_compute.specs.Columns.{AreColumnsOf}
use Rattle.edit_laws.specs.Edits.{edits_of}
use Rattle.group_view.specs.declared.view.Pinned.{Pinned}
use Rattle.row_work.specs.declared.insert.InsertedRows.{InsertedRows}
use Rattle.row_work.specs.declared.load.LoadedColumns.{LoadedColumns}
use Rattle.row_work.specs.declared.refusal.WriteRefusal.{WriteRefusal}
use Rattle.row_work.specs.Gives.{RefusesRows}
use Rattle.row_work.specs.Keyed.{would_stand_twice, AreKeyed, Replaces}
use Rattle.write_set.specs.Writes.{write_keys}
use Rattle.row_work.specs.Reads.{read_by}
use Rattle.write_set.specs.declared.write.Write.{Write}

-- the write of a row at its key, which does not say yet whether it replaces one
abbrev pub write_of : Schema → List Value → Write
write_of schema row = record { key = key_in schema.key row; row = Some row; replaces = false }

abbrev pub as_write : Schema → Result (List Value) (ℕ × ℕ) → Result Write (ℕ × ℕ)
as_write schema (Ok row) = Ok (write_of schema row)
as_write schema (Err refusal) = Err refusal

-- the write of the row of an INSERT, or its refusal
abbrev pub inserted_write : Schema → Schema → List ℕ → List Value → List Expr → Result Write (ℕ × ℕ)
inserted_write schema source columns read exprs = as_write schema (inserted_row schema source columns read exprs)

-- a row that is put at a key, and whether there is another of the key
pub record Put : Type 0 where
  pub key : Key
  pub row : Option (List Value)
  pub twice : Bool

abbrev pub put_keys : List Put → List Key
put_keys puts = map (λ (put : Put). put.key) puts

-- each row that is put, at its key
abbrev pub puts_as_edits : List Put → List Edit
puts_as_edits puts = map (λ (put : Put). (put.key, put.row)) puts

-- the write, if there is one, is of the key; the key, if there is one, is this one
abbrev pub is_of : Key → Option Write → Bool
is_of key None = false
is_of key (Some write) = same_key write.key key

abbrev pub is_key : Key → Option Key → Bool
is_key key None = false
is_key key (Some last) = same_key last key

-- the keys with one more, where it is not the last of them
abbrev pub noted : Key → List Key → List Key
noted key keys = if is_key key (slice_get keys (length keys - 1)) then keys else keys ++ key ∷ []

-- one row for each key of the edits, by key, which says whether they have another
pub record ArePuts (edits : List Edit) (puts : List Put) : Type 0 where
  pub order : IsStrictlySortedBy key_cmp (put_keys puts)
  pub each : All (Contains edits) (puts_as_edits puts)
  pub every : All (λ (edit : Edit). Contains (put_keys puts) edit.0) edits
  pub twice : All (λ (put : Put). put.twice ≡ stands_twice (keys_of edits) put.key) puts

-- a row whose key would stand twice
abbrev pub is_double : Table → Put → Bool
is_double table put = put.twice || has_row table put.key

-- writes of the edits by key, one for each key, with the keys that would stand twice
pub record AreJudged (pinned : Pinned) (edits : List Edit) (writes : List Write) (keys : List Key) : Type 0 where
  pub puts : List Put
  pub are : ArePuts edits puts
  pub made : edits_of writes ≡ puts_as_edits puts
  pub replaces : (width : ℕ) → All (Replaces width pinned) writes
  pub present : (width : ℕ) → keys ≡ put_keys (filter (is_double (read_by width pinned)) puts)

-- what is written of the edits: the writes, the keys that would stand twice, and how many rows
pub record AreInserted (width : ℕ) (pinned : Pinned) (edits : List Edit) (writes : List Write) (keys : List Key) (count : ℕ) : Type 0 where
  pub keyed : AreKeyed edits writes
  pub replaces : All (Replaces width pinned) writes
  pub present : keys ≡ filter (would_stand_twice width pinned edits) (write_keys writes)
  pub affected : count ≡ length edits

-- that of the wanted edits, or their refusal
abbrev pub GivesInserted : ℕ → Pinned → Result (List Edit) Refusal → Result InsertedRows WriteRefusal → Type 0
GivesInserted width pinned wanted (Ok rows) = (edits : List Edit) × (wanted ≡ Ok edits) × AreInserted width pinned edits rows.writes.items rows.present.items rows.affected
GivesInserted width pinned wanted (Err e) = RefusesRows wanted e

-- the wanted rows by columns, with their keys: their writes, in their order, are what is written of them. No key would stand twice, and none
-- is in the table of the snapshot
pub record IsLoadOf (schema : Schema) (pinned : Pinned) (wanted : Result (List (List Value)) Refusal) (loaded : LoadedColumns) : Type 0 where
  pub rows : List (List Value)
  pub written : wanted ≡ Ok rows
  pub columns : AreColumnsOf (length schema.columns) rows loaded.columns.items
  pub keys : loaded.keys.items ≡ map (key_in schema.key) rows
  pub inserted : AreInserted (length schema.columns) pinned (spec.edits_of schema rows) (map (write_of schema) rows) [] (length rows)
