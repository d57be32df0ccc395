-- The rows of an INSERT by columns, with their keys.
use Rattle.std.proofs.Common.{◌≡◌, ℕ, ℤ, ◌+◌, ◌-◌, ◌<◌, ◌≤◌, Bool, true, false, ◌||◌, ltb, cond, List, [], ◌∷◌, ◌++◌, length, get_or, map, filter, refl, sym, ap, ◌∙◌, subst, arith}
use Rattle.std.specs.Prelude.{Option, Some, Result, slice_get}
use Rattle.std.specs.declared.alloc.Global.{Global}
use Rattle.std.specs.declared.cmp.Ordering.TheVariants.{Less}
use Rattle.std.specs.declared.vec.Vec.{Vec}
use Rattle.std.specs.List.{All, AllByRecursion, Contains}
use Rattle.std.specs.List.Sorted.{IsStrictlySortedBy}
use Rattle.std.specs.Ordering.{is_eq}
use Rattle.std.proofs.lemmas.Bool.{le-ltb}
use Rattle.std.proofs.lemmas.Bool.Decides.{nat_tests}
use Rattle.std.proofs.lemmas.List.{get_or_append_left, get_or_at, length-map, length_push}
use Rattle.std.proofs.lemmas.List.Elements.{All-contains_itself, All-from_recursion, recursion_from_All}
use Rattle.std.proofs.lemmas.Map.Keys.{Less-from_sorted, sorted_from_all_adjacent}
use Rattle.std.proofs.lemmas.Simd.{map-map}
use Rattle.cs_types.specs.declared.Key.{Key}
use Rattle.cs_types.specs.declared.Schema.{Schema}
use Rattle.cs_types.specs.declared.Value.{Value}
use Rattle.cs_types.specs.Keys.{key_cmp, same_key}
use Rattle.cs_types.specs.Rows.{cell_at, key_in, number_cell, number_in}
use Rattle.cs_types.proofs.KeyLemmas.{key_total, one_key}
use Rattle.cs_model.specs.declared.entry.Refusal.{Refusal}
use Rattle.cs_model.specs.Answers as spec
use Rattle.cs_model.specs.Changes.{Edit, Table, laid}
use Rattle.cs_model.specs.Obstacles.{has_row, keys_of, stands_twice}
use Rattle.batch_compute.specs.Columns.{AreColumnsOf, GivesColumns}
use Rattle.edit_laws.specs.Edits.{edits_of}
use Rattle.write_set.specs.declared.write.Write.{Write}
use Rattle.write_set.specs.Writes.{write_keys}
use Rattle.group_book.proofs.Lists.{how_many-none}
use Rattle.group_view.specs.declared.view.Pinned.{Pinned}
use Rattle.row_work.specs.declared.load.LoadedColumns.{LoadedColumns}
use Rattle.row_work.specs.Inserts.{write_of, AreInserted, IsLoadOf}
use Rattle.row_work.specs.Keyed.{would_stand_twice, Replaces}
use Rattle.row_work.specs.Reads.{read_by, shown_by}
use Rattle.row_work.proofs.Kept.{ascend_by, every_key}
use Rattle.row_work.proofs.Puts.{often, twice_is}
use Rattle.row_work.proofs.RowWrites.{edits_as}

-- ---- keys that ascend

-- a key above the last of them ends them
pub up_more : (keys : List Key) (key : Key) → IsStrictlySortedBy key_cmp keys → (0 < length keys → key_cmp (get_or keys (length keys - 1) key) key ≡ Less) → IsStrictlySortedBy key_cmp (keys ++ key ∷ [])
up_more keys key up above = sorted_from_all_adjacent key_total (keys ++ key ∷ []) key adjacent
  where
    adjacent : (k : ℕ) → k + 1 < length (keys ++ key ∷ []) → key_cmp (get_or (keys ++ key ∷ []) k key) (get_or (keys ++ key ∷ []) (k + 1) key) ≡ Less
    adjacent k within = step (ltb (k + 1) (length keys)) refl
      where
        long : length (keys ++ key ∷ []) ≡ length keys + 1
        long = length_push keys key

        low : get_or (keys ++ key ∷ []) k key ≡ get_or keys k key
        low = get_or_append_left keys (key ∷ []) key k (omega (arith, within, long))

        step : (t : Bool) → ltb (k + 1) (length keys) ≡ t → key_cmp (get_or (keys ++ key ∷ []) k key) (get_or (keys ++ key ∷ []) (k + 1) key) ≡ Less
        step true is =
            let inside : k + 1 < length keys = grind (arith, nat_tests, is) in
            let next : k < k + 1 = omega arith in
            ap (λ (a : Key). key_cmp a (get_or (keys ++ key ∷ []) (k + 1) key)) low
            ∙ ap (key_cmp (get_or keys k key)) (get_or_append_left keys (key ∷ []) key (k + 1) inside)
            ∙ Less-from_sorted key_cmp keys k (k + 1) key up next inside
        step false is =
            let over : length keys ≤ k + 1 = grind (arith, nat_tests, is) in
            let end : length keys ≡ k + 1 = omega (arith, over, within, long) in
            let last : length keys - 1 ≡ k = omega (arith, end) in
            ap (λ (a : Key). key_cmp a (get_or (keys ++ key ∷ []) (k + 1) key)) low
            ∙ ap (key_cmp (get_or keys k key)) (get_or_at keys key [] key (k + 1) end)
            ∙ ap (λ (n : ℕ). key_cmp (get_or keys n key) key) (sym last)
            ∙ above (omega (arith, end))

apart_all : (key : Key) (keys : List Key) → AllByRecursion (λ other. key_cmp key other ≡ Less) keys → AllByRecursion (λ other. same_key key other ≡ false) keys
apart_all key [] all = tt
apart_all key (other ∷ keys) all = (ap is_eq all.0, apart_all key keys all.1)

-- each of them stands once
once : (keys : List Key) → IsStrictlySortedBy key_cmp keys → (key : Key) → often key keys ≤ 1
unfolding IsStrictlySortedBy
once [] up key = omega arith
once (k ∷ keys) up key = step (same_key key k) refl (once keys up.1 key)
  where
    step : (t : Bool) → same_key key k ≡ t → often key keys ≤ 1 → cond t 1 0 + often key keys ≤ 1
    step true is rest =
        let none : often key keys ≡ 0 = how_many-none (λ other. same_key key other) keys (subst (λ (z : Key). AllByRecursion (λ other. same_key z other ≡ false) keys) (sym (one_key key k is)) (apart_all k keys up.0)) in
        omega (arith, none)
    step false is rest = omega (arith, rest)

none_twice : (keys : List Key) → IsStrictlySortedBy key_cmp keys → (key : Key) → stands_twice keys key ≡ false
none_twice keys up key = twice_is keys key ∙ le-ltb 1 (often key keys) (once keys up key)

-- ---- a test that none passes

pub none_kept : {X : Type 0} (test : X → Bool) (xs : List X) → AllByRecursion (λ x. test x ≡ false) xs → filter test xs ≡ []
none_kept test [] none = refl
none_kept test (x ∷ xs) none = rw none.0 (none_kept test xs none.1)

-- ---- the keys of rows

abbrev key_of : Value → Key
key_of v = record { 0 = number_in v }

of_numbers : (keys : List Key) → map key_of (map number_cell (map (λ (key : Key). Some key.0) keys)) ≡ keys
of_numbers [] = refl
of_numbers (key ∷ keys) = ap (λ (rest : List Key). key ∷ rest) (of_numbers keys)

module _ (schema : Schema) where
  -- they are the numbers of the key's column
  keys_in_column : (rows : List (List Value)) (columns : List (Vec (Option ℤ) Global)) (column : Vec (Option ℤ) Global) (keys : List Key) → AreColumnsOf (length schema.columns) rows columns
      → slice_get columns schema.key ≡ Some column → map (λ (key : Key). Some key.0) keys ≡ column.items → keys ≡ map (key_in schema.key) rows
  keys_in_column rows columns column keys are at same =
      sym (of_numbers keys)
      ∙ ap (λ (cells : List (Option ℤ)). map key_of (map number_cell cells)) same
      ∙ ap (map key_of) (sym (are.cells schema.key column at))
      ∙ map-map key_of (λ row. cell_at row schema.key) rows

  edit_keys_are : (rows : List (List Value)) → keys_of (spec.edits_of schema rows) ≡ map (key_in schema.key) rows
  edit_keys_are [] = refl
  edit_keys_are (row ∷ rows) = ap (λ (keys : List Key). key_in schema.key row ∷ keys) (edit_keys_are rows)

  pub write_keys_are : (rows : List (List Value)) → write_keys (map (write_of schema) rows) ≡ map (key_in schema.key) rows
  write_keys_are [] = refl
  write_keys_are (row ∷ rows) = ap (λ (keys : List Key). key_in schema.key row ∷ keys) (write_keys_are rows)

  module _ (width : ℕ) (pinned : Pinned) where
    -- rows at keys that are not in the table of the snapshot replace none
    none_replaced : (rows : List (List Value)) → AllByRecursion (λ key. has_row (shown_by width pinned) key ≡ false) (map (key_in schema.key) rows) → AllByRecursion (Replaces width pinned) (map (write_of schema) rows)
    none_replaced [] absent = tt
    none_replaced (row ∷ rows) absent = (sym absent.0, none_replaced rows absent.1)

    -- and where nothing lies over that table, no key would stand twice
    none_stand : (edits : List Edit) (keys : List Key) → read_by width pinned ≡ shown_by width pinned → ((key : Key) → stands_twice (keys_of edits) key ≡ false)
        → AllByRecursion (λ key. has_row (shown_by width pinned) key ≡ false) keys → AllByRecursion (λ key. would_stand_twice width pinned edits key ≡ false) keys
    none_stand edits [] same each absent = tt
    none_stand edits (key ∷ keys) same each absent = (
      ap (λ (t : Bool). has_row (read_by width pinned) key || t) (each key)
          ∙ ap (λ (t : Table). has_row t key || false) same
          ∙ ap (λ (t : Bool). t || false) absent.0,
      none_stand edits keys same each absent.1,
    )

    -- what is written of rows whose keys ascend, none of which is in the table of the snapshot
    inserted_are : (rows : List (List Value)) (keys : List Key) → keys ≡ map (key_in schema.key) rows → IsStrictlySortedBy key_cmp keys → read_by width pinned ≡ shown_by width pinned
        → All (λ key. has_row (shown_by width pinned) key ≡ false) keys → AreInserted width pinned (spec.edits_of schema rows) (map (write_of schema) rows) [] (length rows)
    inserted_are rows keys are up same absent =
        let edits = spec.edits_of schema rows in
        let list = map (write_of schema) rows in
        let these : write_keys list ≡ keys = write_keys_are rows ∙ sym are in
        let each : AllByRecursion (λ key. has_row (shown_by width pinned) key ≡ false) keys = recursion_from_All (λ key. has_row (shown_by width pinned) key ≡ false) keys absent in
        let single : (key : Key) → stands_twice (keys_of edits) key ≡ false = λ key. ap (λ (all : List Key). stands_twice all key) (edit_keys_are rows ∙ sym are) ∙ none_twice keys up key in
        record {
          keyed = record {
            order = ascend_by list keys these up;
            each = subst (λ (of : List Edit). All (Contains edits) of) (edits_as schema rows) (All-contains_itself edits);
            every = subst (λ (of : List Edit). All (λ (edit : Edit). Contains (write_keys list) edit.0) of) (sym (edits_as schema rows)) (every_key list);
          };
          replaces = All-from_recursion (Replaces width pinned) list (none_replaced rows (subst (AllByRecursion (λ key. has_row (shown_by width pinned) key ≡ false)) are each));
          present = sym (ap (filter (would_stand_twice width pinned edits)) these ∙ none_kept (would_stand_twice width pinned edits) keys (none_stand edits keys same single each));
          affected = sym (length-map rows (λ (row : List Value). (key_in schema.key row, Some row)));
        }

-- columns of the wanted rows with keys that ascend, are in the key's column and are not in the table of the snapshot
pub is_load_of : (schema : Schema) (pinned : Pinned) (wanted : Result (List (List Value)) Refusal) (loaded : LoadedColumns) (column : Vec (Option ℤ) Global) → pinned.own ≡ [] → GivesColumns (length schema.columns) wanted loaded.columns.items
    → slice_get loaded.columns.items schema.key ≡ Some column → map (λ (key : Key). Some key.0) loaded.keys.items ≡ column.items → IsStrictlySortedBy key_cmp loaded.keys.items
    → ((width : ℕ) → All (λ key. has_row (shown_by width pinned) key ≡ false) loaded.keys.items) → IsLoadOf schema pinned wanted loaded
is_load_of schema pinned wanted loaded column bare given at numbers up absent =
    let width = length schema.columns in
    let (rows, written, columns) = given in
    let keys = keys_in_column schema rows loaded.columns.items column loaded.keys.items columns at numbers in
    let same : read_by width pinned ≡ shown_by width pinned = ap (λ (own : List Write). laid (shown_by width pinned) (edits_of own)) bare in
    record {
      rows = rows;
      written = written;
      columns = columns;
      keys = keys;
      inserted = inserted_are schema width pinned rows loaded.keys.items keys up same (absent width);
    }
