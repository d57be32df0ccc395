-- Rows that are read one by one.
use Rattle.std.proofs.Common.{◌≡◌, ℕ, zero, suc, ◌+◌, Bool, true, false, cond, not, List, [], ◌∷◌, ◌++◌, map, take, drop, refl, sym, ap, ◌∙◌, subst, append_assoc, arith}
use Rattle.std.specs.Prelude.{Option, None, Some, slice_get, unwrap_or}
use Rattle.std.specs.List.{All, flat_map}
use Rattle.std.specs.Option.{option_and_then, option_map, option_to_list}
use Rattle.std.specs.Map.{values_of}
use Rattle.std.proofs.lemmas.List.{append-nil, map-append}
use Rattle.std.proofs.lemmas.List.Elements.{All-append, All-cons, All-nil, filter-append}
use Rattle.std.proofs.lemmas.Bool.{and_from, and_parts}
use Rattle.std.proofs.lemmas.Option.{same_Some}
use Rattle.cs_types.specs.declared.Key.{Key}
use Rattle.cs_types.specs.declared.Schema.{Schema}
use Rattle.cs_types.specs.declared.Value.{Value}
use Rattle.cs_model.specs.declared.pred.Pred.{Pred}
use Rattle.cs_model.specs.Queries.{keeps}
use Rattle.cs_model.specs.Answers.{chosen}
use Rattle.cs_model.specs.Changes.{Edit, Table}
use Rattle.cs_types.specs.Keys.{same_key}
use Rattle.cs_types.specs.Rows.{padded}
use Rattle.edit_laws.specs.Edits.{writes_key}
use Rattle.group_book.specs.Book.{is_visible, shows}
use Rattle.group_book.proofs.Keys.{key_here}
use Rattle.group_view.specs.declared.parts.GroupPart.{GroupPart}
use Rattle.group_view.specs.declared.view.GroupView.{GroupView}
use Rattle.group_view.specs.declared.view.Pinned.{Pinned}
use Rattle.group_view.specs.declared.view.Place.{Place}
use Rattle.group_view.specs.Parts.{Rowed, rowed_in}
use Rattle.group_view.specs.Views.{buffer_of, is_shown, version_at, Shows}
use Rattle.group_view.specs.Laws.{shown_row}
use Rattle.row_work.specs.declared.choose.Chosen.{Chosen}
use Rattle.batch_scan.specs.Reads.{is_read, rowed_at}
use Rattle.row_work.specs.Reads.{read_row}
use Rattle.row_work.specs.Sources.{chosen_edit, rows_as_edits}
pub use Rattle.batch_scan.proofs.Walks.{groups_more, read_more, values_append}

-- ---- groups that are read

get_on : {X : Type 0} (n : ℕ) (xs : List X) (i : ℕ) → slice_get (drop n xs) i ≡ slice_get xs (n + i)
get_on zero xs i = let e : i ≡ 0 + i = omega arith in ap (slice_get xs) e
get_on (suc n) [] i = refl
get_on (suc n) (x ∷ xs) i = let e : suc (n + i) ≡ suc n + i = omega arith in get_on n xs i ∙ ap (slice_get (x ∷ xs)) e

-- the rows of one group more
pub groups_on : (view : GroupView) (from n : ℕ) → flat_map (λ (group : ℕ × GroupPart). rowed_in group.1) (take (n + 1) (drop from view.groups)) ≡ flat_map (λ (group : ℕ × GroupPart). rowed_in group.1) (take n (drop from view.groups)) ++ rowed_at view (from + n)
groups_on view from n =
    let behind : GroupView = record { groups = drop from view.groups; buffer = view.buffer; floor = view.floor; clock = view.clock } in
    groups_more behind n ∙ ap (λ o. flat_map (λ (group : ℕ × GroupPart). rowed_in group.1) (take n (drop from view.groups)) ++ unwrap_or (option_map (λ (part : ℕ × GroupPart). rowed_in part.1) o) []) (get_on from view.groups n)

-- ---- rows that are chosen, as edits

module _ (schema : Schema) (condition : Option Pred) where
  abbrev pub picked : Table → List Edit
  picked rows = rows_as_edits (chosen schema condition rows)

  pub picked_append : (xs ys : Table) → picked (xs ++ ys) ≡ picked xs ++ picked ys
  picked_append xs ys =
      ap rows_as_edits (filter-append (λ (entry : Key × List Value). keeps schema condition entry.1) xs ys)
      ∙ map-append (λ (entry : Key × List Value). (entry.0, Some entry.1)) (chosen schema condition xs) (chosen schema condition ys)

  -- a row that is kept, and one that is not
  pub picked_one : (entry : Key × List Value) → keeps schema condition entry.1 ≡ true → picked (entry ∷ []) ≡ (entry.0, Some entry.1) ∷ []
  picked_one entry is = ap (λ t. rows_as_edits (cond t (entry ∷ []) [])) is

  pub picked_none : (entry : Key × List Value) → keeps schema condition entry.1 ≡ false → picked (entry ∷ []) ≡ []
  picked_none entry is = ap (λ t. rows_as_edits (cond t (entry ∷ []) [])) is

-- ---- one row more, or none

entry_of : {A : Type 0} (f : A → Key × List Value) (o : Option A) (x : A) (read : Option (Key × List Value)) → option_map f o ≡ read → o ≡ Some x → read ≡ Some (f x)
entry_of f o x read made is = sym made ∙ ap (option_map f) is

none_of : {A : Type 0} (f : A → Key × List Value) (o : Option A) (read : Option (Key × List Value)) → option_map f o ≡ read → o ≡ None → read ≡ None
none_of f o read made is = sym made ∙ ap (option_map f) is

module _ (Before After : List (List Value) → Type 0) (front : Table) (read : Option (Key × List Value)) where
  added_some : (entry : Key × List Value) → read ≡ Some entry → ((rows : List (List Value)) → Before rows → After (rows ++ entry.1 ∷ [])) → (rows : List (List Value)) → Before (rows ++ values_of front) → After (rows ++ values_of (front ++ option_to_list read))
  added_some entry is step rows stands =
      subst (λ o. After (rows ++ values_of (front ++ option_to_list o))) (sym is)
      (subst (λ l. After (rows ++ l)) (sym (values_append front (entry ∷ [])))
      (subst After (append_assoc rows (values_of front) (entry.1 ∷ [])) (step (rows ++ values_of front) stands)))

  added_none : read ≡ None → ((rows : List (List Value)) → Before rows → After rows) → (rows : List (List Value)) → Before (rows ++ values_of front) → After (rows ++ values_of (front ++ option_to_list read))
  added_none is step rows stands =
      subst (λ o. After (rows ++ values_of (front ++ option_to_list o))) (sym is) (subst (λ l. After (rows ++ values_of l)) (sym (append-nil front)) (step (rows ++ values_of front) stands))

-- a partial answer with one more row that was read, or the same one
pub more_some : {A : Type 0} (Before After : List (List Value) → Type 0) (front : Table) (f : A → Key × List Value) (o : Option A) (x : A) (read : Option (Key × List Value)) → option_map f o ≡ read → o ≡ Some x
    → ((rows : List (List Value)) → Before rows → After (rows ++ (f x).1 ∷ [])) → (rows : List (List Value)) → Before (rows ++ values_of front) → After (rows ++ values_of (front ++ option_to_list read))
more_some Before After front f o x read made is step = added_some Before After front read (f x) (entry_of f o x read made is) step

pub more_none : {A : Type 0} (Before After : List (List Value) → Type 0) (front : Table) (f : A → Key × List Value) (o : Option A) (read : Option (Key × List Value)) → option_map f o ≡ read → o ≡ None
    → ((rows : List (List Value)) → Before rows → After rows) → (rows : List (List Value)) → Before (rows ++ values_of front) → After (rows ++ values_of (front ++ option_to_list read))
more_none Before After front f o read made is step = added_none Before After front read (none_of f o read made is) step

-- ---- one row chosen more

module _ (width : ℕ) (pinned : Pinned) (schema : Schema) (condition : Option Pred) where
  kept_edits : (one : Chosen) (row : List Value) (t : Bool) → keeps schema condition row ≡ t → chosen_edit width pinned one ≡ (one.key, Some row) → map (chosen_edit width pinned) (cond t (one ∷ []) []) ≡ picked schema condition ((one.key, row) ∷ [])
  kept_edits one row true kept is = ap (λ (e : Edit). e ∷ []) is ∙ sym (picked_one schema condition (one.key, row) kept)
  kept_edits one row false kept is = sym (picked_none schema condition (one.key, row) kept)

  pub chose_some : (chosen new : List Chosen) (initial : List Edit) (front : Table) (read : Option (Key × List Value)) (one : Chosen) (row : List Value) → read ≡ Some (one.key, row) → chosen_edit width pinned one ≡ (one.key, Some row)
      → map (chosen_edit width pinned) chosen ≡ initial ++ picked schema condition front → new ≡ chosen ++ cond (keeps schema condition row) (one ∷ []) [] → map (chosen_edit width pinned) new ≡ initial ++ picked schema condition (front ++ option_to_list read)
  chose_some chosen new initial front read one row was is before pushed =
      ap (map (chosen_edit width pinned)) pushed ∙ map-append (chosen_edit width pinned) chosen (cond (keeps schema condition row) (one ∷ []) [])
      ∙ ap (λ l. l ++ map (chosen_edit width pinned) (cond (keeps schema condition row) (one ∷ []) [])) before
      ∙ ap (λ l. (initial ++ picked schema condition front) ++ l) (kept_edits one row (keeps schema condition row) refl is)
      ∙ append_assoc initial (picked schema condition front) (picked schema condition ((one.key, row) ∷ []))
      ∙ ap (λ l. initial ++ l) (sym (picked_append schema condition front ((one.key, row) ∷ [])))
      ∙ ap (λ o. initial ++ picked schema condition (front ++ option_to_list o)) (sym was)

  pub chose_none : (chosen : List Chosen) (initial : List Edit) (front : Table) (read : Option (Key × List Value)) → read ≡ None → map (chosen_edit width pinned) chosen ≡ initial ++ picked schema condition front
      → map (chosen_edit width pinned) chosen ≡ initial ++ picked schema condition (front ++ option_to_list read)
  chose_none chosen initial front read was before =
      before ∙ ap (λ l. initial ++ picked schema condition l) (sym (append-nil front)) ∙ ap (λ o. initial ++ picked schema condition (front ++ option_to_list o)) (sym was)

pub shown_more : (P : Chosen → Type 0) (t : Bool) (chosen new : List Chosen) (one : Chosen) → All P chosen → P one → new ≡ chosen ++ cond t (one ∷ []) [] → All P new
shown_more P true chosen new one all here is = subst (All P) (sym is) (All-append P chosen (one ∷ []) all (All-cons P one [] here (All-nil P)))
shown_more P false chosen new one all here is = subst (All P) (sym is) (All-append P chosen [] all (All-nil P))

-- ---- a version that is read

pub read_some : (width : ℕ) (pinned : Pinned) (o : Option Rowed) (entry : Key × List Value) → option_and_then (read_row width pinned) o ≡ Some entry
    → (rowed : Rowed) × (o ≡ Some rowed) × (is_read pinned rowed ≡ true) × (shown_row width rowed ≡ entry)
read_some width pinned None entry is = cc
read_some width pinned (Some rowed) entry is = step (is_read pinned rowed) refl is
  where
    step : (t : Bool) → is_read pinned rowed ≡ t → cond t (Some (shown_row width rowed)) None ≡ Some entry → (r : Rowed) × (Some rowed ≡ Some r) × (is_read pinned r ≡ true) × (shown_row width r ≡ entry)
    step true read is = (rowed, refl, read, same_Some (shown_row width rowed) entry is)
    step false read is = cc

-- it stands at its place with its row, and shows its key
pub read_stands : (width : ℕ) (pinned : Pinned) (place : Place) (entry : Key × List Value) → option_and_then (read_row width pinned) (version_at pinned.view place) ≡ Some entry
    → (option_map (λ (rowed : Rowed). padded width rowed.row) (version_at pinned.view place) ≡ Some entry.1) × Shows pinned.view entry.0 pinned.snapshot place
read_stands width pinned place entry is =
    let found = read_some width pinned (version_at pinned.view place) entry is in
    let key : found.0.version.key ≡ entry.0 = ap (λ (e : Key × List Value). e.0) found.3 in
    let seen = and_parts (is_shown pinned.view pinned.snapshot found.0) (not (writes_key pinned.own found.0.version.key)) found.2 in (
      ap (option_map (λ (rowed : Rowed). padded width rowed.row)) found.1 ∙ ap (λ (e : Key × List Value). Some e.1) found.3,
      ap (option_map (λ (rowed : Rowed). shows (buffer_of pinned.view) entry.0 pinned.snapshot rowed.version)) found.1
          ∙ ap Some (and_from (same_key entry.0 found.0.version.key) (is_visible (buffer_of pinned.view) pinned.snapshot found.0.version) (key_here entry.0 found.0.version.key key) seen.0),
    )
