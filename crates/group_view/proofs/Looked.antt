-- What a look-up in a view finds, by the table that the view shows.
use Rattle.std.proofs.Common.{◌≡◌, ℕ, zero, suc, ◌<◌, ◌≤◌, Bool, true, false, cond, inl, inr, List, [], ◌∷◌, map, filter, length, get_or, refl, sym, ap, ◌∙◌, arith}
use Rattle.std.specs.Prelude.{Option, None, Some, slice_get}
use Rattle.std.specs.List.{Contains, flat_map}
use Rattle.std.specs.List.Sorted.{IsPermutation}
use Rattle.std.specs.Map.{keys_of, lookup}
use Rattle.std.specs.BTreeMap.{is_at}
use Rattle.std.specs.Option.{option_map, option_and_then}
use Rattle.std.specs.Ordering.{eq_by_cmp}
use Rattle.std.proofs.lemmas.Bool.{and_from, and_parts}
use Rattle.std.proofs.lemmas.Cmp.{eq_by_cmp_equiv}
use Rattle.std.proofs.lemmas.List.{get_or-map, length-map}
use Rattle.std.proofs.lemmas.List.Elements.{Contains-append_cases, Contains-append_left, Contains-append_right}
use Rattle.std.proofs.lemmas.List.Sorted.{Contains-permutation, IsPermutation-sym}
use Rattle.std.proofs.lemmas.Map.Keys.{IsDistinct-from_sorted}
use Rattle.std.proofs.lemmas.Map.Views.{Contains-from_lookup, lookup-from_Contains}
use Rattle.std.proofs.lemmas.Option.{get_or_from_slice_get, same_Some, slice_get-get_or, slice_get_within}
use Rattle.cs_types.specs.declared.Key.{Key}
use Rattle.cs_types.specs.declared.Value.{Value}
use Rattle.cs_types.specs.Keys.{key_cmp, same_key}
use Rattle.cs_types.proofs.KeyLemmas.{key_total, one_key}
use Rattle.cs_types.specs.Rows.{padded}
use Rattle.cs_model.specs.Changes.{Table, Change, table}
use Rattle.edit_laws.proofs.Tables.{laid_ascends}
use Rattle.group_book.specs.Book.{is_visible, shows}
use Rattle.group_book.proofs.Keys.{key_here, key_is}
use Rattle.group_view.specs.declared.parts.GroupPart.{GroupPart}
use Rattle.group_view.specs.declared.view.GroupView.{GroupView}
use Rattle.group_view.specs.declared.view.Place.{Place}
use Rattle.group_view.specs.Parts.{Rowed, rowed_in}
use Rattle.group_view.specs.Views.{buffer_of, rowed_of, version_at, is_shown, shown, shown_edit, shown_table, padded_table, HidesEach, IsView, Shows, ShowsTables}
use Rattle.group_view.specs.Laws.{shown_row}
use Rattle.group_view.proofs.Tables.{shown_permuted}

-- ---- elements of lists

contains_got : {X : Type 0} (xs : List X) (i : ℕ) (x : X) → slice_get xs i ≡ Some x → Contains xs x
contains_got xs i x at = (i, slice_get_within xs i x at, get_or_from_slice_get xs i x x at)

got_contained : {X : Type 0} (xs : List X) (x : X) → Contains xs x → (i : ℕ) × (slice_get xs i ≡ Some x)
got_contained xs x inside = (inside.0, slice_get-get_or xs inside.0 x inside.1 ∙ ap Some inside.2)

abbrev keep : {X : Type 0} → Bool → X → List X → List X
keep t x xs = cond t (x ∷ xs) xs

kept_rest : {X : Type 0} (t : Bool) (x y : X) (xs : List X) → Contains xs y → Contains (keep t x xs) y
kept_rest true x y xs inside = (suc inside.0, omega (arith, inside.1), inside.2)
kept_rest false x y xs inside = inside

kept_first : {X : Type 0} (t : Bool) (x y : X) (xs : List X) → t ≡ true → x ≡ y → Contains (keep t x xs) y
kept_first true x y xs is same = (zero, omega arith, same)
kept_first false x y xs is same = cc

-- an element that passes a test is kept
filter_keeps : {X : Type 0} (q : X → Bool) (xs : List X) (k : ℕ) (y : X) → k < length xs → get_or xs k y ≡ y → q y ≡ true → Contains (filter q xs) y
filter_keeps q [] k y inside at passes = absurd (omega (arith, inside))
filter_keeps q (x ∷ xs) zero y inside at passes = kept_first (q x) x y (filter q xs) (ap q at ∙ passes) at
filter_keeps q (x ∷ xs) (suc k) y inside at passes = kept_rest (q x) x y (filter q xs) (filter_keeps q xs k y (omega (arith, inside)) at passes)

-- and what is kept is one of the list that passes it
filter_of : {X : Type 0} (q : X → Bool) (xs : List X) (k : ℕ) (y : X) → k < length (filter q xs) → get_or (filter q xs) k y ≡ y → Contains xs y × (q y ≡ true)
filter_of q [] k y inside at = absurd (omega (arith, inside))
filter_of q (x ∷ xs) k y inside at = step (q x) refl k inside at (filter_of q xs)
  where
    more : Contains xs y × (q y ≡ true) → Contains (x ∷ xs) y × (q y ≡ true)
    more found = ((suc found.0.0, omega (arith, found.0.1), found.0.2), found.1)

    step : (t : Bool) → q x ≡ t → (i : ℕ) → i < length (keep t x (filter q xs)) → get_or (keep t x (filter q xs)) i y ≡ y
        → ((j : ℕ) (z : _) → j < length (filter q xs) → get_or (filter q xs) j z ≡ z → Contains xs z × (q z ≡ true)) → Contains (x ∷ xs) y × (q y ≡ true)
    step true is zero inside at rest = ((zero, omega arith, at), ap q (sym at) ∙ is)
    step true is (suc i) inside at rest = more (rest i y (omega (arith, inside)) at)
    step false is i inside at rest = more (rest i y inside at)

-- an element of a mapped list is made of one of the list
mapped_of : {X Y : Type 0} (f : X → Y) (xs : List X) (k : ℕ) (y : Y) → k < length (map f xs) → get_or (map f xs) k y ≡ y → (x : X) × Contains xs x × (f x ≡ y)
mapped_of f [] k y inside at = absurd (omega (arith, inside))
mapped_of f (x ∷ xs) zero y inside at = (x, (zero, omega arith, refl), at)
mapped_of f (x ∷ xs) (suc k) y inside at =
    let rest = mapped_of f xs k y (omega (arith, inside)) at in
    (rest.0, (suc rest.1.0, omega (arith, rest.1.1), rest.1.2), rest.2)

-- ---- places

abbrev rows_in : List (ℕ × GroupPart) → List Rowed
rows_in groups = flat_map (λ (group : ℕ × GroupPart). rowed_in group.1) groups

abbrev row_at : List (ℕ × GroupPart) → ℕ → ℕ → Option Rowed
row_at groups group position = option_and_then (λ (part : ℕ × GroupPart). slice_get (rowed_in part.1) position) (slice_get groups group)

placed : (groups : List (ℕ × GroupPart)) (group position : ℕ) (rowed : Rowed) → row_at groups group position ≡ Some rowed → Contains (rows_in groups) rowed
placed [] group position rowed at = cc
placed (part ∷ groups) zero position rowed at = Contains-append_left (rowed_in part.1) (rows_in groups) rowed (contains_got (rowed_in part.1) position rowed at)
placed (part ∷ groups) (suc group) position rowed at = Contains-append_right (rowed_in part.1) (rows_in groups) rowed (placed groups group position rowed at)

place_of : (groups : List (ℕ × GroupPart)) (rowed : Rowed) → Contains (rows_in groups) rowed → (group : ℕ) × (position : ℕ) × (row_at groups group position ≡ Some rowed)
place_of [] rowed inside = absurd (omega (arith, inside.1))
place_of (part ∷ groups) rowed inside = elim (Contains-append_cases (rowed_in part.1) (rows_in groups) rowed inside) [
  | inl here ↦ let found = got_contained (rowed_in part.1) rowed here in (zero, found.0, found.1)
  | inr there ↦ let found = place_of groups rowed there in (suc found.0, found.1, found.2)
]

-- ---- look-ups

module _ (width : ℕ) (view : GroupView) (key : Key) (s : ℕ) (is : IsView view) (reach : view.floor ≤ s) (most : s ≤ view.clock) where
  abbrev rows : Table
  rows = shown_table width view s

  moved : IsPermutation (map (shown_row width) (shown view s)) rows
  moved = shown_permuted width view s is reach most

  -- a version that shows the key has the row of the table
  in_table : (rowed : Rowed) → Contains (rowed_of view) rowed → shows (buffer_of view) key s rowed.version ≡ true → lookup (is_at (key_cmp key)) rows ≡ Some (padded width rowed.row)
  in_table rowed inside shown_there =
      let both = and_parts (same_key key rowed.version.key) (is_visible (buffer_of view) s rowed.version) shown_there in
      let own : rowed.version.key ≡ key = key_is key rowed.version.key both.0 in
      let kept = filter_keeps (is_shown view s) (rowed_of view) inside.0 rowed inside.1 inside.2 both.1 in
      let there : Contains (map (shown_row width) (shown view s)) (shown_row width rowed) = (
        kept.0,
        rw (length-map (shown view s) (shown_row width)) kept.1,
        get_or-map (shown_row width) (shown view s) kept.0 rowed (shown_row width rowed) kept.1 ∙ ap (shown_row width) kept.2,
      ) in
      let found = Contains-permutation (map (shown_row width) (shown view s)) rows (shown_row width rowed) moved there in
      let row = lookup-from_Contains {eq = eq_by_cmp key_cmp} (eq_by_cmp_equiv key_total) rowed.version.key (padded width rowed.row) rows (IsDistinct-from_sorted key_cmp (keys_of rows) (laid_ascends (map (shown_edit width) (shown view s)))) found in
      ap (λ (k : Key). lookup (is_at (key_cmp k)) rows) (sym own) ∙ row

  found_step : (o : Option Rowed) → ((rowed : Rowed) → o ≡ Some rowed → Contains (rowed_of view) rowed) → option_map (λ (rowed : Rowed). shows (buffer_of view) key s rowed.version) o ≡ Some true
      → option_map (λ (rowed : Rowed). padded width rowed.row) o ≡ lookup (is_at (key_cmp key)) rows
  found_step None inside there = cc
  found_step (Some rowed) inside there = sym (in_table rowed (inside rowed refl) (same_Some _ _ there))

  pub found_shown : (place : Place) → Shows view key s place → option_map (λ (rowed : Rowed). padded width rowed.row) (version_at view place) ≡ lookup (is_at (key_cmp key)) rows
  found_shown place there = found_step (version_at view place) (λ rowed at. placed view.groups place.group place.position rowed at) there

  none_step : HidesEach view key s → (o : Option (List Value)) → lookup (is_at (key_cmp key)) rows ≡ o → o ≡ None
  none_step hidden None at = refl
  none_step hidden (Some row) at =
      let inside = Contains-from_lookup {eq = eq_by_cmp key_cmp} one_key key row rows at in
      let there = Contains-permutation rows (map (shown_row width) (shown view s)) (key, row) (IsPermutation-sym (map (shown_row width) (shown view s)) rows moved) inside in
      let held = mapped_of (shown_row width) (shown view s) there.0 (key, row) there.1 there.2 in
      let own : held.0.version.key ≡ key = ap (λ (entry : Key × List Value). entry.0) held.2 in
      let visible = filter_of (is_shown view s) (rowed_of view) held.1.0 held.0 held.1.1 held.1.2 in
      let place = place_of view.groups held.0 visible.0 in
      absurd (hidden (record { group = place.0; position = place.1 })
      (ap (option_map (λ (rowed : Rowed). shows (buffer_of view) key s rowed.version)) place.2
      ∙ ap Some (and_from (same_key key held.0.version.key) (is_visible (buffer_of view) s held.0.version) (key_here key held.0.version.key own) visible.1)))

  pub none_shown : HidesEach view key s → lookup (is_at (key_cmp key)) rows ≡ None
  none_shown hidden = none_step hidden (lookup (is_at (key_cmp key)) rows) refl

-- the same in the table of changes that the view shows
module _ (width : ℕ) (view : GroupView) (changes : List Change) (key : Key) (s : ℕ) (is : IsView view) (shows_tables : ShowsTables width view changes) (reach : view.floor ≤ s) (most : s ≤ view.clock) where
  pub looked_found : (place : Place) → Shows view key s place → option_map (λ (rowed : Rowed). padded width rowed.row) (version_at view place) ≡ lookup (is_at (key_cmp key)) (padded_table width (table changes s))
  looked_found place there = found_shown width view key s is reach most place there ∙ ap (lookup (is_at (key_cmp key))) (shows_tables.tables s reach most)

  pub looked_none : HidesEach view key s → lookup (is_at (key_cmp key)) (padded_table width (table changes s)) ≡ None
  looked_none hidden = sym (ap (lookup (is_at (key_cmp key))) (shows_tables.tables s reach most)) ∙ none_shown width view key s is reach most hidden
