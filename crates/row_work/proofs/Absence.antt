-- Keys of which no version is read.
use Rattle.std.proofs.Common.{◌≡◌, ℕ, zero, suc, ◌+◌, ◌-◌, ◌<◌, ◌≤◌, Bool, true, false, ltb, List, [], length, get_or, refl, sym, ap, ◌∙◌, subst, arith, Contains}
use Rattle.std.specs.Prelude.{Option, None, Some, slice_get, unwrap_or}
use Rattle.std.specs.List.{All}
use Rattle.std.specs.List.Sorted.{IsPermutation, IsStrictlySortedBy}
use Rattle.std.specs.Option.{option_map}
use Rattle.std.specs.Ordering.{is_le}
use Rattle.std.proofs.lemmas.Bool.{and_from, and_parts}
use Rattle.std.proofs.lemmas.Bool.Decides.{nat_tests}
use Rattle.std.proofs.lemmas.Cmp.{tied_itself}
use Rattle.std.proofs.lemmas.List.{nil_from_length}
use Rattle.std.proofs.lemmas.List.Sorted.{length_permutation}
use Rattle.std.proofs.lemmas.Map.Keys.{Less-from_sorted}
use Rattle.std.proofs.lemmas.Option.{slice_get_within}
use Rattle.cs_types.specs.declared.Key.{Key}
use Rattle.cs_types.specs.Keys.{key_cmp, same_key}
use Rattle.cs_types.proofs.KeyLemmas.{key_total}
use Rattle.cs_model.specs.Obstacles.{has_row}
use Rattle.edit_laws.specs.Edits.{writes_key}
use Rattle.write_set.specs.declared.write.Write.{Write}
use Rattle.delta_store.specs.Index.{is_between}
use Rattle.group_book.specs.Book.{shows}
use Rattle.group_book.proofs.Keys.{key_is}
use Rattle.group_view.specs.declared.parts.GroupPart.{GroupPart}
use Rattle.group_view.specs.declared.view.Pinned.{Pinned}
use Rattle.group_view.specs.Parts.{Rowed, rowed_in}
use Rattle.group_view.specs.Views.{buffer_of, HidesEach}
use Rattle.batch_scan.specs.Reads.{is_read}
use Rattle.row_work.specs.declared.bounds.Bounds.{Bounds}
use Rattle.row_work.specs.Bounds.{IsWithin}
use Rattle.row_work.specs.Reads.{rowed_at, shown_by, HasSnapshot}
use Rattle.row_work.specs.Stores.{is_read_of, is_read_within, positions_of}
use Rattle.row_work.proofs.Found.{at_place, hides_row}
use Rattle.row_work.proofs.Positions.{place_there}
use Rattle.row_work.proofs.Stored.{passing, read_from_shown}

-- ---- the keys from the first to the last

-- keys that ascend are among those from their first to their last
pub between_ends : (keys : List Key) (first last : Key) → IsStrictlySortedBy key_cmp keys → ((d : Key) → first ≡ get_or keys 0 d) → ((d : Key) → last ≡ get_or keys (length keys - 1) d) → All (IsWithin (record { least = first; greatest = last })) keys
between_ends keys first last up starts ends = λ i d there. and_from (is_le (key_cmp first (get_or keys i d))) (is_le (key_cmp (get_or keys i d) last)) (low i d there) (high i d there)
  where
    low : (i : ℕ) (d : Key) → i < length keys → is_le (key_cmp first (get_or keys i d)) ≡ true
    low zero d there = ap (λ (key : Key). is_le (key_cmp first key)) (sym (starts d)) ∙ ap is_le (tied_itself key_total first)
    low (suc i) d there = ap (λ (key : Key). is_le (key_cmp key (get_or keys (suc i) d))) (starts d) ∙ ap is_le (Less-from_sorted key_cmp keys 0 (suc i) d up (omega arith) there)

    high : (i : ℕ) (d : Key) → i < length keys → is_le (key_cmp (get_or keys i d) last) ≡ true
    high i d there = ap (λ (key : Key). is_le (key_cmp (get_or keys i d) key)) (ends d) ∙ step (ltb i (length keys - 1)) refl
      where
        step : (t : Bool) → ltb i (length keys - 1) ≡ t → is_le (key_cmp (get_or keys i d) (get_or keys (length keys - 1) d)) ≡ true
        step true is =
            let inside : i < length keys - 1 = grind (arith, nat_tests, is) in
            ap is_le (Less-from_sorted key_cmp keys i (length keys - 1) d up inside (omega (arith, there)))
        step false is =
            let over : length keys - 1 ≤ i = grind (arith, nat_tests, is) in
            let end : i ≡ length keys - 1 = omega (arith, over, there) in
            ap (λ (n : ℕ). is_le (key_cmp (get_or keys n d) (get_or keys (length keys - 1) d))) end ∙ ap is_le (tied_itself key_total (get_or keys (length keys - 1) d))

-- ---- what is read of them

-- where no position is found there is none
pub none_found : (found positions : List ℕ) → found ≡ [] → IsPermutation found positions → positions ≡ []
none_found found positions none moved = nil_from_length positions (length_permutation found positions moved ∙ ap length none)

-- a version that passes has a position
none_passes : (test : Rowed → Bool) (versions : List Rowed) (p : ℕ) (x : Rowed) → positions_of test versions ≡ [] → slice_get versions p ≡ Some x → test x ≡ true → ⊥
none_passes test versions p x none at passes =
    let there = subst (λ places. Contains places (0 + p)) none (place_there test versions 0 p x at passes) in
    omega (arith, there.1)

module _ (pinned : Pinned) (bare : pinned.own ≡ []) (bounds : Bounds)
    (apart : (group : ℕ) → group < length pinned.view.groups → positions_of (is_read_within pinned bounds) (rowed_at pinned.view group) ≡ []) where
  -- a version of one of these keys that the snapshot sees is read
  read_within : (key : Key) (x : Rowed) → IsWithin bounds key → is_read_of pinned key x ≡ true → is_read_within pinned bounds x ≡ true
  read_within key x within is =
      let both = and_parts (is_read pinned x) (same_key key x.version.key) is in
      let own : x.version.key ≡ key = key_is key x.version.key both.1 in
      and_from (is_read pinned x) (is_between bounds.least bounds.greatest x.version.key) both.0 (ap (is_between bounds.least bounds.greatest) own ∙ within)

  hidden : (key : Key) → IsWithin bounds key → HidesEach pinned.view key pinned.snapshot
  hidden key within place shown = step (slice_get pinned.view.groups place.group) refl
    where
      versions : List Rowed
      versions = rowed_at pinned.view place.group

      shown_there : option_map (λ (rowed : Rowed). shows (buffer_of pinned.view) key pinned.snapshot rowed.version) (slice_get versions place.position) ≡ Some true
      shown_there = ap (option_map (λ (rowed : Rowed). shows (buffer_of pinned.view) key pinned.snapshot rowed.version)) (sym (at_place pinned.view place.group place.position)) ∙ shown

      held : (x : Rowed) × (slice_get versions place.position ≡ Some x) × (is_read_of pinned key x ≡ true)
      held = passing (is_read_of pinned key) versions place.position (read_from_shown pinned key versions place.position (ap (λ (own : List Write). writes_key own key) bare) shown_there)

      step : (o : Option (ℕ × GroupPart)) → slice_get pinned.view.groups place.group ≡ o → ⊥
      step None is =
          let past : versions ≡ [] = ap (λ o. unwrap_or (option_map (λ (part : ℕ × GroupPart). rowed_in part.1) o) []) is in
          let gone : None ≡ Some held.0 = sym (ap (λ list. slice_get list place.position) past) ∙ held.1 in
          cc
      step (Some part) is = none_passes (is_read_within pinned bounds) versions place.position held.0 (apart place.group (slice_get_within pinned.view.groups place.group part is)) held.1 (read_within key held.0 within held.2)

  -- so none of these keys has a row in the table of the snapshot
  pub none_within : HasSnapshot pinned → (keys : List Key) → All (IsWithin bounds) keys → (width : ℕ) → All (λ key. has_row (shown_by width pinned) key ≡ false) keys
  none_within has keys within width = λ i d there. sym (hides_row width pinned _ has (hidden _ (within i d there)))
