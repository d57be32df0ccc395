-- Look-ups of a key among the versions of a group.
use Rattle.std.proofs.Common.{◌≡◌, ℕ, suc, ◌<◌, ◌≤◌, ◌+◌, Bool, true, false, ◌&&◌, List, length, get_or, take, refl, sym, ap, ◌∙◌, subst, inl, inr, arith}
use Rattle.std.specs.Prelude.{Option, None, Some, nat_le, not, slice_get, slice_index}
use Rattle.std.specs.Option.{option_map}
use Rattle.std.proofs.lemmas.Bool.{and_parts, cases_lt, le-leb}
use Rattle.std.proofs.lemmas.List.{get_or-take, length-take-le, take_all}
use Rattle.std.proofs.lemmas.Option.{get_or_from_slice_get, none-some, same_Some, slice_get-map, slice_get_past, slice_get_within}
use Rattle.cs_types.specs.declared.Key.{Key}
use Rattle.cs_types.specs.Keys.{same_key}
use Rattle.cs_types.specs.Rows.{key_in}
use Rattle.delete_bitmap.specs.declared.MarkedEnd.{MarkedEnd}
use Rattle.delta_store.specs.declared.version.KeyedVersion.{KeyedVersion}
use Rattle.delta_store.specs.Versions.{IsLastPlace, IsEarlier, IsEndedBy, AreEndedBefore}
use Rattle.row_group.specs.Groups.{Group, row_at, ArePlacesOf}
use Rattle.group_book.specs.Book.{Version, Ending, has_ended, is_buffered, is_visible, shows}
use Rattle.group_book.specs.Book.End.{At}
use Rattle.group_book.proofs.Keys.{key_here, key_is}
use Rattle.group_view.specs.declared.view.GroupView.{GroupView}
use Rattle.group_view.specs.declared.view.Place.{Place}
use Rattle.group_view.specs.declared.parts.GroupPart.{GroupPart}
use Rattle.group_view.specs.Parts.{Rowed, packed_versions, rowed_in, stored_version, stored_versions}
use Rattle.group_view.specs.Views.{buffer_of, HidesAll, Shows, ShowsAt}
use Rattle.group_view.proofs.Versions.{version_in, packed_key, packed_within}

-- ---- one position

module _ (buffer : List Ending) (key : Key) (s : ℕ) where
  shows_step : (o : Option Rowed) (version : Version) → option_map (λ (rowed : Rowed). rowed.version) o ≡ Some version → shows buffer key s version ≡ true → option_map (λ (rowed : Rowed). shows buffer key s rowed.version) o ≡ Some true
  shows_step None version is shown = cc
  shows_step (Some rowed) version is shown = ap Some (ap (shows buffer key s) (same_Some rowed.version version is) ∙ shown)

  -- a version of the key that is visible shows the key
  pub shows_here : (versions : List Rowed) (position : ℕ) (version : Version) → version_in versions position ≡ Some version → version.key ≡ key → is_visible buffer s version ≡ true → ShowsAt buffer key s versions position
  shows_here versions position version is own seen =
      shows_step (slice_get versions position) version is (ap (λ (t : Bool). t && is_visible buffer s version) (key_here key version.key own) ∙ seen)

  parts_step : (o : Option Rowed) → option_map (λ (rowed : Rowed). shows buffer key s rowed.version) o ≡ Some true → (version : Version) × (option_map (λ (rowed : Rowed). rowed.version) o ≡ Some version) × (version.key ≡ key) × (is_visible buffer s version ≡ true)
  parts_step None shown = cc
  parts_step (Some rowed) shown =
      let both = and_parts (same_key key rowed.version.key) (is_visible buffer s rowed.version) (same_Some _ _ shown) in
      (rowed.version, refl, key_is key rowed.version.key both.0, both.1)

  -- what shows the key is a version of it that is visible
  pub shown_parts : (versions : List Rowed) (position : ℕ) → ShowsAt buffer key s versions position → (version : Version) × (version_in versions position ≡ Some version) × (version.key ≡ key) × (is_visible buffer s version ≡ true)
  shown_parts versions position shown = parts_step (slice_get versions position) shown

  -- a version that is not visible hides it
  pub hides_here : (versions : List Rowed) (position : ℕ) (version : Version) → version_in versions position ≡ Some version → is_visible buffer s version ≡ false → ShowsAt buffer key s versions position → ⊥
  hides_here versions position version is unseen shown =
      let parts = shown_parts versions position shown in
      let same : parts.0 ≡ version = same_Some parts.0 version (sym parts.1 ∙ is) in
      let seen : is_visible buffer s version ≡ true = ap (is_visible buffer s) (sym same) ∙ parts.3 in
      cc

-- ---- packed groups

module _ (group : Group) (marks : List (Option MarkedEnd)) (buffer : List Ending) (key : Key) (s from to : ℕ) (places : ArePlacesOf group key from to) where
  abbrev versions : List Rowed
  versions = packed_versions group.key group.rows marks

  -- the version at a place of the key is one of the key
  pub place_key : (i position : ℕ) → position ≡ slice_index group.places i → from ≤ i → i < to → position < length versions → (version : Version) → version_in versions position ≡ Some version → version.key ≡ key
  place_key i position at low high there version is =
      packed_key group marks position there version is ∙ ap (λ p. key_in group.key (row_at group p).cells) at ∙ places.of_key i low high

  -- a place more that hides it
  pub packed_more : (n position : ℕ) → position ≡ slice_index group.places n → (version : Version) → version_in versions position ≡ Some version → is_visible buffer s version ≡ false
      → ((i : ℕ) → from ≤ i → i < n → ShowsAt buffer key s versions (slice_index group.places i) → ⊥) → (i : ℕ) → from ≤ i → i < n + 1 → ShowsAt buffer key s versions (slice_index group.places i) → ⊥
  packed_more n position at version is unseen before i low high shown = elim (cases_lt i n) [
    | inl lt ↦ before i low lt shown
    | inr ge ↦
        let same : i ≡ n = omega (arith, high, ge) in
        hides_here buffer key s versions position version is unseen (subst (ShowsAt buffer key s versions) (ap (λ k. slice_index group.places k) same ∙ sym at) shown)
  ]

  there_step : (position : ℕ) (o : Option Rowed) → slice_get versions position ≡ o → (version : Version) → option_map (λ (rowed : Rowed). rowed.version) o ≡ Some version → position < length versions
  there_step position None at version is = cc
  there_step position (Some rowed) at version is = slice_get_within versions position rowed at

  -- where none of the key's places shows it, no position does
  pub packed_hides : ((i : ℕ) → from ≤ i → i < to → ShowsAt buffer key s versions (slice_index group.places i) → ⊥) → HidesAll buffer key s versions
  packed_hides none position shown =
      let parts = shown_parts buffer key s versions position shown in
      let there = there_step position (slice_get versions position) refl parts.0 parts.1 in
      let own : key_in group.key (row_at group position).cells ≡ key = sym (packed_key group marks position there parts.0 parts.1) ∙ parts.2 in
      let found = places.every position (packed_within group.key group.rows marks position there).0 own in
      none found.0 found.1 found.2 (subst (ShowsAt buffer key s versions) (sym found.3) shown)

-- ---- stores

-- how far a walk along the versions of a key has still to go
abbrev pub steps_left : Option ℕ → ℕ
steps_left None = 0
steps_left (Some place) = suc place

module _ (store : List KeyedVersion) (buffer : List Ending) (key : Key) (s : ℕ) where
  abbrev Hidden : ℕ → Type 0
  Hidden position = ShowsAt buffer key s (stored_versions store) position → ⊥

  abbrev IsOwn : ℕ → Type 0
  IsOwn position = (v : KeyedVersion) → slice_get store position ≡ Some v → v.key ≡ key

  -- from the last place of the key back: no later position shows it
  abbrev pub IsWalk : Option ℕ → Type 0
  IsWalk None = (position : ℕ) → Hidden position
  IsWalk (Some place) = (place < length store) × IsOwn place × ((position : ℕ) → place < position → Hidden position)

  apart_step : (position : ℕ) (o : Option KeyedVersion) → slice_get store position ≡ o → ((v : KeyedVersion) → slice_get store position ≡ Some v → v.key ≡ key → ⊥)
      → option_map (λ (rowed : Rowed). shows buffer key s rowed.version) (option_map stored_version o) ≡ Some true → ⊥
  apart_step position None at other shown = cc
  apart_step position (Some v) at other shown = other v at (key_is key v.key (and_parts (same_key key v.key) (is_visible buffer s (stored_version v).version) (same_Some _ _ shown)).0)

  -- a version of another key hides it
  apart : (position : ℕ) → ((v : KeyedVersion) → slice_get store position ≡ Some v → v.key ≡ key → ⊥) → Hidden position
  apart position other shown =
      apart_step position (slice_get store position) refl other (ap (option_map (λ (rowed : Rowed). shows buffer key s rowed.version)) (sym (slice_get-map stored_version store position)) ∙ shown)

  past : (position : ℕ) → length store ≤ position → Hidden position
  past position far = apart position (λ v at same. absurd (none-some v (sym (slice_get_past store position far) ∙ at)))

  front_get : (n position : ℕ) (v : KeyedVersion) → position < n → slice_get store position ≡ Some v → get_or (take n store) position v ≡ v
  front_get n position v below at = get_or-take n store position v below ∙ get_or_from_slice_get store position v v at

  -- a walk goes on at the key's last place among the first n, where no position from n on shows it
  goes_on : (n : ℕ) (at : Option ℕ) → n ≤ length store → ((position : ℕ) → n ≤ position → Hidden position) → IsLastPlace (take n store) key at → IsWalk at
  goes_on n None le later last = λ position shown. elim (cases_lt position n) [
    | inl below ↦ apart position (λ v at same. last position v (omega (arith, length-take-le n store le, below)) (ap (λ (w : KeyedVersion). w.key) (front_get n position v below at) ∙ same)) shown
    | inr above ↦ later position above shown
  ]
  goes_on n (Some place) le later last =
      let short = length-take-le n store le in
      let below : place < n = omega (arith, last.0, short) in (
        omega (arith, below, le),
        (λ v at. ap (λ (w : KeyedVersion). w.key) (sym (front_get n place v below at)) ∙ last.1 v),
        λ position behind shown. elim (cases_lt position n) [
          | inl inside ↦ apart position (λ v at same. last.2 position v (omega (arith, behind)) (omega (arith, inside, short)) (ap (λ (w : KeyedVersion). w.key) (front_get n position v inside at) ∙ same)) shown
          | inr above ↦ later position above shown
        ],
      )

  pub walk_begins : (at : Option ℕ) → IsLastPlace store key at → IsWalk at
  walk_begins at last = goes_on (length store) at (omega arith) past (subst (λ (list : List KeyedVersion). IsLastPlace list key at) (sym (take_all (length store) store (omega arith))) last)

  held_step : (position : ℕ) (version : Version) (o : Option KeyedVersion) → slice_get store position ≡ o → option_map (λ (rowed : Rowed). rowed.version) (option_map stored_version o) ≡ Some version
      → (v : KeyedVersion) × (slice_get store position ≡ Some v) × (v.key ≡ version.key)
  held_step position version None at is = cc
  held_step position version (Some v) at is = (v, at, ap (λ (w : Version). w.key) (same_Some (stored_version v).version version is))

  held : (position : ℕ) (version : Version) → version_in (stored_versions store) position ≡ Some version → (v : KeyedVersion) × (slice_get store position ≡ Some v) × (v.key ≡ version.key)
  held position version is =
      held_step position version (slice_get store position) refl (ap (option_map (λ (rowed : Rowed). rowed.version)) (sym (slice_get-map stored_version store position)) ∙ is)

  version_held : (position : ℕ) (v : KeyedVersion) → slice_get store position ≡ Some v → version_in (stored_versions store) position ≡ Some (stored_version v).version
  version_held position v at = ap (option_map (λ (rowed : Rowed). rowed.version)) (slice_get-map stored_version store position ∙ ap (option_map stored_version) at)

  -- a snapshot does not see what had ended by then
  ended_unseen : (v : KeyedVersion) (commit : ℕ) → commit ≤ s → IsEndedBy commit v → is_visible buffer s (stored_version v).version ≡ true → ⊥
  ended_unseen v commit le ended seen =
      let both = and_parts (nat_le v.version.begin s) (not (has_ended s (option_map At v.version.end)) && not (is_buffered buffer v.key v.version.begin s)) seen in
      let live = and_parts (not (has_ended s (option_map At v.version.end))) (not (is_buffered buffer v.key v.version.begin s)) both.1 in
      let gone : has_ended s (option_map At v.version.end) ≡ true = ap (λ (o : Option ℕ). has_ended s (option_map At o)) ended.has ∙ le-leb ended.end s (let within = ended.within in omega (arith, le, within)) in
      let no : not true ≡ true = ap not (sym gone) ∙ live.0 in
      cc

  module _ (place : ℕ) (version : Version) (walk : IsWalk (Some place)) (is : version_in (stored_versions store) place ≡ Some version) where
    pub walk_key : version.key ≡ key
    walk_key = let v = held place version is in sym v.2 ∙ walk.1 v.0 v.1

    before : (at : Option ℕ) → IsEarlier store place at → IsLastPlace (take place store) key at
    before at earlier = let v = held place version is in subst (λ (k : Key). IsLastPlace (take place store) k at) (walk.1 v.0 v.1) (earlier v.0 v.1)

    pub walk_goes_on : (at : Option ℕ) → is_visible buffer s version ≡ false → IsEarlier store place at → IsWalk at
    walk_goes_on at unseen earlier = goes_on place at (omega (arith, walk.0)) (λ position from shown. elim (cases_lt place position) [
      | inl behind ↦ walk.2 position behind shown
      | inr upto ↦
          let here : position ≡ place = omega (arith, from, upto) in
          hides_here buffer key s (stored_versions store) place version is unseen (subst (ShowsAt buffer key s (stored_versions store)) here shown)
    ]) (before at earlier)

    -- a walk ends where all versions before have ended by the snapshot
    pub walk_ends : (commit : ℕ) → is_visible buffer s version ≡ false → AreEndedBefore store place commit → commit ≤ s → HidesAll buffer key s (stored_versions store)
    walk_ends commit unseen ended le position shown = elim (cases_lt position place) [
      | inl inside ↦ gone (shown_parts buffer key s (stored_versions store) position shown) inside
      | inr from ↦ elim (cases_lt place position) [
        | inl behind ↦ walk.2 position behind shown
        | inr upto ↦
            let here : position ≡ place = omega (arith, from, upto) in
            hides_here buffer key s (stored_versions store) place version is unseen (subst (ShowsAt buffer key s (stored_versions store)) here shown)
      ]
    ]
      where
        gone : ((other : Version) × (version_in (stored_versions store) position ≡ Some other) × (other.key ≡ key) × (is_visible buffer s other ≡ true)) → position < place → ⊥
        gone (other, at, own, seen) inside =
            let v = held place version is in
            let w = held position other at in
            ended_unseen w.0 commit le (ended position v.0 w.0 inside v.1 w.1 (w.2 ∙ own ∙ sym (walk.1 v.0 v.1)))
            (ap (λ (x : Version). is_visible buffer s x) (same_Some _ _ (sym (version_held position w.0 w.1) ∙ at)) ∙ seen)

    falls : (at : Option ℕ) → IsLastPlace (take place store) key at → steps_left at < suc place
    falls None last = omega arith
    falls (Some other) last = omega (arith, last.0, length-take-le place store (omega (arith, walk.0)))

    pub walk_falls : (at : Option ℕ) → IsEarlier store place at → steps_left at < steps_left (Some place)
    walk_falls at earlier = falls at (before at earlier)

-- ---- the groups of a view

module _ (view : GroupView) (key : Key) (s : ℕ) where
  pub Shows-in : (group position : ℕ) (part : ℕ × GroupPart) → slice_get view.groups group ≡ Some part → ShowsAt (buffer_of view) key s (rowed_in part.1) position → Shows view key s record { group = group; position = position }
  Shows-in group position part here shown = rw here shown

  -- no place past the groups shows it
  pub hides_past : (place : Place) → length view.groups ≤ place.group → Shows view key s place → ⊥
  hides_past place past shown = let none = rw (slice_get_past view.groups place.group past) at shown in cc

  -- a group more that hides it, before those that do
  pub hides_more : (group : ℕ) (part : ℕ × GroupPart) → slice_get view.groups group ≡ Some part → ((place : Place) → group < place.group → Shows view key s place → ⊥) → HidesAll (buffer_of view) key s (rowed_in part.1)
      → (place : Place) → group ≤ place.group → Shows view key s place → ⊥
  hides_more group part here after hidden place above shown = elim (cases_lt group place.group) [
    | inl lt ↦ after place lt shown
    | inr ge ↦
        let same : group ≡ place.group = omega (arith, above, ge) in
        hidden place.position (rw (rw same at here) at shown)
  ]
