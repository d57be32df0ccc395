-- The versions of a packed group that are read, by their keys.
use Rattle.std.proofs.Common.{◌≡◌, ◌≢◌, ℕ, ◌+◌, ◌<◌, ◌≤◌, Bool, true, false, cond, inl, inr, List, [], ◌∷◌, ◌++◌, length, get_or, map, pos, Contains, refl, sym, ap, subst, ◌∙◌, arith}
use Rattle.std.specs.Prelude.{◌⊎◌, Option, None, Some, is_some, slice_get, slice_index, IsSome}
use Rattle.std.specs.declared.cmp.Ordering.{Ordering}
use Rattle.std.specs.declared.cmp.Ordering.TheVariants.{Less, Equal, Greater}
use Rattle.std.specs.List.Sorted.{IsPermutation}
use Rattle.std.specs.Option.{option_and_then, option_map}
use Rattle.std.specs.Ordering.{is_le, ordering_reverse}
use Rattle.std.proofs.lemmas.Bool.{and_from, and_parts, cases_lt}
use Rattle.std.proofs.lemmas.List.{get_or-map, length-map}
use Rattle.std.proofs.lemmas.List.Elements.{All-push, All-weaker, Contains-append_left, Contains-push}
use Rattle.std.proofs.lemmas.List.Quantifiers.{all_pairs_push}
use Rattle.std.proofs.lemmas.Option.{same_Some, slice_get-get_or, slice_get_within}
use Rattle.cs_types.specs.declared.Key.{Key}
use Rattle.cs_types.specs.Keys.{key_cmp}
use Rattle.cs_types.specs.Rows.{key_in}
use Rattle.cs_types.proofs.KeyLemmas.{key_total}
use Rattle.delta_store.specs.Index.{is_between}
use Rattle.row_group.specs.Groups.{Group, row_at, key_at_place, keys_of, precedes, AreByKey, IsFirstPlace}
use Rattle.row_group.specs.Rows.{PackedRow}
use Rattle.row_group.proofs.GroupLemmas.{places_by_key}
use Rattle.group_view.specs.declared.view.Pinned.{Pinned}
use Rattle.group_view.specs.Parts.{Rowed}
use Rattle.group_view.specs.Views.{version_at}
use Rattle.batch_scan.specs.Reads.{is_read, read_key, rowed_at}
use Rattle.row_work.specs.declared.bounds.Bounds.{Bounds}
use Rattle.row_work.specs.Bounds.{IsWithin}
use Rattle.row_work.specs.Ranges.{ArePlacesWithin, AreReadBetween, HasKeysOf, IsReadBetween}
use Rattle.row_work.specs.Stores.{is_read_within, positions_of, PassesAt}
use Rattle.row_work.proofs.Found.{at_place}
use Rattle.row_work.proofs.Places.{places_apart, same_members}
use Rattle.row_work.proofs.Positions.{place_there, places_pass}
use Rattle.row_work.proofs.Stored.{passing}

-- ---- places between two keys

module _ (group : Group) (bounds : Bounds) (from to : ℕ) (first : IsFirstPlace group bounds.least false from) (last : IsFirstPlace group bounds.greatest true to) where
  at_least : (o : Ordering) → precedes false o ≡ false → is_le (ordering_reverse o) ≡ true
  at_least Less is = cc
  at_least Equal is = refl
  at_least Greater is = refl

  too_low : (o : Ordering) → precedes false o ≡ true → is_le (ordering_reverse o) ≡ false
  too_low Less is = refl
  too_low Equal is = cc
  too_low Greater is = cc

  at_most : (o : Ordering) → precedes true o ≡ true → is_le o ≡ true
  at_most Less is = refl
  at_most Equal is = refl
  at_most Greater is = cc

  too_high : (o : Ordering) → precedes true o ≡ false → is_le o ≡ false
  too_high Less is = cc
  too_high Equal is = cc
  too_high Greater is = refl

  turned : (i : ℕ) → key_cmp bounds.least (key_at_place group i) ≡ ordering_reverse (key_cmp (key_at_place group i) bounds.least)
  turned i = key_total.antisymm bounds.least (key_at_place group i)

  inside : (i : ℕ) → from ≤ i → i < to → IsWithin bounds (key_at_place group i)
  inside i low high =
      let key = key_at_place group i in
      and_from (is_le (key_cmp bounds.least key)) (is_le (key_cmp key bounds.greatest))
      (ap is_le (turned i) ∙ at_least (key_cmp key bounds.least) (first.after i low (let all = last.within in omega (arith, high, all))))
      (at_most (key_cmp key bounds.greatest) (last.before i high))

  not_both : (t : Bool) → t ≡ true → t ≡ false → ⊥
  not_both t one other = cc

  every : (i : ℕ) → i < length group.places → IsWithin bounds (key_at_place group i) → (from ≤ i) × (i < to)
  every i there is =
      let key = key_at_place group i in
      let both = and_parts (is_le (key_cmp bounds.least key)) (is_le (key_cmp key bounds.greatest)) is in (
        elim (cases_lt i from) [
          | inl less ↦ absurd (not_both (is_le (key_cmp bounds.least key)) both.0 (ap is_le (turned i) ∙ too_low (key_cmp key bounds.least) (first.before i less)))
          | inr more ↦ omega arith
        ],
        elim (cases_lt i to) [
          | inl less ↦ less
          | inr more ↦ absurd (not_both (is_le (key_cmp key bounds.greatest)) both.1 (too_high (key_cmp key bounds.greatest) (last.after i (omega arith) there)))
        ],
      )

  -- from the first place at or past the least key up to the first past the greatest, or no further than the former
  pub places_are : (end : ℕ) → from ≤ end → to ≤ end → ((end ≡ from) ⊎ (end ≡ to)) → ArePlacesWithin group bounds from end
  places_are end ordered past is = record {
    ordered = ordered;
    within = let low = first.within in let high = last.within in elim is [ inl same ↦ omega arith | inr same ↦ omega arith ];
    inside = λ i low high. elim is [ inl same ↦ absurd (omega (arith, low, high, same)) | inr same ↦ inside i low (omega (arith, high, same)) ];
    every = λ i there within. let both = every i there within in (both.0, let less = both.1 in omega (arith, less, past));
  }

-- ---- versions of the keys of rows

module _ (group : Group) (versions : List Rowed) (keys : map (λ (rowed : Rowed). rowed.version.key) versions ≡ keys_of group.key group.rows) where
  abbrev key_of_row : PackedRow → Key
  key_of_row row = key_in group.key row.cells

  pub long_as : length versions ≡ length group.rows
  long_as = sym (length-map versions (λ (rowed : Rowed). rowed.version.key)) ∙ ap length keys ∙ length-map group.rows key_of_row

  abbrev no_row : PackedRow
  no_row = record { cells = []; begin = 0 }

  abbrev other_version : Rowed
  other_version = record { version = record { key = record { 0 = pos 0 }; begin = 0; end = None }; row = [] }

  -- the version at a position is of the key of the row there
  pub key_as : (p : ℕ) (x : Rowed) → slice_get versions p ≡ Some x → x.version.key ≡ key_in group.key (row_at group p).cells
  key_as p x at =
      let there = slice_get_within versions p x at in
      let key = λ (rowed : Rowed). rowed.version.key in
      let d : Key = record { 0 = pos 0 } in
      ap key (sym (same_Some (get_or versions p other_version) x (sym (slice_get-get_or versions p other_version there) ∙ at)))
      ∙ sym (get_or-map key versions p other_version d there)
      ∙ ap (λ (l : List Key). get_or l p d) keys
      ∙ get_or-map key_of_row group.rows p no_row d (omega (arith, there, long_as))

-- ---- the versions of the group

module _ (pinned : Pinned) (place : ℕ) (group : Group) (keys : HasKeysOf pinned place group) where
  abbrev versions : List Rowed
  versions = rowed_at pinned.view place

  abbrev key_at : ℕ → Key
  key_at p = key_in group.key (row_at group p).cells

  long : length versions ≡ length group.rows
  long = long_as group versions keys

  abbrev no_version : Rowed
  no_version = record { version = record { key = record { 0 = pos 0 }; begin = 0; end = None }; row = [] }

  version_key : (p : ℕ) (x : Rowed) → slice_get versions p ≡ Some x → x.version.key ≡ key_at p
  version_key p x at = key_as group versions keys p x at

  pub there : (p : ℕ) → p < length group.rows → IsSome (version_at pinned.view (record { group = place; position = p }))
  there p within =
      subst IsSome (sym (at_place pinned.view place p ∙ slice_get-get_or versions p no_version (omega (arith, within, long)))) refl

  -- what is told of the version at a position
  pub told : (p : ℕ) → p < length group.rows → (o : Option Key) → o ≡ option_and_then (read_key pinned) (version_at pinned.view (record { group = place; position = p })) → option_map (is_read pinned) (slice_get versions p) ≡ Some (is_some o)
  told p within o is =
      let x = get_or versions p no_version in
      let at = slice_get-get_or versions p no_version (omega (arith, within, long)) in
      ap (option_map (is_read pinned)) at
      ∙ ap Some (sym (ap is_some (is ∙ ap (option_and_then (read_key pinned)) (at_place pinned.view place p ∙ at)) ∙ step (is_read pinned x) x.version.key))
    where
      step : (t : Bool) (key : Key) → is_some (cond t (Some key) None) ≡ t
      step true key = refl
      step false key = refl

  -- ---- one place more

  module _ (by_key : AreByKey group) (from n : ℕ) (low : from ≤ n) (inside : n < length group.places) (positions : List ℕ) (are : AreReadBetween pinned place group from n positions) where
    abbrev here : ℕ
    here = slice_index group.places n

    wider : (p : ℕ) → IsReadBetween pinned place group from n p → IsReadBetween pinned place group from (n + 1) p
    wider p is = record { at = is.at; low = is.low; high = omega (arith, is.high); here = is.here; read = is.read }

    before : (p : ℕ) (is : IsReadBetween pinned place group from (n + 1) p) → is.at < n → IsReadBetween pinned place group from n p
    before p is less = record { at = is.at; low = is.low; high = less; here = is.here; read = is.read }

    last : (p : ℕ) (is : IsReadBetween pinned place group from (n + 1) p) → n ≤ is.at → here ≡ p
    last p is more =
        let same : n ≡ is.at = let high = is.high in omega (arith, more, high) in
        ap (slice_index group.places) same ∙ is.here

    pub between_push : (p : ℕ) → p ≡ here → PassesAt (is_read pinned) versions p → AreReadBetween pinned place group from (n + 1) (positions ++ p ∷ [])
    between_push p is read = record {
      each = All-push (IsReadBetween pinned place group from (n + 1)) positions p (All-weaker (IsReadBetween pinned place group from n) (IsReadBetween pinned place group from (n + 1)) wider positions are.each)
          (record { at = n; low = low; high = omega arith; here = sym is; read = read });
      every = λ q found. elim (cases_lt found.at n) [
        | inl less ↦ Contains-append_left positions (p ∷ []) q (are.every q (before q found less))
        | inr more ↦ subst (Contains (positions ++ p ∷ [])) (is ∙ last q found (omega arith)) (Contains-push positions p)
      ];
      once = all_pairs_push (λ a b. a ≢ b) positions p are.once (λ k d within same.
          let old = are.each k d within in
          let less = old.high in
          let equal = (places_by_key group by_key).once old.at n (omega (arith, less, inside)) inside (old.here ∙ same ∙ is) in
          absurd (omega (arith, less, equal)));
    }

    pub between_skip : option_map (is_read pinned) (slice_get versions here) ≡ Some false → AreReadBetween pinned place group from (n + 1) positions
    between_skip unread = record {
      each = All-weaker (IsReadBetween pinned place group from n) (IsReadBetween pinned place group from (n + 1)) wider positions are.each;
      every = λ q found. elim (cases_lt found.at n) [
        | inl less ↦ are.every q (before q found less)
        | inr more ↦ absurd (not_read q (last q found (omega arith)) found.read)
      ];
      once = are.once;
    }
      where
        not_read : (q : ℕ) → here ≡ q → PassesAt (is_read pinned) versions q → ⊥
        not_read q same read =
            let no : Some false ≡ Some true = sym unread ∙ ap (λ (p : ℕ). option_map (is_read pinned) (slice_get versions p)) same ∙ read in
            cc

  -- ---- all places of some keys

  module _ (by_key : AreByKey group) (bounds : Bounds) (from to : ℕ) (places : ArePlacesWithin group bounds from to) (positions : List ℕ) (are : AreReadBetween pinned place group from to positions) where
    abbrev Passes : ℕ → Type 0
    Passes p = PassesAt (is_read_within pinned bounds) versions p

    -- each of the positions passes
    passes : (p : ℕ) → IsReadBetween pinned place group from to p → Passes p
    passes p is =
        let (x, at, read) = passing (is_read pinned) versions p is.read in
        let own : key_at_place group is.at ≡ x.version.key = ap key_at is.here ∙ sym (version_key p x at) in
        let within = subst (IsWithin bounds) own (places.inside is.at is.low is.high) in
        ap (option_map (is_read_within pinned bounds)) at ∙ ap Some (and_from (is_read pinned x) (is_between bounds.least bounds.greatest x.version.key) read within)

    -- each that passes is one of them
    listed : (p : ℕ) → Passes p → Contains positions p
    listed p is =
        let (x, at, both) = passing (is_read_within pinned bounds) versions p is in
        let parts = and_parts (is_read pinned x) (is_between bounds.least bounds.greatest x.version.key) both in
        let (i, inside, here) = (places_by_key group by_key).each p (let within = slice_get_within versions p x at in omega (arith, within, long)) in
        let own : x.version.key ≡ key_at_place group i = version_key p x at ∙ ap key_at (sym here) in
        let stands = places.every i inside (subst (IsWithin bounds) own parts.1) in
        are.every p (record { at = i; low = stands.0; high = stands.1; here = here; read = ap (option_map (is_read pinned)) at ∙ ap Some parts.0 })

    -- they are the positions of the versions that pass
    pub in_range_are : IsPermutation positions (positions_of (is_read_within pinned bounds) versions)
    in_range_are =
        let test = is_read_within pinned bounds in
        let all = positions_of test versions in
        let among = All-weaker Passes (Contains positions) listed all (places_pass (λ (x : Rowed). Some x) test versions) in
        let back = All-weaker (IsReadBetween pinned place group from to) (Contains all) (λ p is.
        let (x, at, on) = passing test versions p (passes p is) in
        let zero_more : 0 + p ≡ p = omega arith in
        subst (Contains all) zero_more (place_there test versions 0 p x at on)) positions are.each in
        same_members positions all are.once (places_apart (map test versions) 0) among back
