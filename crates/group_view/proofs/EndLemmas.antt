-- Which versions of a packed group an entry of the buffer ends.
use Rattle.std.proofs.Common.{◌≡◌, ℕ, suc, ◌<◌, ◌≤◌, ◌+◌, inl, inr, Bool, true, false, ◌&&◌, cond, ltb, min, List, [], ◌∷◌, length, Option, None, Some, refl, sym, ap, ◌∙◌, subst, arith}
use Rattle.std.specs.Prelude.{slice_get, slice_index}
use Rattle.std.specs.List.{AllByRecursion, Contains, list_any}
use Rattle.std.specs.Option.{option_map}
use Rattle.std.proofs.lemmas.Bool.{and_parts, cases_lt, lt-ltb, le-ltb}
use Rattle.std.proofs.lemmas.List.{length-map}
use Rattle.std.proofs.lemmas.List.Elements.{All-contains, All-from_recursion}
use Rattle.std.proofs.lemmas.Option.{same_Some, slice_get-map, slice_get_cases, slice_get_within}
use Rattle.cs_types.specs.declared.Key.{Key}
use Rattle.cs_types.specs.Keys.{same_key}
use Rattle.cs_types.specs.Rows.{key_in}
use Rattle.delete_bitmap.specs.declared.MarkedEnd.{MarkedEnd}
use Rattle.delete_bitmap.specs.declared.MarkedEnd.TheVariants.{Plain, Stamped}
use Rattle.delete_bitmap.specs.Marks.{end_at}
use Rattle.delete_buffer.specs.Entries.{Entry, IsLeastEnd}
use Rattle.row_group.specs.Groups.{Group, row_at, ArePlacesOf}
use Rattle.group_book.specs.Book.{End, Version, Ending}
use Rattle.group_book.specs.Turns.{ends, is_number, least_entry, lesser, unless_ended}
use Rattle.group_book.proofs.Keys.{key_here, key_is}
use Rattle.group_book.proofs.Lists.{weaker}
use Rattle.group_view.specs.Parts.{Rowed, end_of_mark, packed_versions}
use Rattle.group_view.specs.Spans.{HasNoRowOf}
use Rattle.group_view.specs.Books.{versions_of}
use Rattle.group_view.specs.Views.{endings_of}
use Rattle.group_view.proofs.Versions.{packed_is, packed_within}
use Rattle.group_view.proofs.Walks.{any_none, any_one}

-- ---- the least end of a key above a begin

module _ (key : Key) (begin : ℕ) where
  -- a number is the least end in some entries, or there is none
  abbrev Least : List Entry → Option ℕ → Type 0
  Least entries None = AllByRecursion (λ (x : Entry). x.0 ≡ key → x.1 ≤ begin) entries
  Least entries (Some end) = Contains entries (key, end) × (begin < end) × AllByRecursion (λ (x : Entry). x.0 ≡ key → begin < x.1 → end ≤ x.1) entries

  behind : (x : Entry) (entries : List Entry) (y : Entry) → Contains entries y → Contains (x ∷ entries) y
  behind x entries y inside = (suc inside.0, omega (arith, inside.1), inside.2)

  -- an entry of another key or at most at the begin changes nothing
  least_past : (x : Entry) (entries : List Entry) (least : Option ℕ) → (x.0 ≡ key → x.1 ≤ begin) → Least entries least → Least (x ∷ entries) least
  least_past x entries None past is = (past, is)
  least_past x entries (Some end) past is = (behind x entries (key, end) is.0, is.1, ((λ own above. let low = past own in absurd (omega (arith, low, above))), is.2))

  least_more : (x : Entry) (entries : List Entry) (least : Option ℕ) → x.0 ≡ key → begin < x.1 → Least entries least → Least (x ∷ entries) (lesser x.1 least)
  least_more x entries None own above is = (
    (0, omega arith, λ i. (own i, x.1)),
    above,
    ((λ same over. omega arith), weaker (λ (y : Entry). y.0 ≡ key → y.1 ≤ begin) (λ (y : Entry). y.0 ≡ key → begin < y.1 → x.1 ≤ y.1) entries (λ y low same over. let most = low same in absurd (omega (arith, most, over))) is),
  )
  least_more x entries (Some end) own above is = elim (cases_lt x.1 end) [
    | inl less ↦
        let smaller : min x.1 end ≡ x.1 = omega (arith, less) in
        subst (λ (n : ℕ). Least (x ∷ entries) (Some n)) (sym smaller) (
          (0, omega arith, λ i. (own i, x.1)),
          above,
          ((λ same over. omega arith), weaker (λ (y : Entry). y.0 ≡ key → begin < y.1 → end ≤ y.1) (λ (y : Entry). y.0 ≡ key → begin < y.1 → x.1 ≤ y.1) entries (λ y most same over. let far = most same over in omega (arith, far, less)) is.2),
        )
    | inr other ↦
        let smaller : min x.1 end ≡ end = omega (arith, other) in
        subst (λ (n : ℕ). Least (x ∷ entries) (Some n)) (sym smaller) (behind x entries (key, end) is.0, is.1, ((λ same over. other), is.2))
  ]

  -- the book's least entry is one
  least_is : (entries : List Entry) → Least entries (least_entry (endings_of entries) key begin)
  least_is [] = tt
  least_is (x ∷ entries) = step (same_key key x.0) (ltb begin x.1) refl refl (least_entry (endings_of entries) key begin) (least_is entries)
    where
      step : (t u : Bool) → same_key key x.0 ≡ t → ltb begin x.1 ≡ u → (least : Option ℕ) → Least entries least → Least (x ∷ entries) (cond (t && u) (lesser x.1 least) least)
      step false u other is least rest = least_past x entries least (λ own. let same = key_here key x.0 own in absurd (no_both other same)) rest
        where
          no_both : same_key key x.0 ≡ false → same_key key x.0 ≡ true → ⊥
          no_both a b = cc
      step true false own low least rest = least_past x entries least (λ same. elim (cases_lt begin x.1) [
        | inl above ↦ let over = lt-ltb begin x.1 above in absurd (no_both low over)
        | inr most ↦ most
      ]) rest
        where
          no_both : ltb begin x.1 ≡ false → ltb begin x.1 ≡ true → ⊥
          no_both a b = cc
      step true true own above least rest = least_more x entries least (key_is key x.0 own) (elim (cases_lt begin x.1) [
        | inl less ↦ less
        | inr most ↦ let none = le-ltb begin x.1 most in absurd (no_both above none)
      ]) rest
        where
          no_both : ltb begin x.1 ≡ true → ltb begin x.1 ≡ false → ⊥
          no_both a b = cc

  -- there is one least end
  least_once : (entries : List Entry) (found least : Option ℕ) → IsLeastEnd entries key begin found → Least entries least → least ≡ found
  least_once entries None None a b = refl
  least_once entries None (Some end) a b = absurd (let most = All-contains (λ (x : Entry). x.0 ≡ key → x.1 ≤ begin) entries (key, end) a b.0 refl in omega (arith, most, b.1))
  least_once entries (Some end) None a b =
      absurd (let most = All-contains (λ (x : Entry). x.0 ≡ key → x.1 ≤ begin) entries (key, end) (All-from_recursion (λ (x : Entry). x.0 ≡ key → x.1 ≤ begin) entries b) a.0 refl in omega (arith, most, a.1))
  least_once entries (Some end) (Some other) a b =
      let low = All-contains (λ (x : Entry). x.0 ≡ key → begin < x.1 → end ≤ x.1) entries (key, other) a.2 b.0 refl b.1 in
      let high = All-contains (λ (x : Entry). x.0 ≡ key → begin < x.1 → other ≤ x.1) entries (key, end) (All-from_recursion (λ (x : Entry). x.0 ≡ key → begin < x.1 → other ≤ x.1) entries b.2) a.0 refl a.1 in
      ap Some (omega (arith, low, high))

  -- what a look-up in the buffer finds is the book's least entry
  pub least_found : (entries : List Entry) (found : Option ℕ) → IsLeastEnd entries key begin found → least_entry (endings_of entries) key begin ≡ found
  least_found entries found is = least_once entries found (least_entry (endings_of entries) key begin) is (least_is entries)

-- ---- one position

module _ (group : Group) (marks : List (Option MarkedEnd)) where
  abbrev pub versions : List Version
  versions = versions_of (packed_versions group.key group.rows marks)

  pub there : (position : ℕ) (version : Version) → slice_get versions position ≡ Some version → position < length (packed_versions group.key group.rows marks)
  there position version is = subst (λ (n : ℕ). position < n) (length-map (packed_versions group.key group.rows marks) (λ (rowed : Rowed). rowed.version)) (slice_get_within versions position version is)

  -- the version at a position is of its row and its mark
  version_is : (position : ℕ) (version : Version) → slice_get versions position ≡ Some version → version ≡ record { key = key_in group.key (row_at group position).cells; begin = (row_at group position).begin; end = end_of_mark (end_at marks position) }
  version_is position version is =
      same_Some version _ (sym is ∙ slice_get-map (λ (rowed : Rowed). rowed.version) (packed_versions group.key group.rows marks) position
      ∙ packed_is group marks position (there position version is) _ _ (end_at marks position) refl refl refl)

  module _ (entries : List Entry) (key : Key) (end position : ℕ) (version : Version) (is : slice_get versions position ≡ Some version) (own : version.key ≡ key) where
    abbrev entry : Ending
    entry = record { key = key; end = end }

    ends_by : (recorded : Option End) → version.end ≡ recorded → ends (endings_of entries) entry version ≡ is_number end (unless_ended recorded (least_entry (endings_of entries) key version.begin))
    ends_by recorded at = rw (key_here key version.key own, at) (ap (λ (k : Key). is_number end (unless_ended recorded (least_entry (endings_of entries) k version.begin))) own)

    -- a recorded end is no entry's
    pub ends_none : (mark : MarkedEnd) → end_at marks position ≡ Some mark → ends (endings_of entries) entry version ≡ false
    ends_none mark at = recorded mark (ap (λ (v : Version). v.end) (version_is position version is) ∙ ap end_of_mark at)
      where
        recorded : (m : MarkedEnd) → version.end ≡ end_of_mark (Some m) → ends (endings_of entries) entry version ≡ false
        recorded Plain at = ends_by _ at
        recorded (Stamped commit) at = ends_by _ at

    -- without one it is the least entry's
    pub ends_least : (found : Option ℕ) → end_at marks position ≡ None → IsLeastEnd entries key (row_at group position).begin found → ends (endings_of entries) entry version ≡ is_number end found
    ends_least found at least =
        ends_by None (ap (λ (v : Version). v.end) (version_is position version is) ∙ ap end_of_mark at)
        ∙ ap (is_number end) (ap (least_entry (endings_of entries) key) (ap (λ (v : Version). v.begin) (version_is position version is)) ∙ least_found key (row_at group position).begin entries found least)

-- ---- the positions of a key

module _ (group : Group) (marks : List (Option MarkedEnd)) (entries : List Entry) (key : Key) (end : ℕ) where
  -- the entry ends the version at a position
  abbrev pub EndsAt : ℕ → Type 0
  EndsAt position = option_map (ends (endings_of entries) (record { key = key; end = end })) (slice_get (versions group marks) position) ≡ Some true

  ended_parts : (position : ℕ) → EndsAt position → (version : Version) × (slice_get (versions group marks) position ≡ Some version) × (ends (endings_of entries) (record { key = key; end = end }) version ≡ true)
  ended_parts position ended = step (slice_get (versions group marks) position) refl ended
    where
      step : (o : Option Version) → slice_get (versions group marks) position ≡ o → option_map (ends (endings_of entries) (record { key = key; end = end })) o ≡ Some true
          → (version : Version) × (slice_get (versions group marks) position ≡ Some version) × (ends (endings_of entries) (record { key = key; end = end }) version ≡ true)
      step None at ended = cc
      step (Some version) at ended = (version, at, same_Some _ _ ended)

  own_key : (position : ℕ) (version : Version) → slice_get (versions group marks) position ≡ Some version → version.key ≡ key_in group.key (row_at group position).cells
  own_key position version is = ap (λ (v : Version). v.key) (version_is group marks position version is)

  -- what is said of the version at a place of the key
  abbrev pub Tells : Bool → ℕ → Type 0
  Tells told position = (version : Version) → slice_get (versions group marks) position ≡ Some version → version.key ≡ key → told ≡ ends (endings_of entries) (record { key = key; end = end }) version

  got : (position : ℕ) → position < length (versions group marks) → (version : Version) × (slice_get (versions group marks) position ≡ Some version)
  got position inside = elim (slice_get_cases (versions group marks) position).1 [
    | inl found ↦ (found.0, found.2)
    | inr past ↦ absurd (omega (arith, inside, past.0))
  ]

  module _ (from to : ℕ) (places : ArePlacesOf group key from to) where
    pub one_ended : (i position : ℕ) → position ≡ slice_index group.places i → from ≤ i → i < to → position < length (versions group marks) → Tells true position → list_any (ends (endings_of entries) (record { key = key; end = end })) (versions group marks) ≡ true
    one_ended i position at low high inside tells =
        let version = got position inside in
        let own = own_key position version.0 version.1 ∙ ap (λ (p : ℕ). key_in group.key (row_at group p).cells) at ∙ places.of_key i low high in
        any_one _ (versions group marks) position (ap (option_map (ends (endings_of entries) (record { key = key; end = end }))) version.1 ∙ ap Some (sym (tells version.0 version.1 own)))

    pub one_more : (n position : ℕ) → position ≡ slice_index group.places n → Tells false position → ((i : ℕ) → from ≤ i → i < n → EndsAt (slice_index group.places i) → ⊥) → from ≤ n → n < to → (i : ℕ) → from ≤ i → i < n + 1 → EndsAt (slice_index group.places i) → ⊥
    one_more n position at tells before from_n n_to i low high ended = elim (cases_lt i n) [
      | inl less ↦ before i low less ended
      | inr more ↦
          let same : i ≡ n = omega (arith, high, more) in
          let here : slice_index group.places i ≡ position = ap (slice_index group.places) same ∙ sym at in
          let parts = ended_parts position (subst EndsAt here ended) in
          let own = own_key position parts.0 parts.1 ∙ ap (λ (p : ℕ). key_in group.key (row_at group p).cells) at ∙ places.of_key n from_n n_to in
          let told : false ≡ true = tells parts.0 parts.1 own ∙ parts.2 in
          true_false told
    ]
      where
        true_false : false ≡ true → ⊥
        true_false h = cc

    pub none_ended : ((i : ℕ) → from ≤ i → i < to → EndsAt (slice_index group.places i) → ⊥) → list_any (ends (endings_of entries) (record { key = key; end = end })) (versions group marks) ≡ false
    none_ended none = any_none _ (versions group marks) (λ position ended.
        let parts = ended_parts position ended in
        let inside = packed_within group.key group.rows marks position (there group marks position parts.0 parts.1) in
        let same = and_parts (same_key key parts.0.key) _ parts.2 in
        let found = places.every position inside.0 (sym (own_key position parts.0 parts.1) ∙ key_is key parts.0.key same.0) in
        none found.0 found.1 found.2 (subst EndsAt (sym found.3) ended))

  -- no row of the group has the key
  pub no_row_ended : HasNoRowOf group key → list_any (ends (endings_of entries) (record { key = key; end = end })) (versions group marks) ≡ false
  no_row_ended none = none_ended 0 0 (record {
    ordered = omega arith;
    within = omega arith;
    of_key = λ i low high. absurd (omega (arith, high));
    every = λ position inside same. absurd (none position inside same);
  }) (λ i low high ended. absurd (omega (arith, high)))
