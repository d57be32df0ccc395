-- The new group: the bitmap has the ends of its rows where these stand.
use Rattle.std.proofs.Common.{◌≡◌, ◌≢◌, ◌↔◌, ◌⊎◌, ℕ, zero, suc, ◌+◌, ◌-◌, ◌<◌, ◌≤◌, Bool, cond, nat_lt, List, [], ◌∷◌, map, get_or, set, replicate, length, Option, Some, None, inl, inr, refl, sym, ap, subst, ◌∙◌, arith}
use Rattle.std.specs.Prelude.{slice_get, slice_index}
use Rattle.std.specs.List.{All, AllPairs, Contains, remove}
use Rattle.std.specs.List.Sorted.{IsPermutation}
use Rattle.std.proofs.lemmas.Bool.{cases_eq, cases_lt, lt-ltb, le-ltb}
use Rattle.std.proofs.lemmas.List.{length-map, length-set, length-replicate, get_or-map, get_or-replicate, get_or-set_same, get_or-set_other, get_or_default}
use Rattle.std.proofs.lemmas.List.Edits.{length-remove, get_or-remove_below, get_or-remove_above}
use Rattle.std.proofs.lemmas.List.Elements.{All-contains, All-map, Contains-append_cases, Contains-append_right, Contains-get_or}
use Rattle.std.proofs.lemmas.List.Sorted.{IsPermutation-refl, IsPermutation-cons, IsPermutation-trans, IsPermutation-remove}
use Rattle.std.proofs.lemmas.Option.{slice_get-get_or, unwrap_or-slice_get}
use Rattle.row_group.proofs.ShownLemmas.{map-map}
use Rattle.delete_bitmap.specs.declared.MarkedEnd.{MarkedEnd}
use Rattle.delete_bitmap.specs.declared.MarkedEnd.TheVariants.{Stamped}
use Rattle.delete_bitmap.specs.Marks.{with_each}
use Rattle.tuple_mover.specs.Kept.{AreMarkedAt}
use Rattle.tuple_mover.proofs.KeptLemmas.{same-within}
use Rattle.tuple_mover.proofs.PlaceLemmas.{Place}

-- ---- elements at distinct places

abbrev shift : ℕ → ℕ → ℕ
shift p q = cond (nat_lt q p) q (q - 1)

shift-low : (p q : ℕ) → q < p → shift p q ≡ q
shift-low p q low = ap (λ (t : Bool). cond t q (q - 1)) (lt-ltb q p low)

shift-high : (p q : ℕ) → p ≤ q → shift p q ≡ q - 1
shift-high p q high = ap (λ (t : Bool). cond t q (q - 1)) (le-ltb q p high)

shift-apart : (p a b : ℕ) → a ≢ p → b ≢ p → a ≢ b → shift p a ≢ shift p b
shift-apart p a b ap_ bp ab same = elim (cases_lt a p) [
  | inl a_low ↦ elim (cases_lt b p) [
    | inl b_low ↦ ab (omega (arith, same, shift-low p a a_low, shift-low p b b_low))
    | inr b_high ↦ ab (omega (arith, same, shift-low p a a_low, shift-high p b b_high, bp))
  ]
  | inr a_high ↦ elim (cases_lt b p) [
    | inl b_low ↦ ab (omega (arith, same, shift-high p a a_high, shift-low p b b_low, ap_))
    | inr b_high ↦ ab (omega (arith, same, shift-high p a a_high, shift-high p b b_high, ap_, bp))
  ]
]

shift-within : (p q n : ℕ) → q < suc n → q ≢ p → p < suc n → shift p q < n
shift-within p q n within other there = elim (cases_lt q p) [
  | inl low ↦ omega (arith, shift-low p q low, low, there)
  | inr high ↦ omega (arith, shift-high p q high, high, within, other)
]

shift-get : {X : Type 0} (d : X) (xs : List X) (p q : ℕ) → p < length xs → q ≢ p → get_or (remove xs p) (shift p q) d ≡ get_or xs q d
shift-get d xs p q there other = elim (cases_lt q p) [
  | inl low ↦ ap (λ (k : ℕ). get_or (remove xs p) k d) (shift-low p q low) ∙ get_or-remove_below xs p d q low there
  | inr high ↦
      let back : (q - 1) + 1 ≡ q = omega (arith, high, other) in
      ap (λ (k : ℕ). get_or (remove xs p) k d) (shift-high p q high) ∙ get_or-remove_above xs p d (q - 1) (omega (arith, high, other)) there ∙ ap (λ (k : ℕ). get_or xs k d) back
]

-- as many places as elements, all distinct, are all places
pub all-taken : {X : Type 0} (d : X) (n : ℕ) (xs : List X) (places : List ℕ) → length places ≡ n → length xs ≡ n → All (λ (p : ℕ). p < n) places → AllPairs (λ (a b : ℕ). a ≢ b) places
    → IsPermutation xs (map (λ (p : ℕ). get_or xs p d) places)
all-taken d zero [] [] many long within apart = IsPermutation-refl []
all-taken d zero [] (p ∷ places) many long within apart = absurd (omega (arith, many))
all-taken d zero (x ∷ xs) places many long within apart = absurd (omega (arith, long))
all-taken d (suc n) xs [] many long within apart = absurd (omega (arith, many))
all-taken {X = X} d (suc n) xs (p ∷ places) many long within apart =
    let there : p < length xs = omega (arith, within 0 0 (omega arith), long) in
    let x : X = get_or xs p d in
    let rest : List X = remove xs p in
    let short : length rest ≡ n = omega (arith, length-remove xs p there, long) in
    let others : All (λ (q : ℕ). (q < suc n) × (q ≢ p)) places = λ k e l. (within (suc k) e (omega (arith, l)), λ same. apart 0 (suc k) e (omega arith) (omega (arith, l)) (sym same)) in
    let moved = all-taken d n rest (map (shift p) places) (length-map places (shift p) ∙ omega (arith, many)) short
    (All-map (λ (q : ℕ). q < n) (shift p) places (λ k e l. shift-within p (get_or places k e) n (others k e l).0 (others k e l).1 (omega (arith, there, long))))
    (λ i j e less l.
    let m : j < length places = omega (arith, l, length-map places (shift p)) in
    λ same. shift-apart p (get_or places i 0) (get_or places j 0) (others i 0 (omega (arith, less, m))).1 (others j 0 m).1
    (apart (suc i) (suc j) 0 (omega (arith, less)) (omega (arith, m)))
    (sym (get_or-map (shift p) places i 0 e (omega (arith, less, m))) ∙ same ∙ get_or-map (shift p) places j 0 e m)) in
    let same : map (λ (q : ℕ). get_or rest q d) (map (shift p) places) ≡ map (λ (q : ℕ). get_or xs q d) places =
    map-map (shift p) (λ (q : ℕ). get_or rest q d) (λ (q : ℕ). get_or rest (shift p q) d) (λ q. refl) places
    ∙ same-within (λ (q : ℕ). (q < suc n) × (q ≢ p)) (λ (q : ℕ). get_or rest (shift p q) d) (λ (q : ℕ). get_or xs q d) (λ q other. shift-get d xs p q there other.1) places others in
    IsPermutation-trans xs (x ∷ rest) (x ∷ map (λ (q : ℕ). get_or xs q d) places) (IsPermutation-remove xs p x there (get_or_default xs p d x there))
    (IsPermutation-cons x rest (map (λ (q : ℕ). get_or xs q d) places) (subst (λ (ys : List X). IsPermutation rest ys) same moved))

-- ---- the bitmap

-- the end at a position is the one that was there, or one of those that are put there
each-at : (stamps : List Place) (marks : List (Option MarkedEnd)) (p : ℕ) → p < length marks
    → ((get_or (with_each stamps marks) p None ≡ get_or marks p None) × ((number : ℕ) → Contains stamps (p, number) → ⊥)) ⊎ ((number : ℕ) × Contains stamps (p, number) × (get_or (with_each stamps marks) p None ≡ Some (Stamped number)))
each-at [] marks p there = inl (refl, λ number none. absurd (omega (arith, none.1)))
each-at (stamp ∷ stamps) marks p there =
    let mark : Option MarkedEnd = Some (Stamped stamp.1) in
    let next : List (Option MarkedEnd) = set marks stamp.0 mark in
    elim (each-at stamps next p (omega (arith, there, length-set marks stamp.0 mark))) [
      | inr later ↦ let (number, inside, is) = later in inr (number, Contains-append_right (stamp ∷ []) stamps (p, number) inside, is)
      | inl (same, none) ↦ elim (cases_eq p stamp.0) [
        | inl here ↦ inr (stamp.1, (0, omega arith, λ i. (sym here i, stamp.1)), same ∙ ap (λ (q : ℕ). get_or next q None) here ∙ get_or-set_same marks stamp.0 mark None (omega (arith, there, here)))
        | inr other ↦ inl (
          same ∙ get_or-set_other marks stamp.0 p mark None other,
          (λ number inside. elim (Contains-append_cases (stamp ∷ []) stamps (p, number) inside) [
            | inl (k, within, is) ↦ other (first k within is)
            | inr rest ↦ none number rest
          ]),
        )
      ]
    ]
  where
    first : {number : ℕ} (k : ℕ) → k < 1 → get_or (stamp ∷ []) k (p, number) ≡ (p, number) → p ≡ stamp.0
    first zero within is = ap (λ (place : Place). place.0) (sym is)
    first (suc k) within is = absurd (omega (arith, within))

each-length : (stamps : List Place) (marks : List (Option MarkedEnd)) → length (with_each stamps marks) ≡ length marks
each-length [] marks = refl
each-length (stamp ∷ stamps) marks = each-length stamps (set marks stamp.0 (Some (Stamped stamp.1))) ∙ length-set marks stamp.0 (Some (Stamped stamp.1))

-- ends by their places, and the same ends by the positions where the rows of the places stand
module _ (ends : List Place) (positions : List ℕ)
    (places : All (λ (end : Place). end.0 < length positions) ends)
    (once : (x y : Place) → Contains ends x → Contains ends y → x.0 ≡ y.0 → x.1 ≡ y.1)
    (within : All (λ (position : ℕ). position < length positions) positions)
    (apart : AllPairs (λ (a b : ℕ). a ≢ b) positions) where
  abbrev at_position : Place → Place
  at_position end = (slice_index positions end.0, end.1)

  abbrev unmarked : List (Option MarkedEnd)
  unmarked = replicate (length positions) None

  as_unmarked : length unmarked ≡ length positions
  as_unmarked = length-replicate (length positions) None

  -- what stands by positions stems from an end
  stems : (place : Place) → Contains (map at_position ends) place → (end : Place) × Contains ends end × (end.0 < length positions) × (slice_index positions end.0 ≡ place.0) × (end.1 ≡ place.1)
  stems place (k, inside, is) =
      let there : k < length ends = omega (arith, inside, length-map ends at_position) in
      let end : Place = get_or ends k (0, 0) in
      let same : at_position end ≡ place = sym (get_or-map at_position ends k (0, 0) place there) ∙ is in
      (end, Contains-get_or ends k (0, 0) there, places k (0, 0) there, ap (λ (p : Place). p.0) same, ap (λ (p : Place). p.1) same)

  there-too : (end : Place) → Contains ends end → Contains (map at_position ends) (at_position end)
  there-too end (k, inside, is) =
      (k, omega (arith, inside, length-map ends at_position), get_or-map at_position ends k end (at_position end) inside ∙ ap at_position is)

  -- no two rows stand at one position
  one-place : (i j : ℕ) → i < length positions → j < length positions → slice_index positions i ≡ slice_index positions j → i ≡ j
  one-place i j there_i there_j same = elim (cases_lt i j) [
    | inl low ↦ absurd (apart i j 0 low there_j same)
    | inr high ↦ elim (cases_lt j i) [
      | inl low ↦ absurd (apart j i 0 low there_i (sym same))
      | inr more ↦ omega (arith, high, more)
    ]
  ]

  module _ (stamps : List Place) (same : (place : Place) → Contains stamps place ↔ Contains (map at_position ends) place) where
    pub one-number : (x y : Place) → Contains stamps x → Contains stamps y → x.0 ≡ y.0 → x.1 ≡ y.1
    one-number x y in_x in_y at =
        let (a, in_a, there_a, of_a, number_a) = stems x ((same x).0 in_x) in
        let (b, in_b, there_b, of_b, number_b) = stems y ((same y).0 in_y) in
        sym number_a ∙ once a b in_a in_b (one-place a.0 b.0 there_a there_b (of_a ∙ at ∙ sym of_b)) ∙ number_b

    pub unmarked-yet : (place : Place) → Contains stamps place → slice_get unmarked place.0 ≡ Some None
    unmarked-yet place inside =
        let (end, in_end, there, of, number) = stems place ((same place).0 inside) in
        let low : place.0 < length unmarked = omega (arith, within end.0 0 there, of, as_unmarked) in
        slice_get-get_or unmarked place.0 None low ∙ ap (λ (m : Option MarkedEnd). Some m) (get_or-replicate (length positions) place.0 None None (omega (arith, low, as_unmarked)))

    pub marked-at : AreMarkedAt ends positions (with_each stamps unmarked)
    marked-at = record {
      counted = each-length stamps unmarked ∙ as_unmarked;
      ended = λ place number inside. elim (at place (places-there place number inside)) [
        | inl (same_there, none) ↦ absurd (none number ((same (at_position (place, number))).1 (there-too (place, number) inside)))
        | inr (other, of, is) ↦ unwrap_or-slice_get (with_each stamps unmarked) (slice_index positions place) None ∙ is ∙ ap (λ (n : ℕ). Some (Stamped n))
            (one-number (slice_index positions place, other) (at_position (place, number)) of ((same (at_position (place, number))).1 (there-too (place, number) inside)) refl)
      ];
      others = λ place there none. elim (at place there) [
        | inl (same_there, other) ↦ unwrap_or-slice_get (with_each stamps unmarked) (slice_index positions place) None ∙ same_there ∙ get_or-replicate (length positions) (slice_index positions place) None None (within place 0 there)
        | inr (number, of, is) ↦
            let (end, in_end, there_end, of_end, number_end) = stems (slice_index positions place, number) ((same (slice_index positions place, number)).0 of) in
            absurd (none number (subst (Contains ends) (λ i. (one-place end.0 place there_end there of_end i, number_end i)) in_end))
      ];
    }
      where
        places-there : (place number : ℕ) → Contains ends (place, number) → place < length positions
        places-there place number inside = All-contains (λ (end : Place). end.0 < length positions) ends (place, number) places inside

        at : (place : ℕ) → place < length positions
            → ((get_or (with_each stamps unmarked) (slice_index positions place) None ≡ get_or unmarked (slice_index positions place) None) × ((number : ℕ) → Contains stamps (slice_index positions place, number) → ⊥))
            ⊎ ((number : ℕ) × Contains stamps (slice_index positions place, number) × (get_or (with_each stamps unmarked) (slice_index positions place) None ≡ Some (Stamped number)))
        at place there = each-at stamps unmarked (slice_index positions place) (omega (arith, within place 0 there, as_unmarked))
