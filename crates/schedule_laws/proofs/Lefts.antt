-- A list of what a REORGANIZE left is one: it is in order, and names no group twice.
use Rattle.std.proofs.Common.{◌≡◌, ℕ, suc, ◌+◌, ◌<◌, ◌≤◌, ◌⊎◌, inl, inr, Bool, true, false, cond, List, [], ◌∷◌, map, filter, refl, sym, ap, ◌∙◌, arith}
use Rattle.std.specs.Prelude.{◌==◌, Contains}
use Rattle.std.specs.List.{flat_map}
use Rattle.std.specs.List.Sorted.{IsNonDecreasingBy}
use Rattle.std.proofs.lemmas.Bool.Decides.{nat_tests}
use Rattle.std.proofs.lemmas.List.Elements.{recursion_from_All}
use Rattle.std.proofs.lemmas.List.Sorted.{Contains-permutation, IsPermutation-sym}
use Rattle.cs_model.specs.declared.work.Actor.{Actor}
use Rattle.cs_model.specs.Changes.{Change}
use Rattle.group_book.specs.Book.{Claim, Book, how_many}
use Rattle.group_book.specs.Invariant.{joined, IsBookOf}
use Rattle.group_book.proofs.Lists.{AreApart, apart_head, apart_tail, counted, how_many-append, how_many-map, how_many-none, weaker}
use Rattle.group_book.proofs.Move.{how_many-permutation}
use Rattle.group_log.specs.Reorganizing.{held_groups, is_kept, AreLeft}
use Rattle.reorganize_laws.proofs.Lists.{in_cases, in_head, in_none, in_tail}

-- ---- no group twice

abbrev is_of : ℕ → ℕ × Actor → Bool
is_of id held = held.0 == id

abbrev AreOnce : List (ℕ × Actor) → Type 0
AreOnce list = (id : ℕ) → how_many (is_of id) list ≤ 1

once_apart : (id : ℕ) (ids : List ℕ) → AreApart ids → how_many (λ n. n == id) ids ≤ 1
once_apart id [] apart = omega arith
once_apart id (n ∷ ids) apart = at (n == id) refl (once_apart id ids (apart_tail n ids apart))
  where
    at : (t : Bool) → (n == id) ≡ t → how_many (λ k. k == id) ids ≤ 1 → cond t 1 0 + how_many (λ k. k == id) ids ≤ 1
    at true is rest =
        let none = how_many-none (λ k. k == id) ids (weaker (λ k. n ≡ k → ⊥) (λ k. (k == id) ≡ false) ids (λ k other. grind (arith, nat_tests)) (recursion_from_All (λ k. n ≡ k → ⊥) ids (apart_head n ids apart))) in
        omega (arith, none)
    at false is rest = omega (arith, rest)

abbrev held_by : Claim → List (ℕ × Actor)
held_by claim = map (λ source. (source, claim.actor)) claim.sources

held_count : (id : ℕ) (claims : List Claim) → how_many (is_of id) (flat_map held_by claims) ≡ how_many (λ n. n == id) (joined (λ (claim : Claim). claim.sources) claims)
held_count id [] = refl
held_count id (c ∷ claims) =
    let rest = held_count id claims in
    let here = how_many-map (is_of id) (λ source. (source, c.actor)) c.sources in
    how_many-append (is_of id) (held_by c) (flat_map held_by claims)
    ∙ (λ i. here i + rest i)
    ∙ sym (how_many-append (λ n. n == id) c.sources (joined (λ (claim : Claim). claim.sources) claims))

kept_count : (id : ℕ) (keep : ℕ × Actor → Bool) (list : List (ℕ × Actor)) → how_many (is_of id) (filter keep list) ≤ how_many (is_of id) list
kept_count id keep [] = omega arith
kept_count id keep (x ∷ list) = at (keep x) (kept_count id keep list)
  where
    at : (t : Bool) → how_many (is_of id) (filter keep list) ≤ how_many (is_of id) list → how_many (is_of id) (cond t (x ∷ filter keep list) (filter keep list)) ≤ how_many (is_of id) (x ∷ list)
    at true rest = omega (arith, rest)
    at false rest = omega (arith, rest)

-- ---- ids that rise

abbrev Rises : List (ℕ × Actor) → Type 0
Rises [] = Unit {0}
Rises (x ∷ list) = ((y : ℕ × Actor) → Contains list y → x.0 < y.0) × Rises list

above : (x y : ℕ × Actor) (list : List (ℕ × Actor)) → x.0 ≤ y.0 → Contains list y → how_many (is_of y.0) (x ∷ list) ≤ 1 → x.0 < y.0
above x y list low c once = at (x.0 == y.0) refl once
  where
    itself : (y.0 == y.0) ≡ true
    itself = grind (arith, nat_tests)

    at : (t : Bool) → (x.0 == y.0) ≡ t → cond t 1 0 + how_many (is_of y.0) list ≤ 1 → x.0 < y.0
    at true is once = let found = counted (is_of y.0) list y c itself in absurd (omega (arith, found, once))
    at false is once = grind (arith, nat_tests)

rises : (list : List (ℕ × Actor)) → IsNonDecreasingBy (λ (held : ℕ × Actor). held.0) list → AreOnce list → Rises list
rises [] sorted once = tt
rises (x ∷ list) sorted once = (
  (λ y c.
      let low = sorted 0 (suc c.0) y (omega arith) (let lt = c.1 in omega (arith, lt)) in
      let same = ap (λ (z : ℕ × Actor). z.0) c.2 in
      above x y list (omega (arith, low, same)) c (once y.0)),
  rises list (λ i j d le lt. sorted (suc i) (suc j) d (omega arith) (omega (arith, lt))) (λ id. let all = once id in omega (arith, all)),
)

one_list : (list other : List (ℕ × Actor)) → Rises list → Rises other → ((z : ℕ × Actor) → Contains list z → Contains other z) → ((z : ℕ × Actor) → Contains other z → Contains list z) → list ≡ other
one_list [] [] a b to back = refl
one_list [] (y ∷ other) a b to back = absurd (in_none y (back y (in_head y other)))
one_list (x ∷ list) [] a b to back = absurd (in_none x (to x (in_head x list)))
one_list (x ∷ list) (y ∷ other) a b to back =
    let rest = one_list list other a.1 b.1 (λ z c. later z c (in_cases y other z (to z (in_tail x list z c)))) (λ z c. earlier z c (in_cases x list z (back z (in_tail y other z c)))) in
    λ i. first i ∷ rest i
  where
    heads : (y ≡ x) ⊎ Contains other x → (x ≡ y) ⊎ Contains list y → x ≡ y
    heads (inl e) k = sym e
    heads (inr c) (inl e) = e
    heads (inr c) (inr d) = let low = b.0 x c in let high = a.0 y d in absurd (omega (arith, low, high))

    first : x ≡ y
    first = heads (in_cases y other x (to x (in_head x list))) (in_cases x list y (back y (in_head y other)))

    later : (z : ℕ × Actor) → Contains list z → (y ≡ z) ⊎ Contains other z → Contains other z
    later z c (inl e) = let up = a.0 z c in let same = ap (λ (h : ℕ × Actor). h.0) (first ∙ e) in absurd (omega (arith, up, same))
    later z c (inr d) = d

    earlier : (z : ℕ × Actor) → Contains other z → (x ≡ z) ⊎ Contains list z → Contains list z
    earlier z c (inl e) = let up = b.0 z c in let same = ap (λ (h : ℕ × Actor). h.0) (sym first ∙ e) in absurd (omega (arith, up, same))
    earlier z c (inr d) = d

-- ---- what was left

module _ (group_rows : ℕ) (book : Book) (changes : List Change) (floor : ℕ) (is : IsBookOf group_rows book changes floor) (marked : List ℕ) (by : Actor) where
  left_once : (left : List (ℕ × Actor)) → AreLeft marked by book left → AreOnce left
  left_once left a id =
      let moved = how_many-permutation (is_of id) (filter (is_kept marked by) (held_groups book)) left a.are in
      let kept = kept_count id (is_kept marked by) (held_groups book) in
      let count = held_count id book.claims in
      let all = once_apart id (joined (λ (claim : Claim). claim.sources) book.claims) is.claims.sources in
      omega (arith, moved, kept, count, all)

  left_in : (left other : List (ℕ × Actor)) → AreLeft marked by book left → AreLeft marked by book other → (z : ℕ × Actor) → Contains left z → Contains other z
  left_in left other a b z c =
      let kept : List (ℕ × Actor) = filter (is_kept marked by) (held_groups book) in
      Contains-permutation kept other z b.are (Contains-permutation left kept z (IsPermutation-sym kept left a.are) c)

  pub same_left : (left other : List (ℕ × Actor)) → AreLeft marked by book left → AreLeft marked by book other → left ≡ other
  same_left left other a b = one_list left other (rises left a.by_id (left_once left a)) (rises other b.by_id (left_once other b)) (left_in left other a b) (left_in other left b a)
