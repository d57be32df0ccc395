-- Positions in their order.
use Rattle.std.proofs.Common.{◌≡◌, ◌≢◌, ℕ, zero, suc, ◌+◌, ◌<◌, ◌≤◌, Bool, true, false, List, [], ◌∷◌, length, get_or, sym, subst, ◌∙◌, refl, arith, Contains}
use Rattle.std.specs.declared.cmp.Ordering.{Ordering}
use Rattle.std.specs.declared.cmp.Ordering.TheVariants.{Less, Equal, Greater}
use Rattle.std.specs.Ordering.{nat_cmp, is_lt}
use Rattle.std.specs.Cmp.{IsStrictWeakOrder}
use Rattle.std.specs.List.{All, AllPairs, remove}
use Rattle.std.specs.List.Sorted.{IsPermutation, IsSortedBy}
use Rattle.std.proofs.lemmas.Cmp.{nat_cmp_total, ranked as nat_ranked}
use Rattle.std.proofs.lemmas.List.Sorted.{IsPermutation-remove, IsPermutation-sym, IsPermutation-trans, Contains-permutation, length_permutation, ranks_by}
use Rattle.answer_laws.proofs.Sorts.{TiedIsOne, in_order-moved}
use Rattle.answer_laws.proofs.Ties.{tied_equal}
use Rattle.batch_aggregate.proofs.Sorting.{is_in_order}
use Rattle.row_group.proofs.ApartLemmas.{all-moved}
use Rattle.row_work.specs.Stores.{true_from}

abbrev pub below : ℕ → ℕ → Bool
below a b = is_lt (nat_cmp a b)

ranked : IsStrictWeakOrder below
ranked = ranks_by nat_cmp_total (λ n. n)

-- places are counted up from n
from_n : (flags : List Bool) (n k d : ℕ) → k < length (true_from n flags) → n ≤ get_or (true_from n flags) k d
from_n [] n k d within = absurd (omega (arith, within))
from_n (true ∷ flags) n zero d within = omega arith
from_n (true ∷ flags) n (suc k) d within = let more = from_n flags (suc n) k d (omega (arith, within)) in omega (arith, more)
from_n (false ∷ flags) n k d within = let more = from_n flags (suc n) k d within in omega (arith, more)

-- none stands twice
pub places_apart : (flags : List Bool) (n : ℕ) → AllPairs (λ a b. a ≢ b) (true_from n flags)
places_apart [] n i j d less there same = absurd (omega (arith, there))
places_apart (true ∷ flags) n zero zero d less there same = absurd (omega (arith, less))
places_apart (true ∷ flags) n zero (suc j) d less there same = let more = from_n flags (suc n) j d (omega (arith, there)) in absurd (omega (arith, more, same))
places_apart (true ∷ flags) n (suc i) zero d less there same = absurd (omega (arith, less))
places_apart (true ∷ flags) n (suc i) (suc j) d less there same = places_apart flags (suc n) i j d (omega (arith, less)) (omega (arith, there)) same
places_apart (false ∷ flags) n i j d less there same = places_apart flags (suc n) i j d less there same

rises : (flags : List Bool) (n k d : ℕ) → k + 1 < length (true_from n flags) → get_or (true_from n flags) k d ≤ get_or (true_from n flags) (k + 1) d
rises [] n k d within = absurd (omega (arith, within))
rises (true ∷ flags) n zero d within = let more = from_n flags (suc n) 0 d (omega (arith, within)) in omega (arith, more)
rises (true ∷ flags) n (suc k) d within =
    let next : suc k + 1 ≡ suc (k + 1) = omega arith in
    subst (λ j. get_or (true_from n (true ∷ flags)) (suc k) d ≤ get_or (true_from n (true ∷ flags)) j d) (sym next) (rises flags (suc n) k d (omega (arith, within)))
rises (false ∷ flags) n k d within = rises flags (suc n) k d within

not_below : (a b : ℕ) → a ≤ b → below b a ≡ false
not_below a b le = step (nat_cmp b a) refl
  where
    step : (o : Ordering) → o ≡ nat_cmp b a → is_lt o ≡ false
    step Less is = let less : b < a = nat_ranked b a Less is in absurd (omega (arith, less, le))
    step Equal is = refl
    step Greater is = refl

sorted : (flags : List Bool) (n : ℕ) → IsSortedBy below (true_from n flags)
sorted flags n k d from within = not_below (get_or (true_from n flags) k d) (get_or (true_from n flags) (k + 1) d) (rises flags n k d within)

one : (xs : List ℕ) → TiedIsOne below xs
one xs a b in_a in_b tied = nat_ranked a b Equal (sym (tied_equal {X = ℕ} nat_cmp nat_cmp_total a b tied))

-- a sorted list of these places is all of them in their order
pub in_order_is : (found moved : List ℕ) (flags : List Bool) → IsPermutation found (true_from 0 flags) → IsPermutation found moved → IsSortedBy below moved → moved ≡ true_from 0 flags
in_order_is found moved flags these by_sort in_order =
    let places = true_from 0 flags in
    is_in_order below ranked moved moved in_order (λ x. refl)
    ∙ in_order-moved below ranked moved places (IsPermutation-trans moved found places (IsPermutation-sym found moved by_sort) these) (one moved)
    ∙ sym (is_in_order below ranked places places (sorted flags 0) (λ x. refl))

-- ---- numbers that differ

behind : (y : ℕ) (rest : List ℕ) (z : ℕ) → y ≢ z → Contains (y ∷ rest) z → Contains rest z
behind y rest z other (zero, l, e) = absurd (other e)
behind y rest z other (suc j, l, e) = (j, omega (arith, l), e)

-- they are no more than numbers among which all of them are
no_more : (xs ys : List ℕ) → AllPairs (λ a b. a ≢ b) ys → All (Contains xs) ys → length ys ≤ length xs
no_more xs [] apart among = omega arith
no_more xs (y ∷ ys) apart among =
    let (i, l, e) = among 0 y (omega arith) in
    let rest = remove xs i in
    let moved = IsPermutation-remove xs i y l (sym e) in
    let fewer = no_more rest ys (λ k m d less there. apart (suc k) (suc m) d (omega (arith, less)) (omega (arith, there)))
    (λ k d m. behind y rest (get_or ys k d) (λ same. apart 0 (suc k) d (omega arith) (omega (arith, m)) same) (Contains-permutation xs (y ∷ rest) (get_or ys k d) moved (among (suc k) d (omega (arith, m))))) in
    let all = length_permutation xs (y ∷ rest) moved in
    omega (arith, fewer, all)

-- numbers that are all among each other are those in another order
pub same_members : (xs ys : List ℕ) → AllPairs (λ a b. a ≢ b) xs → AllPairs (λ a b. a ≢ b) ys → All (Contains xs) ys → All (Contains ys) xs → IsPermutation xs ys
same_members xs ys apart other among back =
    let few = no_more xs ys other among in
    let many = no_more ys xs apart back in
    all-moved xs ys (omega (arith, few, many)) other among
