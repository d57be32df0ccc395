-- Places in their order, each once: positions with the numbers of their ends.
use Rattle.std.proofs.Common.{◌≡◌, ℕ, ◌<◌, Bool, true, false, ◌&&◌, eqb, List, [], ◌∷◌, get_or, length, AllPairs, refl, ap, subst, arith}
use Rattle.std.specs.declared.cmp.Ordering.{Ordering}
use Rattle.std.specs.declared.cmp.Ordering.TheVariants.{Less, Equal, Greater}
use Rattle.std.specs.Cmp.{Equal-is, IsTotalOrder, IsEquivalence}
use Rattle.std.specs.List.{Contains}
use Rattle.std.specs.List.Sorted.{IsStrictlySortedBy}
use Rattle.std.specs.Ordering.{eq_by_cmp, is_eq, nat_cmp, ordering_then}
use Rattle.std.proofs.lemmas.Bool.{eqb-true}
use Rattle.std.proofs.lemmas.Bool.Decides.{same_from_decides}
use Rattle.std.proofs.lemmas.Cmp.{and_equiv, nat_cmp_total, nat_eq_equiv, on_equiv, on_total, ranked, then_total, tied_itself}
use Rattle.std.proofs.lemmas.List.Elements.{All-from_recursion, Contains-get_or}
use Rattle.std.proofs.lemmas.List.Kept.{AllPairs-cons}
use Rattle.std.proofs.lemmas.Map.Lookups.{exact_pairs, exact_unsigned}
use Rattle.tuple_mover.specs.Flushed.{place_cmp}

abbrev pub Place : Type 0
Place = ℕ × ℕ

-- what `==` answers at places
abbrev pub same_place : Place → Place → Bool
same_place x y = eqb x.0 y.0 && eqb x.1 y.1

pub place_total : IsTotalOrder place_cmp
place_total = then_total (on_total (λ (place : Place). place.0) nat_cmp_total) (on_total (λ (place : Place). place.1) nat_cmp_total)

pub place_equiv : IsEquivalence same_place
place_equiv = and_equiv (on_equiv (λ (place : Place). place.0) nat_eq_equiv) (on_equiv (λ (place : Place). place.1) nat_eq_equiv)

pub one_place : (x y : Place) → same_place x y ≡ true → x ≡ y
one_place x y e = step (eqb x.0 y.0) (eqb x.1 y.1) refl refl e
  where
    step : (p q : Bool) → eqb x.0 y.0 ≡ p → eqb x.1 y.1 ≡ q → (p && q) ≡ true → x ≡ y
    step true true position number both = λ i. (eqb-true x.0 y.0 position i, eqb-true x.1 y.1 number i)
    step true false position number both = cc
    step false q position number both = cc

-- places are the same where they tie
pub ties : (x y : Place) → same_place x y ≡ eq_by_cmp place_cmp x y
ties x y =
    same_from_decides (same_place x y) (is_eq (place_cmp x y)) (one_place x y, λ same. subst (λ (z : Place). same_place x z ≡ true) same (place_equiv.refl x))
    (λ tied. exact_pairs nat_cmp nat_cmp exact_unsigned exact_unsigned x y ((Equal-is (place_cmp x y)).0 tied), λ same. ap is_eq (subst (λ (z : Place). place_cmp x z ≡ Equal) same (tied_itself place_total x)))

-- ---- positions that ascend

-- of two places in order that are of one position only where they have one number, the first has the lesser position
before_it : (x y : Place) → place_cmp x y ≡ Less → (x.0 ≡ y.0 → x.1 ≡ y.1) → x.0 < y.0
before_it x y less one = step (nat_cmp x.0 y.0) (nat_cmp x.1 y.1) refl refl less
  where
    step : (r s : Ordering) → r ≡ nat_cmp x.0 y.0 → s ≡ nat_cmp x.1 y.1 → ordering_then r s ≡ Less → x.0 < y.0
    step Less s position number e = ranked x.0 y.0 Less position
    step Equal Less position number e =
        let same : x.1 ≡ y.1 = one (ranked x.0 y.0 Equal position) in
        let lesser : x.1 < y.1 = ranked x.1 y.1 Less number in
        absurd (omega (arith, same, lesser))
    step Equal Equal position number e = cc
    step Equal Greater position number e = cc
    step Greater s position number e = cc

in_pairs : (places : List Place) → IsStrictlySortedBy place_cmp places → AllPairs (λ x y. place_cmp x y ≡ Less) places
unfolding IsStrictlySortedBy
in_pairs [] up = λ i j d less there. absurd (omega (arith, there))
in_pairs (place ∷ places) up = AllPairs-cons (λ x y. place_cmp x y ≡ Less) place places (All-from_recursion (λ y. place_cmp place y ≡ Less) places up.0) (in_pairs places up.1)

-- positions of places in order, each once, ascend where each has one number
pub positions_ascend : (places : List Place) → IsStrictlySortedBy place_cmp places → ((x y : Place) → Contains places x → Contains places y → x.0 ≡ y.0 → x.1 ≡ y.1) → AllPairs (λ (x y : Place). x.0 < y.0) places
positions_ascend places up one i j d less there =
    let first : i < length places = omega (arith, less, there) in
    before_it (get_or places i d) (get_or places j d) (in_pairs places up i j d less there) (one (get_or places i d) (get_or places j d) (Contains-get_or places i d first) (Contains-get_or places j d there))
