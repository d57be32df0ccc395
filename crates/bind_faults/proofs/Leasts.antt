-- The first of some faults.
use Rattle.std.proofs.Common.{◌≡◌, ℕ, suc, ◌+◌, ◌<◌, length, drop, drop-cons, get_or, List, [], ◌∷◌, ◌++◌, Bool, true, false, Option, None, Some, refl, ap, sym, subst, ◌∙◌, arith}
use Rattle.std.specs.Prelude.{if◌then◌else◌}
use Rattle.std.specs.List.{flat_map}
use Rattle.std.proofs.lemmas.Bool.Decides.{nat_tests}
use Rattle.bind_faults.specs.declared.fault.Fault.{Fault}
use Rattle.bind_faults.specs.Least.{is_before, first_of, earlier, least}

-- what comes before comes before all that the other one comes before
before_two : (a b c : Fault) → is_before c b ≡ true → is_before b a ≡ true → is_before c a ≡ true
before_two a b c p q = grind (arith, nat_tests, p, q)

not_before_two : (a b c : Fault) → is_before b a ≡ false → is_before c b ≡ false → is_before c a ≡ false
not_before_two a b c p q = grind (arith, nat_tests, p, q)

second_first : (a b : Fault) → is_before b a ≡ true → first_of a b ≡ b
second_first a b e = ap (λ t. if t then b else a) e

stays_first : (a b : Fault) → is_before b a ≡ false → first_of a b ≡ a
stays_first a b e = ap (λ t. if t then b else a) e

first_assoc : (a b c : Fault) → first_of (first_of a b) c ≡ first_of a (first_of b c)
first_assoc a b c = go (is_before b a) (is_before c b) refl refl
  where
    go : (p q : Bool) → is_before b a ≡ p → is_before c b ≡ q → first_of (first_of a b) c ≡ first_of a (first_of b c)
    go true true e f =
        ap (λ z. first_of z c) (second_first a b e) ∙ second_first b c f
        ∙ sym (ap (λ z. first_of a z) (second_first b c f) ∙ second_first a c (before_two a b c f e))
    go true false e f =
        ap (λ z. first_of z c) (second_first a b e) ∙ stays_first b c f
        ∙ sym (ap (λ z. first_of a z) (stays_first b c f) ∙ second_first a b e)
    go false true e f =
        ap (λ z. first_of z c) (stays_first a b e) ∙ sym (ap (λ z. first_of a z) (second_first b c f))
    go false false e f =
        ap (λ z. first_of z c) (stays_first a b e) ∙ stays_first a c (not_before_two a b c e f)
        ∙ sym (ap (λ z. first_of a z) (stays_first b c f) ∙ stays_first a b e)

pub earlier_assoc : (a b c : Option Fault) → earlier (earlier a b) c ≡ earlier a (earlier b c)
earlier_assoc None b c = refl
earlier_assoc (Some a) None c = refl
earlier_assoc (Some a) (Some b) None = refl
earlier_assoc (Some a) (Some b) (Some c) = ap Some (first_assoc a b c)

pub least_append : (xs ys : List Fault) → least (xs ++ ys) ≡ earlier (least xs) (least ys)
least_append [] ys = refl
least_append (x ∷ xs) ys = ap (earlier (Some x)) (least_append xs ys) ∙ sym (earlier_assoc (Some x) (least xs) (least ys))

-- none comes first exactly where there is none
pub least_none : (xs : List Fault) → least xs ≡ None → xs ≡ []
least_none [] e = refl
least_none (x ∷ xs) e = absurd (go (least xs) e)
  where
    go : (o : Option Fault) → earlier (Some x) o ≡ None → ⊥
    go None f = cc
    go (Some y) f = cc

-- the faults of one part are looked at
pub taken : (x rest : List Fault) (found next total : Option Fault) → next ≡ earlier found (least x)
    → earlier found (least (x ++ rest)) ≡ total → earlier next (least rest) ≡ total
taken x rest found next total e before =
    ap (λ z. earlier z (least rest)) e ∙ earlier_assoc found (least x) (least rest) ∙ ap (earlier found) (sym (least_append x rest)) ∙ before

-- what stands at a place, and after it
pub drop_here : {A : Type 0} (w : List A) (i : ℕ) (a : A) → i < length w → a ≡ get_or w i a → drop i w ≡ a ∷ drop (i + 1) w
drop_here w i a lt is =
    let one : suc i ≡ i + 1 = omega arith in
    subst (λ n. drop i w ≡ a ∷ drop n w) one (subst (λ z. drop i w ≡ z ∷ drop (suc i) w) (sym is) (drop-cons w i a lt))

-- one more of some things, each with faults
pub one_more : {A : Type 0} (f : A → List Fault) (w : List A) (i : ℕ) (a : A) (found next total : Option Fault) → i < length w → a ≡ get_or w i a → next ≡ earlier found (least (f a))
    → earlier found (least (flat_map f (drop i w))) ≡ total → earlier next (least (flat_map f (drop (i + 1) w))) ≡ total
one_more f w i a found next total lt is e before =
    taken (f a) (flat_map f (drop (i + 1) w)) found next total e (ap (λ z. earlier found (least (flat_map f z))) (sym (drop_here w i a lt is)) ∙ before)
