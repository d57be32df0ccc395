-- The least and the greatest number so far, as a loop goes on.
use Rattle.std.proofs.Common.{◌≡◌, ◌⊎◌, inl, inr, List, [], ◌∷◌, ◌++◌, refl, sym, arith, ℤ, ◌≤ℤ◌, Bool, true, false, cond, Contains, subst, int_lt, Some}
use Rattle.std.specs.Int.{int_min, int_max}
use Rattle.std.proofs.lemmas.Int.{ints, clamps}
use Rattle.std.proofs.lemmas.List.Elements.{All-push, All-weaker, Contains-append_left, Contains-push}
use Rattle.segment_value.specs.Scales.{IsLeast, IsGreatest, IsRange}

one_of : (b : Bool) (x y : ℤ) → (cond b x y ≡ x) ⊎ (cond b x y ≡ y)
one_of true x y = inl refl
one_of false x y = inr refl

pub IsLeast-one : (n : ℤ) → IsLeast (n ∷ []) n
IsLeast-one n = record { reached = Contains-push [] n; bound = All-push (λ m. n ≤ℤ m) [] n (λ k d l. absurd (omega arith)) (omega (arith, ints)) }

pub IsGreatest-one : (n : ℤ) → IsGreatest (n ∷ []) n
IsGreatest-one n = record { reached = Contains-push [] n; bound = All-push (λ m. m ≤ℤ n) [] n (λ k d l. absurd (omega arith)) (omega (arith, ints)) }

reached_by : (ns : List ℤ) (n m r : ℤ) → Contains ns m → (r ≡ n) ⊎ (r ≡ m) → Contains (ns ++ n ∷ []) r
reached_by ns n m r has (inl e) = subst (λ (k : ℤ). Contains (ns ++ n ∷ []) k) (sym e) (Contains-push ns n)
reached_by ns n m r has (inr e) = subst (λ (k : ℤ). Contains (ns ++ n ∷ []) k) (sym e) (Contains-append_left ns (n ∷ []) m has)

swapped : {A B : Type 0} → A ⊎ B → B ⊎ A
swapped (inl a) = inr a
swapped (inr b) = inl b

pub IsLeast-push : (ns : List ℤ) (n m : ℤ) → IsLeast ns m → IsLeast (ns ++ n ∷ []) (int_min n m)
IsLeast-push ns n m h = record {
  reached = reached_by ns n m (int_min n m) h.reached (swapped (one_of (int_lt m n) m n));
  bound = All-push (λ k. int_min n m ≤ℤ k) ns n
      (All-weaker (λ k. m ≤ℤ k) (λ k. int_min n m ≤ℤ k) (λ k l. omega (arith, ints, clamps)) ns h.bound) (omega (arith, ints, clamps));
}

pub IsGreatest-push : (ns : List ℤ) (n m : ℤ) → IsGreatest ns m → IsGreatest (ns ++ n ∷ []) (int_max n m)
IsGreatest-push ns n m h = record {
  reached = reached_by ns n m (int_max n m) h.reached (one_of (int_lt m n) n m);
  bound = All-push (λ k. k ≤ℤ int_max n m) ns n
      (All-weaker (λ k. k ≤ℤ m) (λ k. k ≤ℤ int_max n m) (λ k l. omega (arith, ints, clamps)) ns h.bound) (omega (arith, ints, clamps));
}

pub IsRange-push : (ns : List ℤ) (n m g : ℤ) → IsLeast ns m → IsGreatest ns g → IsRange (ns ++ n ∷ []) (Some (int_min n m, int_max n g))
IsRange-push ns n m g low high = (IsLeast-push ns n m low, IsGreatest-push ns n g high)

pub IsRange-one : (ns : List ℤ) (n : ℤ) → ns ≡ [] → IsRange (ns ++ n ∷ []) (Some (n, n))
IsRange-one ns n none = rw none (IsLeast-one n, IsGreatest-one n)
