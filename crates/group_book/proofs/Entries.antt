-- The entries of the buffer.
use Rattle.std.proofs.Common.{◌≡◌, ℕ, Bool, true, false, ◌&&◌, ◌||◌, cond, eqb, List, [], ◌∷◌, filter, refl, sym, ap, ◌∙◌, arith}
use Rattle.std.specs.List.{AllByRecursion}
use Rattle.std.specs.List.Sorted.{IsStrictlySortedBy}
use Rattle.std.proofs.lemmas.Bool.Decides.{nat_tests}
use Rattle.std.proofs.lemmas.List.Kept.{IsStrictlySortedBy-filter}
use Rattle.cs_types.specs.declared.Key.{Key}
use Rattle.cs_types.specs.Keys.{same_key}
use Rattle.group_book.specs.Book.{Ending}
use Rattle.group_book.specs.Commits.{ending_cmp}
use Rattle.group_book.specs.Turns.{holds}
use Rattle.group_book.proofs.Keys.{key_is}

pub sorted_filter : (q : Ending → Bool) (xs : List Ending) → IsStrictlySortedBy ending_cmp xs → IsStrictlySortedBy ending_cmp (filter q xs)
sorted_filter q xs up = IsStrictlySortedBy-filter ending_cmp q xs up

-- what a filter of entries holds
pub holds-filter : (q : Key → ℕ → Bool) (xs : List Ending) (k : Key) (e : ℕ) → holds (filter (λ x. q x.key x.end) xs) k e ≡ (holds xs k e && q k e)
holds-filter q [] k e = refl
holds-filter q (x ∷ xs) k e = step (same_key k x.key) (eqb x.end e) refl refl (q x.key x.end) refl (holds-filter q xs k e)
  where
    cases : (t u : Bool) → (t && u) ≡ ((false || t) && u)
    cases t u = refl

    kept : (t u : Bool) → u ≡ true → (true || t) ≡ ((true || t) && u)
    kept t true is = refl
    kept t false is = cc

    gone : (t u : Bool) → u ≡ false → (t && u) ≡ ((true || t) && u)
    gone true false is = refl
    gone false false is = refl
    gone t true is = cc

    step : (a b : Bool) → same_key k x.key ≡ a → eqb x.end e ≡ b → (t : Bool) → q x.key x.end ≡ t → holds (filter (λ y. q y.key y.end) xs) k e ≡ (holds xs k e && q k e) → holds (cond t (x ∷ filter (λ y. q y.key y.end) xs) (filter (λ y. q y.key y.end) xs)) k e ≡ (((a && b) || holds xs k e) && q k e)
    step true true is_a is_b true is rest =
        let key : x.key ≡ k = key_is k x.key is_a in
        let end : x.end ≡ e = grind (arith, nat_tests) in
        let here : q k e ≡ true = sym (ap (λ (n : Key). q n x.end) key ∙ ap (λ (n : ℕ). q k n) end) ∙ is in
        rw (is_a, is_b) (kept (holds xs k e) (q k e) here)
    step true true is_a is_b false is rest =
        let key : x.key ≡ k = key_is k x.key is_a in
        let end : x.end ≡ e = grind (arith, nat_tests) in
        let here : q k e ≡ false = sym (ap (λ (n : Key). q n x.end) key ∙ ap (λ (n : ℕ). q k n) end) ∙ is in
        rest ∙ gone (holds xs k e) (q k e) here
    step true false is_a is_b true is rest = rw (is_a, is_b) rest
    step true false is_a is_b false is rest = rest
    step false b is_a is_b true is rest = rw is_a rest
    step false b is_a is_b false is rest = rest

-- an entry that is held, with what holds of each
pub held_one : (Q : Ending → Type 0) (xs : List Ending) (k : Key) (e : ℕ) → AllByRecursion Q xs → holds xs k e ≡ true → (x : Ending) × (x.key ≡ k) × (x.end ≡ e) × Q x
held_one Q [] k e all h = cc
held_one Q (x ∷ xs) k e all h = step (same_key k x.key) (eqb x.end e) refl refl h (held_one Q xs k e all.1)
  where
    step : (a c : Bool) → same_key k x.key ≡ a → eqb x.end e ≡ c → ((a && c) || holds xs k e) ≡ true → (holds xs k e ≡ true → (y : Ending) × (y.key ≡ k) × (y.end ≡ e) × Q y) → (y : Ending) × (y.key ≡ k) × (y.end ≡ e) × Q y
    step true true is_a is_c h rest = (x, key_is k x.key is_a, grind (arith, nat_tests), all.0)
    step true false is_a is_c h rest = rest h
    step false c is_a is_c h rest = rest h
