-- A session's seat is set.
use Rattle.std.proofs.Common.{◌≡◌, ℕ, ◌<◌, zero, suc, List, [], ◌∷◌, length, refl, sym, ap, ◌∙◌, cond, Bool, true, false, arith, slice_get, slice_set, Option, None, Some, All}
use Rattle.std.specs.Prelude.{◌==◌}
use Rattle.std.proofs.lemmas.Bool.Decides.{nat_tests}
use Rattle.cs_model.specs.State.{with}
use Rattle.statement_core.specs.Seats.{flat, seat}

set_get : {A : Type 0} (xs : List A) (i s : ℕ) (x : A) → i < length xs → slice_get (slice_set xs i x) s ≡ cond (s == i) (Some x) (slice_get xs s)
set_get [] i s x lt = absurd (omega arith)
set_get (y ∷ xs) zero zero x lt = refl
set_get (y ∷ xs) zero (suc s) x lt = let f : (suc s == 0) ≡ false = grind arith in rw f refl
set_get (y ∷ xs) (suc i) zero x lt = let f : (0 == suc i) ≡ false = grind arith in rw f refl
set_get (y ∷ xs) (suc i) (suc s) x lt = let f : (suc s == suc i) ≡ (s == i) = grind (arith, nat_tests) in rw f (set_get xs i s x (omega arith))

chosen : {A : Type 0} (t : Bool) (x : Option A) (o : Option (Option A)) → flat (cond t (Some x) o) ≡ cond t x (flat o)
chosen true x o = refl
chosen false x o = refl

pub seat_set : {A : Type 0} (seats : List (Option A)) (i : ℕ) (x : Option A) → i < length seats → seat (slice_set seats i x) ≡ with (seat seats) i x
seat_set seats i x lt = λ k s. (ap flat (set_get seats i s x lt) ∙ chosen (s == i) x (slice_get seats s)) k

-- a function of what the sessions have
pub with_map : {A B : Type 0} (f : A → B) (g : ℕ → A) (i : ℕ) (x : A) → (λ s. f (with g i x s)) ≡ with (λ s. f (g s)) i (f x)
with_map f g i x = λ k s. at (s == i) s k
  where
    at : (t : Bool) (s : ℕ) → f (cond t x (g s)) ≡ cond t (f x) (f (g s))
    at true s = refl
    at false s = refl

-- set twice
pub with_twice : {A : Type 0} (f : ℕ → A) (i : ℕ) (x y : A) → with (with f i x) i y ≡ with f i y
with_twice f i x y = λ k s. at (s == i) s k
  where
    at : (t : Bool) (s : ℕ) → cond t y (cond t x (f s)) ≡ cond t y (f s)
    at true s = refl
    at false s = refl

-- set to what it is
pub with_same : {A : Type 0} (f : ℕ → A) (i : ℕ) → with f i (f i) ≡ f
with_same f i = λ k s. at s (s == i) refl k
  where
    at : (s : ℕ) (t : Bool) → (s == i) ≡ t → cond t (f i) (f s) ≡ f s
    at s true e = let is : s ≡ i = grind arith in ap f (sym is)
    at s false e = refl

pub with_own : {A : Type 0} (f : ℕ → A) (i : ℕ) (x : A) → with f i x i ≡ x
with_own f i x = let e : (i == i) ≡ true = grind (arith, nat_tests) in rw e refl

-- ---- seats that are all empty

pub no_seat : {A : Type 0} (seats : List (Option A)) (s : ℕ) → All (λ o. o ≡ None) seats → seat seats s ≡ None
no_seat [] s h = refl
no_seat (o ∷ seats) zero h = h 0 o (omega arith)
no_seat (o ∷ seats) (suc s) h = no_seat seats s (λ k d lt. h (suc k) d (omega arith))
