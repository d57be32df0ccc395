-- Positions of the versions that pass a test.
use Rattle.std.proofs.Common.{◌≡◌, ◌≢◌, ℕ, zero, suc, ◌+◌, Bool, true, false, cond, List, [], ◌∷◌, ◌++◌, map, length, refl, sym, ap, ◌∙◌, subst, append_assoc, arith, Contains}
use Rattle.std.specs.Prelude.{Option, None, Some, slice_get}
use Rattle.std.specs.List.{All, AllByRecursion, cons_option, filter_map}
use Rattle.std.specs.List.Sorted.{IsPermutation}
use Rattle.std.specs.Option.{option_and_then, option_map}
use Rattle.std.proofs.lemmas.List.{length_push}
use Rattle.std.proofs.lemmas.List.Elements.{All-from_recursion}
use Rattle.std.proofs.lemmas.List.Sorted.{IsPermutation-cons, IsPermutation-to_front}
use Rattle.std.proofs.lemmas.Option.{same_Some}
use Rattle.row_work.specs.Stores.{true_from}

module _ {X : Type 0} where
  -- tests that agree on each element
  pub same_flags : (q r : X → Bool) (xs : List X) → ((i : ℕ) (x : X) → slice_get xs i ≡ Some x → r x ≡ q x) → map r xs ≡ map q xs
  same_flags q r [] same = refl
  same_flags q r (x ∷ xs) same = λ k. same zero x refl k ∷ same_flags q r xs (λ i. same (suc i)) k

  -- the places where a further element passes
  pub one_more : (q r : X → Bool) (xs : List X) (n p : ℕ) (x : X) → slice_get xs p ≡ Some x → q x ≡ false → r x ≡ true → ((i : ℕ) (y : X) → i ≢ p → slice_get xs i ≡ Some y → r y ≡ q y)
      → IsPermutation (true_from n (map q xs) ++ (n + p) ∷ []) (true_from n (map r xs))
  one_more q r [] n p x at off on other = cc
  one_more q r (y ∷ ys) n zero x at off on other =
      let same = same_Some y x at in
      let rest = true_from (suc n) (map q ys) in
      let tail : true_from (suc n) (map r ys) ≡ rest = ap (true_from (suc n)) (same_flags q r ys (λ i z here. other (suc i) z (λ e. omega (arith, e)) here)) in
      let here : n + 0 ≡ n = omega arith in
      subst (λ t. IsPermutation (cond t (n ∷ rest) rest ++ (n + 0) ∷ []) (cond (r y) (n ∷ true_from (suc n) (map r ys)) (true_from (suc n) (map r ys)))) (sym (ap q same ∙ off))
      (subst (λ t. IsPermutation (rest ++ (n + 0) ∷ []) (cond t (n ∷ true_from (suc n) (map r ys)) (true_from (suc n) (map r ys)))) (sym (ap r same ∙ on))
      (subst (λ l. IsPermutation (rest ++ (n + 0) ∷ []) (n ∷ l)) (sym tail)
      (subst (λ m. IsPermutation (rest ++ m ∷ []) (n ∷ rest)) (sym here) (IsPermutation-to_front rest n))))
  one_more q r (y ∷ ys) n (suc p) x at off on other =
      let more = one_more q r ys (suc n) p x at off on (λ i z apart here. other (suc i) z (λ e. apart (omega (arith, e))) here) in
      let next : suc n + p ≡ n + suc p = omega arith in
      let kept = subst (λ m. IsPermutation (true_from (suc n) (map q ys) ++ m ∷ []) (true_from (suc n) (map r ys))) next more in
      subst (λ t. IsPermutation (cond (q y) (n ∷ true_from (suc n) (map q ys)) (true_from (suc n) (map q ys)) ++ (n + suc p) ∷ []) (cond t (n ∷ true_from (suc n) (map r ys)) (true_from (suc n) (map r ys)))) (sym (other zero y (λ e. omega (arith, e)) refl))
      (step (q y) kept)
    where
      step : (t : Bool) → IsPermutation (true_from (suc n) (map q ys) ++ (n + suc p) ∷ []) (true_from (suc n) (map r ys))
          → IsPermutation (cond t (n ∷ true_from (suc n) (map q ys)) (true_from (suc n) (map q ys)) ++ (n + suc p) ∷ []) (cond t (n ∷ true_from (suc n) (map r ys)) (true_from (suc n) (map r ys)))
      step true kept = IsPermutation-cons n (true_from (suc n) (map q ys) ++ (n + suc p) ∷ []) (true_from (suc n) (map r ys)) kept
      step false kept = kept

  -- each element that passes has its place
  pub place_there : (q : X → Bool) (xs : List X) (n p : ℕ) (x : X) → slice_get xs p ≡ Some x → q x ≡ true → Contains (true_from n (map q xs)) (n + p)
  place_there q [] n p x at on = cc
  place_there q (y ∷ ys) n zero x at on =
      let rest = true_from (suc n) (map q ys) in
      subst (λ t. Contains (cond t (n ∷ rest) rest) (n + 0)) (sym (ap q (same_Some y x at) ∙ on)) (0, omega arith, omega arith)
  place_there q (y ∷ ys) n (suc p) x at on =
      let next : suc n + p ≡ n + suc p = omega arith in
      step (q y) (subst (Contains (true_from (suc n) (map q ys))) next (place_there q ys (suc n) p x at on))
    where
      step : (t : Bool) → Contains (true_from (suc n) (map q ys)) (n + suc p) → Contains (cond t (n ∷ true_from (suc n) (map q ys)) (true_from (suc n) (map q ys))) (n + suc p)
      step true (i, l, e) = (suc i, omega (arith, l), e)
      step false there = there

  -- where none passes there is no place
  pub none_true : (xs : List X) (n : ℕ) (q : X → Bool) → ((i : ℕ) (x : X) → slice_get xs i ≡ Some x → q x ≡ false) → true_from n (map q xs) ≡ []
  none_true [] n q none = refl
  none_true (x ∷ xs) n q none = ap (λ t. cond t (n ∷ true_from (suc n) (map q xs)) (true_from (suc n) (map q xs))) (none zero x refl) ∙ none_true xs (suc n) q (λ i. none (suc i))

-- ---- what is read at these places

module _ {X Y : Type 0} (f : X → Option Y) (q : X → Bool) where
  abbrev pub where_true : X → Option Y
  where_true x = cond (q x) (f x) None

  get_at : (front xs : List X) (x : X) → slice_get (front ++ x ∷ xs) (length front) ≡ Some x
  get_at [] xs x = refl
  get_at (y ∷ front) xs x = get_at front xs x

  abbrev read_of : List X → ℕ → Option Y
  read_of all p = option_and_then f (slice_get all p)

  walked : (front xs : List X) → filter_map (read_of (front ++ xs)) (true_from (length front) (map q xs)) ≡ filter_map where_true xs
  walked front [] = refl
  walked front (x ∷ xs) = step (q x) (rest (walked (front ++ x ∷ []) xs))
    where
      rest : filter_map (read_of ((front ++ x ∷ []) ++ xs)) (true_from (length (front ++ x ∷ [])) (map q xs)) ≡ filter_map where_true xs → filter_map (read_of (front ++ x ∷ xs)) (true_from (suc (length front)) (map q xs)) ≡ filter_map where_true xs
      rest further =
          let count : suc (length front) ≡ length (front ++ x ∷ []) = let long = length_push front x in omega (arith, long) in
          ap (λ n. filter_map (read_of (front ++ x ∷ xs)) (true_from n (map q xs))) count
          ∙ ap (λ l. filter_map (read_of l) (true_from (length (front ++ x ∷ [])) (map q xs))) (sym (append_assoc front (x ∷ []) xs))
          ∙ further

      step : (t : Bool) → filter_map (read_of (front ++ x ∷ xs)) (true_from (suc (length front)) (map q xs)) ≡ filter_map where_true xs
          → filter_map (read_of (front ++ x ∷ xs)) (cond t (length front ∷ true_from (suc (length front)) (map q xs)) (true_from (suc (length front)) (map q xs))) ≡ cons_option (cond t (f x) None) (filter_map where_true xs)
      step true rest =
          ap (λ o. cons_option (option_and_then f o) (filter_map (read_of (front ++ x ∷ xs)) (true_from (suc (length front)) (map q xs)))) (get_at front xs x)
          ∙ ap (cons_option (f x)) rest
      step false rest = rest

  -- each place is one of an element that passes
  passing_from : (front xs : List X) → AllByRecursion (λ p. option_map q (slice_get (front ++ xs) p) ≡ Some true) (true_from (length front) (map q xs))
  passing_from front [] = tt
  passing_from front (x ∷ xs) = step (q x) refl (rest (passing_from (front ++ x ∷ []) xs))
    where
      rest : AllByRecursion (λ p. option_map q (slice_get ((front ++ x ∷ []) ++ xs) p) ≡ Some true) (true_from (length (front ++ x ∷ [])) (map q xs)) → AllByRecursion (λ p. option_map q (slice_get (front ++ x ∷ xs) p) ≡ Some true) (true_from (suc (length front)) (map q xs))
      rest further =
          let count : length (front ++ x ∷ []) ≡ suc (length front) = let long = length_push front x in omega (arith, long) in
          subst (λ n. AllByRecursion (λ p. option_map q (slice_get (front ++ x ∷ xs) p) ≡ Some true) (true_from n (map q xs))) count
          (subst (λ l. AllByRecursion (λ p. option_map q (slice_get l p) ≡ Some true) (true_from (length (front ++ x ∷ [])) (map q xs))) (append_assoc front (x ∷ []) xs) further)

      step : (t : Bool) → q x ≡ t → AllByRecursion (λ p. option_map q (slice_get (front ++ x ∷ xs) p) ≡ Some true) (true_from (suc (length front)) (map q xs))
          → AllByRecursion (λ p. option_map q (slice_get (front ++ x ∷ xs) p) ≡ Some true) (cond t (length front ∷ true_from (suc (length front)) (map q xs)) (true_from (suc (length front)) (map q xs)))
      step true is rest = (ap (option_map q) (get_at front xs x) ∙ ap Some is, rest)
      step false is rest = rest

  pub places_pass : (xs : List X) → All (λ p. option_map q (slice_get xs p) ≡ Some true) (true_from 0 (map q xs))
  places_pass xs = All-from_recursion (λ p. option_map q (slice_get xs p) ≡ Some true) (true_from 0 (map q xs)) (passing_from [] xs)

  -- what is read at the places of the elements that pass is what is read of these
  pub read_at_places : (xs : List X) → filter_map (λ p. option_and_then f (slice_get xs p)) (true_from 0 (map q xs)) ≡ filter_map where_true xs
  read_at_places xs = walked [] xs
