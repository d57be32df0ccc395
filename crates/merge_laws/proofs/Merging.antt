-- A merge in place from the back: of the old elements the first i are left where they stood, of the new ones the first j,
-- and all others stand after the gap between them.
use Rattle.std.proofs.Common.{◌≡◌, ℕ, suc, ◌+◌, ◌-◌, ◌<◌, ◌≤◌, inl, inr, List, [], ◌∷◌, ◌++◌, length, get_or, take, drop, set, refl, sym, ap, subst, ◌∙◌, append_assoc, All, AllPairs, arith, length-append}
use Rattle.std.specs.List.Sorted.{IsPermutation}
use Rattle.std.proofs.Math.ListN.{get_or-append}
use Rattle.std.proofs.lemmas.Bool.{cases_lt}
use Rattle.std.proofs.lemmas.List.{append-nil, drop_all, get_or-append-add, get_or-take, get_or_default, length-set, length-take-le, take-append-drop, take-set-le, take-take, take_all, take_more}
use Rattle.std.proofs.lemmas.Grind.{drop-set_at}
use Rattle.std.proofs.lemmas.List.Elements.{All-append, All-cons, All-head, All-tail}
use Rattle.std.proofs.lemmas.List.Kept.{AllPairs-cons}
use Rattle.std.proofs.lemmas.List.Sorted.{IsPermutation-append_right, IsPermutation-middle, IsPermutation-refl, IsPermutation-sym, IsPermutation-trans}

-- what holds of all elements of two lists holds of those of each
All-front : {X : Type 0} (P : X → Type 0) (xs ys : List X) → All P (xs ++ ys) → All P xs
All-front P xs ys all k d there = subst P (get_or-append xs ys d k there) (all k d (omega (arith, length-append xs ys)))

All-back : {X : Type 0} (P : X → Type 0) (xs ys : List X) → All P (xs ++ ys) → All P ys
All-back P xs ys all k d there = subst P (get_or-append-add xs ys k d) (all (length xs + k) d (omega (arith, length-append xs ys)))

AllPairs-head : {X : Type 0} (R : X → X → Type 0) (x : X) (xs : List X) → AllPairs R (x ∷ xs) → All (R x) xs
AllPairs-head R x xs up k d there = up 0 (suc k) d (omega arith) (omega arith)

AllPairs-tail : {X : Type 0} (R : X → X → Type 0) (x : X) (xs : List X) → AllPairs R (x ∷ xs) → AllPairs R xs
AllPairs-tail R x xs up i j d less there = up (suc i) (suc j) d (omega arith) (omega arith)

pub AllPairs-front : {X : Type 0} (R : X → X → Type 0) (xs ys : List X) → AllPairs R (xs ++ ys) → AllPairs R xs
AllPairs-front R xs ys up i j d less there =
    subst (λ x. R x (get_or xs j d)) (get_or-append xs ys d i (omega arith))
    (subst (λ y. R (get_or (xs ++ ys) i d) y) (get_or-append xs ys d j there) (up i j d less (omega (arith, length-append xs ys))))

AllPairs-back : {X : Type 0} (R : X → X → Type 0) (xs ys : List X) → AllPairs R (xs ++ ys) → AllPairs R ys
AllPairs-back R [] ys up = up
AllPairs-back R (x ∷ xs) ys up = AllPairs-back R xs ys (AllPairs-tail R x (xs ++ ys) up)

-- an element that is above all before it and below all after it keeps the order between them
AllPairs-between : {X : Type 0} (R : X → X → Type 0) (xs : List X) (x : X) (ys : List X) → AllPairs R (xs ++ ys) → AllPairs R (x ∷ ys) → All (λ y. R y x) xs → AllPairs R (xs ++ x ∷ ys)
AllPairs-between R [] x ys up behind above = behind
AllPairs-between R (y ∷ xs) x ys up behind above =
    let later = AllPairs-head R y (xs ++ ys) up in
    AllPairs-cons R y (xs ++ x ∷ ys)
    (All-append (R y) xs (x ∷ ys) (All-front (R y) xs ys later) (All-cons (R y) x ys (All-head (λ z. R z x) y xs above) (All-back (R y) xs ys later)))
    (AllPairs-between R xs x ys (AllPairs-tail R y (xs ++ ys) up) behind (All-tail (λ z. R z x) y xs above))

-- what is above the last of a list in order is above all of it
pub All-below_last : {X : Type 0} (R : X → X → Type 0) → ((a b c : X) → R a b → R b c → R a c) → (xs : List X) (n : ℕ) (x : X) → AllPairs R (take n xs) → n ≤ length xs → (0 < n → R (get_or xs (n - 1) x) x) → All (λ y. R y x) (take n xs)
All-below_last R trans xs n x up within last k d there =
    let short = length-take-le n xs within in
    let at = get_or_default (take n xs) k d x there in
    let end = get_or-take n xs (n - 1) x (omega arith) in
    subst (λ y. R y x) (sym at)
    (elim (cases_lt k (n - 1)) [
      | inl less ↦
          trans (get_or (take n xs) k x) (get_or xs (n - 1) x) x
          (subst (R (get_or (take n xs) k x)) end (up k (n - 1) x less (omega arith))) (last (omega arith))
      | inr more ↦
          let same : k ≡ n - 1 = omega arith in
          subst (λ y. R y x) (sym (ap (λ i. get_or (take n xs) i x) same ∙ end)) (last (omega arith))
    ])

-- where a merge stands
pub record IsMerging {X : Type 0} (R : X → X → Type 0) (all before news cells : List X) (i j : ℕ) : Type 0 where
  pub olds_left : i ≤ length before
  pub news_left : j ≤ length news
  pub gap : i + j ≤ length cells
  pub front : take i cells ≡ take i before
  pub olds_below : AllPairs R (take i before ++ drop (i + j) cells)
  pub news_below : AllPairs R (take j news ++ drop (i + j) cells)
  pub kept : IsPermutation all (take j news ++ (take i before ++ drop (i + j) cells))

module _ {X : Type 0} (R : X → X → Type 0) where
  -- as it begins, no element stands after
  pub IsMerging-start : (before news cells : List X) (i j : ℕ) → i ≡ length before → j ≡ length news → length cells ≡ i + j → take i cells ≡ before
      → AllPairs R before → AllPairs R news → IsMerging R (news ++ before) before news cells i j
  IsMerging-start before news cells i j all_old all_new sized front olds_up news_up =
      let none : drop (i + j) cells ≡ [] = drop_all (i + j) cells (omega arith) in
      let whole : take j news ≡ news = take_all j news (omega arith) in
      let left : take i before ≡ before = take_all i before (omega arith) in
      let olds : take i before ++ drop (i + j) cells ≡ before = ap (λ rest. take i before ++ rest) none ∙ append-nil (take i before) ∙ left in
      let given : take j news ++ drop (i + j) cells ≡ news = ap (λ rest. take j news ++ rest) none ∙ append-nil (take j news) ∙ whole in
      let all : take j news ++ (take i before ++ drop (i + j) cells) ≡ news ++ before = ap (λ xs. xs ++ (take i before ++ drop (i + j) cells)) whole ∙ ap (λ xs. news ++ xs) olds in
      record {
        olds_left = omega arith;
        news_left = omega arith;
        gap = omega arith;
        front = front ∙ sym left;
        olds_below = subst (AllPairs R) (sym olds) olds_up;
        news_below = subst (AllPairs R) (sym given) news_up;
        kept = subst (IsPermutation (news ++ before)) (sym all) (IsPermutation-refl (news ++ before));
      }

  -- the last old element goes to the end of the gap, where it is above the new ones that are left
  pub IsMerging-old : (all before news cells : List X) (i j : ℕ) (x : X) → IsMerging R all before news cells (i + 1) j → x ≡ get_or before i x → All (λ y. R y x) (take j news)
      → IsMerging R all before news (set cells (i + j) x) i j
  IsMerging-old all before news cells i j x merging is above =
      let rest = drop (i + 1 + j) cells in
      let left : take (i + 1) before ≡ take i before ++ x ∷ [] = take_more before i x (omega (arith, merging.olds_left)) ∙ ap (λ y. take i before ++ y ∷ []) (sym is) in
      let behind : drop (i + j) (set cells (i + j) x) ≡ x ∷ rest =
      drop-set_at cells (i + j) (i + j) x refl (omega (arith, merging.gap)) ∙ ap (λ n. x ∷ drop n cells) (omega arith) in
      let olds : take (i + 1) before ++ rest ≡ take i before ++ x ∷ rest = ap (λ xs. xs ++ rest) left ∙ append_assoc (take i before) (x ∷ []) rest in
      let up : AllPairs R (take i before ++ x ∷ rest) = subst (AllPairs R) olds merging.olds_below in
      record {
        olds_left = omega (arith, merging.olds_left);
        news_left = merging.news_left;
        gap = omega (arith, merging.gap, length-set cells (i + j) x);
        front =
            take-set-le i cells (i + j) x (omega arith) ∙ sym (take-take i (i + 1) cells (omega arith))
            ∙ ap (take i) merging.front ∙ take-take i (i + 1) before (omega arith);
        olds_below = subst (λ ys. AllPairs R (take i before ++ ys)) (sym behind) up;
        news_below = subst (λ ys. AllPairs R (take j news ++ ys)) (sym behind) (AllPairs-between R (take j news) x rest merging.news_below (AllPairs-back R (take i before) (x ∷ rest) up) above);
        kept = subst (λ ys. IsPermutation all (take j news ++ ys)) (olds ∙ ap (λ ys. take i before ++ ys) (sym behind)) merging.kept;
      }

  -- the last new element goes to the end of the gap, where it is above the old ones that are left
  pub IsMerging-new : (all before news cells : List X) (i j : ℕ) (x : X) → IsMerging R all before news cells i (j + 1) → x ≡ get_or news j x → All (λ y. R y x) (take i before)
      → IsMerging R all before news (set cells (i + j) x) i j
  IsMerging-new all before news cells i j x merging is above =
      let rest = drop (i + (j + 1)) cells in
      let left : take (j + 1) news ≡ take j news ++ x ∷ [] = take_more news j x (omega (arith, merging.news_left)) ∙ ap (λ y. take j news ++ y ∷ []) (sym is) in
      let behind : drop (i + j) (set cells (i + j) x) ≡ x ∷ rest =
      drop-set_at cells (i + j) (i + j) x refl (omega (arith, merging.gap)) ∙ ap (λ n. x ∷ drop n cells) (omega arith) in
      let given : (ys : List X) → take (j + 1) news ++ ys ≡ take j news ++ x ∷ ys = λ ys. ap (λ xs. xs ++ ys) left ∙ append_assoc (take j news) (x ∷ []) ys in
      let up : AllPairs R (take j news ++ x ∷ rest) = subst (AllPairs R) (given rest) merging.news_below in
      record {
        olds_left = merging.olds_left;
        news_left = omega (arith, merging.news_left);
        gap = omega (arith, merging.gap, length-set cells (i + j) x);
        front = take-set-le i cells (i + j) x (omega arith) ∙ merging.front;
        olds_below = subst (λ ys. AllPairs R (take i before ++ ys)) (sym behind) (AllPairs-between R (take i before) x rest merging.olds_below (AllPairs-back R (take j news) (x ∷ rest) up) above);
        news_below = subst (λ ys. AllPairs R (take j news ++ ys)) (sym behind) up;
        kept =
            IsPermutation-trans all (take j news ++ x ∷ (take i before ++ rest)) (take j news ++ (take i before ++ drop (i + j) (set cells (i + j) x)))
            (subst (IsPermutation all) (given (take i before ++ rest)) merging.kept)
            (subst (λ ys. IsPermutation (take j news ++ x ∷ (take i before ++ rest)) (take j news ++ (take i before ++ ys))) (sym behind)
            (IsPermutation-append_right (take j news) (x ∷ (take i before ++ rest)) (take i before ++ x ∷ rest)
            (IsPermutation-sym (take i before ++ x ∷ rest) (x ∷ (take i before ++ rest)) (IsPermutation-middle (take i before) x rest))));
      }

  -- it ends where no new element is left: the list is in order, and has the new elements and the old ones
  pub IsMerging-end : (all before news cells : List X) (i : ℕ) → IsMerging R all before news cells i 0 → IsPermutation all cells × AllPairs R cells
  IsMerging-end all before news cells i merging =
      let joined : take i before ++ drop (i + 0) cells ≡ cells = ap (λ xs. xs ++ drop (i + 0) cells) (sym merging.front) ∙ ap (λ n. take i cells ++ drop n cells) (omega arith) ∙ take-append-drop i cells in
      (subst (IsPermutation all) joined merging.kept, subst (AllPairs R) joined merging.olds_below)
