-- How often a number stands in a list.
use Rattle.std.proofs.Common.{◌≡◌, ◌≢◌, ℕ, zero, suc, ◌+◌, ◌-◌, ◌<◌, ◌≤◌, ◌==◌, ◌⊎◌, Bool, true, false, cond, List, [], ◌∷◌, ◌++◌, length, get_or, sym, refl, ap, ◌∙◌, subst, inl, inr, ⊎_elim, arith, eq-eqb, ne_eqb, All, Contains}
use mathlib.Core.Logic.{dite}
use native.Mathlib.Decide.{ℕ_discrete}
use Rattle.std.specs.List.{range_with_len}
use Rattle.std.proofs.lemmas.List.Sums.{sum_by-cons, sum_by-append}
use Rattle.std.proofs.lemmas.List.Elements.{All-cons, All-tail, All-head}
use Rattle.history_gate.specs.Histories.{without, own_numbers}
use Rattle.history_gate.specs.Views.{times}

-- 1 where two numbers are the same, else 0
abbrev pub same_number : ℕ → ℕ → ℕ
same_number m n = cond (m == n) 1 0

pub one_is : (m n : ℕ) → m ≡ n → same_number m n ≡ 1
one_is m n e = ap (λ b. cond b 1 0) (eq-eqb m n e)

pub one_not : (m n : ℕ) → m ≢ n → same_number m n ≡ 0
one_not m n e = ap (λ b. cond b 1 0) (ne_eqb m n e)

pub times_cons : (k n : ℕ) (ns : List ℕ) → times k (n ∷ ns) ≡ same_number n k + times k ns
times_cons k n ns = sum_by-cons (λ m. cond (m == k) 1 0) n ns

pub times_both : (n : ℕ) (xs ys : List ℕ) → times n (xs ++ ys) ≡ times n xs + times n ys
times_both n xs ys = sum_by-append (λ m. cond (m == n) 1 0) xs ys

pub times_at : (ns : List ℕ) (k d : ℕ) → k < length ns → 1 ≤ times (get_or ns k d) ns
times_at [] k d lt = absurd (omega arith)
times_at (n ∷ ns) zero d lt = omega (arith, one_is n n refl, times_cons n n ns)
times_at (n ∷ ns) (suc k) d lt = let x : ℕ = get_or ns k d in omega (arith, times_at ns k d (omega arith), times_cons x n ns)

pub times_contained : (ns : List ℕ) (n : ℕ) → Contains ns n → 1 ≤ times n ns
times_contained ns n c = subst (λ z. 1 ≤ times z ns) c.2 (times_at ns c.0 n c.1)

pub times_own : {E : Type 0} (own : List (ℕ × List E)) (k : ℕ) (d : ℕ × List E) → k < length own → 1 ≤ times (get_or own k d).0 (own_numbers own)
times_own [] k d lt = absurd (omega arith)
times_own (p ∷ own) zero d lt = omega (arith, one_is p.0 p.0 refl, times_cons p.0 p.0 (own_numbers own))
times_own (p ∷ own) (suc k) d lt = let x : ℕ = (get_or own k d).0 in omega (arith, times_own own k d (omega arith), times_cons x p.0 (own_numbers own))

-- a range has each of its numbers once, and no other
pub times_out : (k n m : ℕ) → (k < n) ⊎ (n + m ≤ k) → times k (range_with_len n m) ≡ 0
times_out k n zero o = refl
times_out k n (suc m) o =
    let ne : n ≢ k = λ e. ⊎_elim (λ (h : k < n). omega arith) (λ (h : n + suc m ≤ k). omega arith) o in
    let o' : (k < n + 1) ⊎ ((n + 1) + m ≤ k) = ⊎_elim (λ (h : k < n). inl (omega arith)) (λ (h : n + suc m ≤ k). inr (omega arith)) o in
    omega (arith, times_cons k n (range_with_len (n + 1) m), one_not n k ne, times_out k (n + 1) m o')

pub times_in : (k n m : ℕ) → n ≤ k → k < n + m → times k (range_with_len n m) ≡ 1
times_in k n zero low high = absurd (omega arith)
times_in k n (suc m) low high = dite (ℕ_discrete n k)
    (λ e. omega (arith, times_cons k n (range_with_len (n + 1) m), one_is n k e, times_out k (n + 1) m (inl (omega arith))))
    (λ ne. omega (arith, times_cons k n (range_with_len (n + 1) m), one_not n k ne, times_in k (n + 1) m (omega arith) (omega arith)))

pub Contains-range : (k n m : ℕ) → n ≤ k → k < n + m → Contains (range_with_len n m) k
Contains-range k n zero low high = absurd (omega arith)
Contains-range k n (suc m) low high = dite (ℕ_discrete n k) (λ e. (0, omega arith, e))
    (λ ne. let c = Contains-range k (n + 1) m (omega arith) (omega arith) in let l = c.1 in (suc c.0, omega arith, c.2))

pub Contains-else : (x n : ℕ) (xs : List ℕ) → x ≢ n → Contains (x ∷ xs) n → Contains xs n
Contains-else x n xs ne (zero, lt, e) = absurd (ne e)
Contains-else x n xs ne (suc i, lt, e) = (i, omega arith, e)

pub Contains-cons : (x n : ℕ) (xs : List ℕ) → Contains xs n → Contains (x ∷ xs) n
Contains-cons x n xs c = let l = c.1 in (suc c.0, omega arith, c.2)

-- without one n
pub times_without : (k n : ℕ) (xs : List ℕ) → Contains xs n → times k (without n xs) + same_number n k ≡ times k xs
times_without k n [] c = absurd (let lt = c.1 in omega arith)
times_without k n (x ∷ xs) c = dite (ℕ_discrete x n)
    (λ e. subst (λ b. times k (cond b xs (x ∷ without n xs)) + same_number n k ≡ times k (x ∷ xs)) (sym (eq-eqb x n e)) (let same : same_number x k ≡ same_number n k = ap (λ z. same_number z k) e in omega (arith, same, times_cons k x xs)))
    (λ ne. subst (λ b. times k (cond b xs (x ∷ without n xs)) + same_number n k ≡ times k (x ∷ xs)) (sym (ne_eqb x n ne))
    (omega (arith, times_cons k x (without n xs), times_cons k x xs, times_without k n xs (Contains-else x n xs ne c))))

pub length_without : (n : ℕ) (xs : List ℕ) → Contains xs n → length (without n xs) + 1 ≡ length xs
length_without n [] c = absurd (let lt = c.1 in omega arith)
length_without n (x ∷ xs) c = dite (ℕ_discrete x n)
    (λ e. subst (λ b. length (cond b xs (x ∷ without n xs)) + 1 ≡ length (x ∷ xs)) (sym (eq-eqb x n e)) (omega arith))
    (λ ne. subst (λ b. length (cond b xs (x ∷ without n xs)) + 1 ≡ length (x ∷ xs)) (sym (ne_eqb x n ne)) (omega (arith, length_without n xs (Contains-else x n xs ne c))))

without_front : (n count : ℕ) → 0 < count → without n (range_with_len n count) ≡ range_with_len (n + 1) (count - 1)
without_front n zero some = absurd (omega arith)
without_front n (suc count) some = ap (λ b. cond b (range_with_len (n + 1) count) (n ∷ without n (range_with_len (n + 1) count))) (eq-eqb n n refl) ∙ ap (range_with_len (n + 1)) (let e : count ≡ suc count - 1 = omega arith in e)

-- a range loses its first number
pub without-range : (n count : ℕ) (reserve left : List ℕ) → 0 < count → reserve ≡ range_with_len n count → left ≡ without n reserve → left ≡ range_with_len (n + 1) (count - 1)
without-range n count reserve left some range gone = gone ∙ (ap (without n) range ∙ without_front n count some)

-- all others stay
pub Contains-without : (m n : ℕ) (xs : List ℕ) → m ≢ n → Contains xs n → Contains (without m xs) n
Contains-without m n [] ne c = absurd (let lt = c.1 in omega arith)
Contains-without m n (x ∷ xs) ne c = dite (ℕ_discrete x m)
    (λ e. subst (λ b. Contains (cond b xs (x ∷ without m xs)) n) (sym (eq-eqb x m e)) (Contains-else x n xs (λ h. ne (sym e ∙ h)) c))
    (λ differs. subst (λ b. Contains (cond b xs (x ∷ without m xs)) n) (sym (ne_eqb x m differs)) (dite (ℕ_discrete x n) (λ e. (0, omega arith, e)) (λ no. Contains-cons x n (without m xs) (Contains-without m n xs ne (Contains-else x n xs no c)))))

all_either : (P : ℕ → Type 0) (x : ℕ) (xs ys : List ℕ) (b : Bool) → All P (x ∷ xs) → All P ys → All P (cond b xs (x ∷ ys))
all_either P x xs ys true h rest = All-tail P x xs h
all_either P x xs ys false h rest = All-cons P x ys (All-head P x xs h) rest

pub All-without : (P : ℕ → Type 0) (n : ℕ) (xs : List ℕ) → All P xs → All P (without n xs)
All-without P n [] h = h
All-without P n (x ∷ xs) h = all_either P x xs (without n xs) (x == n) h (All-without P n xs (All-tail P x xs h))
