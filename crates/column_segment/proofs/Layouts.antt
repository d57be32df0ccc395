-- Widths and runs.
use Rattle.std.proofs.Common.{◌≡◌, ◌≢◌, ℕ, zero, suc, ◌+◌, ◌-◌, ◌^◌, ◌<◌, ◌≤◌, ◌⊎◌, inl, inr, List, [], ◌∷◌, length, get_or, refl, sym, ◌∙◌, ap, subst, arith, All, Contains, count_by, max, nat_le, cond, Bool, true, false}
use Rattle.std.proofs.lemmas.Bool.{cases_lt}
use Rattle.std.proofs.lemmas.Bool.Decides.{nat_tests}
use Rattle.std.proofs.lemmas.List.Elements.{All-contains}
use Rattle.std.proofs.lemmas.List.Sums.{sum_by-cons}
use Rattle.std.proofs.lemmas.Nat.{pow_pos, leading_length}
use Rattle.std.proofs.Math.Nat.{pow-suc}
use Rattle.std.proofs.Math.Pow.{pow_mono}
use Rattle.std.specs.Int.Count.{count_leading_zeros}
use Rattle.segment_rle.specs.Runs.{AreRuns, AreRunsOf, IsRun, start_of}
use Rattle.segment_rle.proofs.RunLemmas.{ends_rise}
use Rattle.column_segment.specs.Layouts.{IsLeastWidth, code_in_runs, begins_run, runs_below}

-- the number of bits that are left of 64 leading places
pub bits_room : (a : ℕ) → a < 2 ^ 64 → a < 2 ^ (64 - count_leading_zeros 64 a)
bits_room a small =
    let found = leading_length 64 a small in
    let bits : found.0 ≡ 64 - count_leading_zeros 64 a = omega (arith, found.1) in
    let P : ℕ → Type 0 = λ m. a < 2 ^ m in
    subst P bits found.2

pub bits_least : (a other : ℕ) → a < 2 ^ 64 → a < 2 ^ other → 64 - count_leading_zeros 64 a ≤ other
bits_least a other small room =
    let found = leading_length 64 a small in
    let bits : found.0 ≡ 64 - count_leading_zeros 64 a = omega (arith, found.1) in
    elim (cases_lt other found.0) [
      | inl less ↦
          let more : 2 ^ suc other ≤ 2 ^ found.0 = pow_mono (omega (arith, less)) in
          absurd (omega (arith, more, pow-suc 2 other, found.3, room))
      | inr enough ↦ omega (arith, bits, enough)
    ]

-- a width with room for the greatest code has room for all of them
pub IsLeastWidth-greatest : (codes : List ℕ) (greatest width : ℕ) → All (λ c. c ≤ greatest) codes → (greatest ≡ 0) ⊎ Contains codes greatest → greatest < 2 ^ width → ((other : ℕ) → greatest < 2 ^ other → width ≤ other) → IsLeastWidth codes width
IsLeastWidth-greatest codes greatest width bound reached room least = (
  (λ k d low. omega (arith, bound k d low, room)),
  (λ other all. least other (elim reached [
    | inl none ↦ omega (arith, none, pow_pos other)
    | inr has ↦ All-contains (λ c. c < 2 ^ other) codes greatest all has
  ])),
)

-- the least width is one
pub IsLeastWidth-same : (codes : List ℕ) (v w : ℕ) → IsLeastWidth codes v → IsLeastWidth codes w → v ≡ w
IsLeastWidth-same codes v w a b = omega (arith, a.1 w b.0, b.1 v a.0)

-- a place begins a run where its code is another than the one before it
begins_other : (all : List ℕ) (i : ℕ) → (get_or all i 0 ≡ get_or all (suc i) 0 → ⊥) → begins_run all (suc i) ≡ true
begins_other all i other = grind (arith, nat_tests)

begins_same : (all : List ℕ) (i : ℕ) → get_or all i 0 ≡ get_or all (suc i) 0 → begins_run all (suc i) ≡ false
begins_same all i same = grind (arith, nat_tests)

one_more : (all : List ℕ) (n r : ℕ) → begins_run all n ≡ true → runs_below all n ≡ r → runs_below all (suc n) ≡ suc r
one_more all n r begins e = ap (λ b. runs_below all n + cond b 1 0) begins ∙ omega (arith, e)

none_more : (all : List ℕ) (n r : ℕ) → begins_run all n ≡ false → runs_below all n ≡ r → runs_below all (suc n) ≡ r
none_more all n r begins e = ap (λ b. runs_below all n + cond b 1 0) begins ∙ omega (arith, e)

-- where run r begins, a run begins
begins_at : (all codes ends : List ℕ) → AreRunsOf all codes ends → (r : ℕ) → r < length ends → begins_run all (start_of ends r) ≡ true
begins_at all codes ends runs zero there = refl
begins_at all codes ends runs (suc r) there =
    let end : ℕ = get_or ends r 0 in
    let filled : start_of ends r < get_or ends r 0 = runs.in_order.filled r (omega (arith, there)) in
    let next : get_or ends r 0 < get_or ends (suc r) 0 = runs.in_order.filled (suc r) there in
    let last : suc (end - 1) ≡ end = omega (arith, filled) in
    let before : get_or all (end - 1) 0 ≡ get_or codes r 0 = runs.same r (end - 1) (omega (arith, there)) (omega (arith, filled)) (omega (arith, filled)) in
    let after : get_or all end 0 ≡ get_or codes (suc r) 0 = runs.same (suc r) end there (omega arith) next in
    let step : suc r ≡ r + 1 = omega arith in
    let other : get_or codes r 0 ≢ get_or codes (r + 1) 0 = runs.in_order.maximal r (omega (arith, there)) in
    let P : ℕ → Type 0 = λ n. begins_run all n ≡ true in
    subst P last (begins_other all (end - 1) (λ e. other (sym before ∙ e ∙ ap (λ n. get_or all n 0) last ∙ after ∙ ap (λ n. get_or codes n 0) step)))

-- within a run none begins
in_run : (all codes ends : List ℕ) → AreRunsOf all codes ends → (r t : ℕ) → r < length ends → start_of ends r + t < get_or ends r 0 → runs_below all (start_of ends r) ≡ r → runs_below all (suc (start_of ends r + t)) ≡ suc r
in_run all codes ends runs r zero there low e =
    let P : ℕ → Type 0 = λ n. runs_below all (suc n) ≡ suc r in
    let same : start_of ends r ≡ start_of ends r + 0 = omega arith in
    subst P same (one_more all (start_of ends r) r (begins_at all codes ends runs r there) e)
in_run all codes ends runs r (suc t) there low e =
    let n : ℕ = start_of ends r + t in
    let step : suc n ≡ start_of ends r + suc t = omega arith in
    let one : get_or all n 0 ≡ get_or codes r 0 = runs.same r n there (omega arith) (omega (arith, low)) in
    let two : get_or all (suc n) 0 ≡ get_or codes r 0 = runs.same r (suc n) there (omega arith) (omega (arith, low)) in
    let P : ℕ → Type 0 = λ m. runs_below all (suc m) ≡ suc r in
    subst P step (none_more all (suc n) (suc r) (begins_same all n (one ∙ sym two)) (in_run all codes ends runs r t there (omega (arith, low)) e))

runs_to : (all codes ends : List ℕ) → AreRunsOf all codes ends → (r : ℕ) → r ≤ length ends → runs_below all (start_of ends r) ≡ r
runs_to all codes ends runs zero there = refl
runs_to all codes ends runs (suc r) there =
    let start : ℕ = start_of ends r in
    let filled : start_of ends r < get_or ends r 0 = runs.in_order.filled r (omega (arith, there)) in
    let t : ℕ = get_or ends r 0 - start_of ends r - 1 in
    let whole : suc (start_of ends r + (get_or ends r 0 - start_of ends r - 1)) ≡ get_or ends r 0 = omega (arith, filled) in
    let P : ℕ → Type 0 = λ n. runs_below all n ≡ suc r in
    subst P whole (in_run all codes ends runs r t (omega (arith, there)) (omega (arith, filled)) (runs_to all codes ends runs r (omega (arith, there))))

-- there are as many runs as places that begin one
pub runs-count : (all codes ends : List ℕ) → AreRunsOf all codes ends → length ends ≡ runs_below all (length all)
runs-count all codes ends runs = sym (runs_to all codes ends runs (length ends) (omega arith)) ∙ ap (runs_below all) runs.whole

-- the first elements of a list pass a test, and nothing after them
count_front : (p : ℕ → Bool) (xs : List ℕ) (r : ℕ) → r ≤ length xs → ((k : ℕ) → k < r → p (get_or xs k 0) ≡ true) → ((k : ℕ) → r ≤ k → k < length xs → p (get_or xs k 0) ≡ false) → count_by p xs ≡ r
count_front p [] r most pass fail = omega (arith, most)
count_front p (x ∷ xs) zero most pass fail =
    let here : p x ≡ false = fail 0 (omega arith) (omega arith) in
    sum_by-cons (λ y. cond (p y) 1 0) x xs
    ∙ ap (λ b. cond b 1 0 + count_by p xs) here
    ∙ omega (arith, count_front p xs zero (omega arith) (λ k low. absurd (omega (arith, low))) (λ k high low. fail (suc k) (omega arith) (omega (arith, low))))
count_front p (x ∷ xs) (suc r) most pass fail =
    let here : p x ≡ true = pass 0 (omega arith) in
    sum_by-cons (λ y. cond (p y) 1 0) x xs
    ∙ ap (λ b. cond b 1 0 + count_by p xs) here
    ∙ omega (arith, count_front p xs r (omega (arith, most)) (λ k low. pass (suc k) (omega (arith, low))) (λ k high low. fail (suc k) (omega (arith, high)) (omega (arith, low))))

-- the code of a run is that of each of its places
pub run-code : (codes ends : List ℕ) (i code end : ℕ) → AreRuns codes ends → IsRun codes ends i code end → code_in_runs codes ends i ≡ code
run-code codes ends i code end runs is =
    let rise = ends_rise codes ends runs in
    ap (λ n. get_or codes n 0)
    (count_front (λ e. nat_le e i) ends is.run (omega (arith, is.there))
    (λ k low. passes k low)
    (λ k high low. let past : get_or ends is.run 0 ≤ get_or ends k 0 = rise is.run k 0 high low in
    let end-is : end ≡ get_or ends is.run 0 = is.end_is in
    above (get_or ends k 0) (omega (arith, past, end-is, is.not_ended))))
    ∙ sym is.code_is
  where
    above : (n : ℕ) → i < n → nat_le n i ≡ false
    above n h = grind (arith, nat_tests)

    below : (n : ℕ) → n ≤ i → nat_le n i ≡ true
    below n h = grind (arith, nat_tests)

    front : (r k : ℕ) → r < length ends → start_of ends r ≤ i → k < r → get_or ends k 0 ≤ i
    front zero k there begun low = absurd (omega (arith, low))
    front (suc r) k there begun low = omega (arith, ends_rise codes ends runs k r 0 (omega (arith, low)) (omega (arith, there)), begun)

    passes : (k : ℕ) → k < is.run → nat_le (get_or ends k 0) i ≡ true
    passes k low = below (get_or ends k 0) (front is.run k is.there is.begun low)

-- a later place of the same run
pub IsRun-later : (codes ends : List ℕ) (i j code end : ℕ) → IsRun codes ends i code end → i ≤ j → j < end → IsRun codes ends j code end
IsRun-later codes ends i j code end is past low = record {
  run = is.run;
  there = is.there;
  code_is = is.code_is;
  end_is = is.end_is;
  begun = omega (arith, is.begun, past);
  not_ended = low;
}

-- the greatest of one code more
pub max_bound : (codes : List ℕ) (i old new : ℕ) → new ≡ max old (get_or codes i 0) → ((k : ℕ) → k < i → get_or codes k 0 ≤ old) → (k : ℕ) → k < i + 1 → get_or codes k 0 ≤ new
max_bound codes i old new is bound k low = elim (cases_lt k i) [
  | inl before ↦ omega (arith, bound k before, is)
  | inr last ↦ let e : k ≡ i = omega (arith, low, last) in let f : get_or codes k 0 ≡ get_or codes i 0 = ap (λ n. get_or codes n 0) e in omega (arith, f, is)
]

pub max_reached : (codes : List ℕ) (i old new : ℕ) → new ≡ max old (get_or codes i 0) → ((old ≡ 0) ⊎ ((k : ℕ) × (k < i) × (get_or codes k 0 ≡ old))) → (new ≡ 0) ⊎ ((k : ℕ) × (k < i + 1) × (get_or codes k 0 ≡ new))
max_reached codes i old new is reached = elim (cases_lt old (get_or codes i 0)) [
  | inl more ↦ inr (i, omega arith, omega (arith, is, more))
  | inr less ↦ elim reached [
    | inl none ↦ inl (omega (arith, none, is, less))
    | inr has ↦ inr (has.0, omega (arith, has.1), omega (arith, has.2, is, less))
  ]
]

pub one_begins : (codes : List ℕ) (i runs : ℕ) (answer : Bool) → answer ≡ begins_run codes i → answer ≡ true → runs ≡ runs_below codes i → runs + 1 ≡ runs_below codes (i + 1)
one_begins codes i runs answer is begun e =
    let step : suc i ≡ i + 1 = omega arith in
    omega arith ∙ sym (one_more codes i runs (sym is ∙ begun) (sym e)) ∙ ap (runs_below codes) step

pub none_begins : (codes : List ℕ) (i runs : ℕ) (answer : Bool) → answer ≡ begins_run codes i → answer ≡ false → runs ≡ runs_below codes i → runs ≡ runs_below codes (i + 1)
none_begins codes i runs answer is other e =
    let step : suc i ≡ i + 1 = omega arith in
    sym (none_more codes i runs (sym is ∙ other) (sym e)) ∙ ap (runs_below codes) step

-- a stretch more of a run
pub stretch-more : (codes ends old new : List ℕ) (from done stop code end : ℕ) → AreRuns codes ends → IsRun codes ends (from + done) code end → from + stop ≤ end → ((i : ℕ) → i < done → get_or old i 0 ≡ code_in_runs codes ends (from + i)) → ((i : ℕ) → done ≤ i → i < stop → get_or new i 0 ≡ code) → ((i : ℕ) → i < done → get_or new i 0 ≡ get_or old i 0) → (i : ℕ) → i < stop → get_or new i 0 ≡ code_in_runs codes ends (from + i)
stretch-more codes ends old new from done stop code end runs is within before put others i low = elim (cases_lt i done) [
  | inl early ↦ others i early ∙ before i early
  | inr late ↦ put i late low ∙ sym (run-code codes ends (from + i) code end runs (IsRun-later codes ends (from + done) (from + i) code end is (omega (arith, late)) (omega (arith, low, within))))
]
