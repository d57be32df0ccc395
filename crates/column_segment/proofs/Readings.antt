-- What the words and the runs of a segment say of its codes.
use Rattle.std.proofs.Common.{◌≡◌, ◌≢◌, ℕ, ◌-◌, zero, suc, ◌+◌, ◌*◌, ◌/◌, ◌<◌, ◌≤◌, inl, inr, List, length, get_or, refl, sym, ◌∙◌, ap, arith}
use Rattle.std.proofs.lemmas.Bool.{cases_lt}
use Rattle.std.proofs.lemmas.Nat.{mul-le}
use Rattle.std.proofs.Math.Nat.{le_refl}
use Rattle.bit_pack.specs.Codes.{code_at}
use Rattle.bit_pack.proofs.Numbers.{small, code_at-packed, length-packed}
use Rattle.segment_rle.specs.Runs.{AreRuns, AreRunsOf, IsRun, start_of, covered}
use Rattle.segment_rle.proofs.RunLemmas.{start_of-next, start_of-le_covered}
use Rattle.column_segment.specs.Layouts.{ArePacked, IsLeastWidth, code_in_runs}
use Rattle.column_segment.proofs.Layouts.{IsLeastWidth-same, run-code}

-- the words have room for all the codes
pub packed-room : (codes : List ℕ) (width : ℕ) (words : List ℕ) → ArePacked codes width words → length codes * width ≤ 64 * length words
packed-room codes width words are =
    let e : length words ≡ (length codes * width + 63) / 64 = ap length are.2 ∙ length-packed width codes in
    omega (arith, e)

pub room-at : (n w i words : ℕ) → n * w ≤ 64 * words → i < n → (i + 1) * w ≤ 64 * words
room-at n w i words room low =
    let most : (i + 1) * w ≤ n * w = mul-le (i + 1) w n w (omega (arith, low)) (le_refl w) in
    omega (arith, most, room)

pub room-between : (n w from count words : ℕ) → n * w ≤ 64 * words → from + count ≤ n → (from + count) * w ≤ 64 * words
room-between n w from count words room low =
    let most : (from + count) * w ≤ n * w = mul-le (from + count) w n w low (le_refl w) in
    omega (arith, most, room)

-- the words of codes, by their number
pub packed-words : (codes : List ℕ) (v : ℕ) → IsLeastWidth codes v → (width : ℕ) (words : List ℕ) → ArePacked codes width words → length words ≡ (length codes * v + 63) / 64
packed-words codes v least width words are =
    ap length are.2 ∙ length-packed width codes ∙ ap (λ w. (length codes * w + 63) / 64) (IsLeastWidth-same codes width v are.1 least)

-- the code that the words give
pub packed-code : (codes : List ℕ) (width : ℕ) (words : List ℕ) → ArePacked codes width words → (i : ℕ) → code_at width words i ≡ get_or codes i 0
packed-code codes width words are i =
    ap (λ w. code_at width w i) are.2 ∙ code_at-packed width codes (small width codes are.1.0) i

-- the run that holds a place, and its code
holding : (all codes ends : List ℕ) → AreRunsOf all codes ends → (i r : ℕ) → r ≤ length ends → i < start_of ends r → (q : ℕ) × (q < length ends) × (start_of ends q ≤ i) × (i < get_or ends q 0)
holding all codes ends runs i zero there low = absurd (omega (arith, low))
holding all codes ends runs i (suc r) there low = elim (cases_lt i (start_of ends r)) [
  | inl before ↦ holding all codes ends runs i r (omega (arith, there)) before
  | inr past ↦ (r, omega (arith, there), past, low)
]

-- the code that the runs give
pub runs-code : (all codes ends : List ℕ) → AreRunsOf all codes ends → (i : ℕ) → i < length all → code_in_runs codes ends i ≡ get_or all i 0
runs-code all codes ends runs i low =
    let whole = runs.whole in
    let held = holding all codes ends runs i (length ends) (omega arith) (omega (arith, whole, low)) in
    run-code codes ends i (get_or codes held.0 0) (get_or ends held.0 0) runs.in_order (record { run = held.0; there = held.1; code_is = refl; end_is = refl; begun = held.2; not_ended = held.3 })
    ∙ sym (runs.same held.0 i held.1 held.2 held.3)

-- a run ends at the last place or before, and all its places have its code
pub run-within : (codes ends : List ℕ) (i code end : ℕ) → AreRuns codes ends → IsRun codes ends i code end → end ≤ covered ends
run-within codes ends i code end runs is =
    let there = is.there in
    let within = start_of-le_covered codes ends runs (length ends - (is.run + 1)) (is.run + 1) (omega (arith, there)) in
    omega (arith, within, is.end_is, start_of-next ends is.run)

pub run-same : (codes ends : List ℕ) (i code end : ℕ) → AreRuns codes ends → IsRun codes ends i code end → (k : ℕ) → i ≤ k → k < end → code_in_runs codes ends k ≡ code
run-same codes ends i code end runs is k from to =
    run-code codes ends k code end runs (record { run = is.run; there = is.there; code_is = is.code_is; end_is = is.end_is; begun = let begun = is.begun in omega (arith, begun, from); not_ended = to })

-- and the next run has another code
pub run-whole : (codes ends : List ℕ) (i code end : ℕ) → AreRuns codes ends → IsRun codes ends i code end → end < covered ends → code_in_runs codes ends end ≢ code
run-whole codes ends i code end runs is more same =
    let next = start_of-next ends is.run in
    let not_last : is.run + 1 < length ends = elim (cases_lt (is.run + 1) (length ends)) [
      | inl l ↦ l
      | inr l ↦
          let there = is.there in
          let last : is.run + 1 ≡ length ends = omega (arith, l, there) in
          absurd (omega (arith, more, is.end_is, next, ap (λ k. start_of ends k) last))
    ] in
    let filled = runs.filled (is.run + 1) not_last in
    let here = run-code codes ends end (get_or codes (is.run + 1) 0) (get_or ends (is.run + 1) 0) runs
    (record { run = is.run + 1; there = not_last; code_is = refl; end_is = refl; begun = omega (arith, next, is.end_is); not_ended = omega (arith, filled, next, is.end_is) }) in
    runs.maximal is.run not_last (sym is.code_is ∙ sym same ∙ here)
