-- How runs grow by one, and what a place of a run says of the codes.
use Rattle.std.proofs.Common.{◌≡◌, ◌≢◌, ◌+◌, ◌-◌, ◌<◌, ◌≤◌, ℕ, List, [], ◌∷◌, ◌++◌, length, get_or, zero, suc, refl, sym, ◌∙◌, ap, inl, inr, arith, below_more, add-one}
use Rattle.std.proofs.lemmas.List.{get_or_read, get_or_default, get_or_append_left, length_push, get_or_push}
use Rattle.std.specs.List.Sorted.{IsNonDecreasing}
use Rattle.std.proofs.lemmas.List.Sorted.{IsNonDecreasingBy-from_all_adjacent}
use Rattle.std.proofs.lemmas.Bool.{cases_lt}
use Rattle.segment_rle.specs.Runs.{start_of, covered, AreRuns, AreRunsOf, IsRun, IsRunAt}

-- a new end leaves the runs before it where they began
start_of-push : (ends : List ℕ) (e r : ℕ) → r ≤ length ends → start_of (ends ++ e ∷ []) r ≡ start_of ends r
start_of-push ends e r h = get_or_append_left (0 ∷ ends) (e ∷ []) 0 r (omega arith)

covered-push : (ends : List ℕ) (e : ℕ) → covered (ends ++ e ∷ []) ≡ e
covered-push ends e = get_or_push (0 ∷ ends) e 0 (length (ends ++ e ∷ [])) (omega (arith, length_push ends e))

pub start_of-next : (ends : List ℕ) (r : ℕ) → start_of ends (r + 1) ≡ get_or ends r 0
start_of-next ends r = rw (add-one r) refl

-- the end of a run is at most all that the runs cover
pub start_of-le_covered : (codes ends : List ℕ) → AreRuns codes ends → (n r : ℕ) → r + n ≡ length ends → start_of ends r ≤ covered ends
start_of-le_covered codes ends runs zero r h = let e : r ≡ length ends = omega arith in rw e (omega arith)
start_of-le_covered codes ends runs (suc n) r h =
    let filled = runs.filled r (omega arith) in
    let step = start_of-le_covered codes ends runs n (r + 1) (omega arith) in
    omega (arith, filled, step, start_of-next ends r)

pub AreRuns-push : (codes ends : List ℕ) (c e : ℕ) → AreRuns codes ends → covered ends < e → (0 < length ends → get_or codes (length ends - 1) 0 ≢ c) → AreRuns (codes ++ c ∷ []) (ends ++ e ∷ [])
AreRuns-push codes ends c e runs more other = record {
  paired = omega (arith, length_push codes c, length_push ends e, runs.paired);
  filled = λ r h. below_more (λ k. start_of (ends ++ e ∷ []) k < get_or (ends ++ e ∷ []) k 0) (length ends)
      (λ k l. rw (start_of-push ends e k (omega arith), get_or_append_left ends (e ∷ []) 0 k l) (runs.filled k l))
      (rw (start_of-push ends e (length ends) (omega arith), get_or_push ends e 0 (length ends) refl) more)
      r (omega (arith, length_push ends e));
  maximal = λ r h. below_more (λ k. k + 1 < length ends + 1 → get_or (codes ++ c ∷ []) k 0 ≢ get_or (codes ++ c ∷ []) (k + 1) 0) (length ends - 1)
      (λ k l _. let paired = runs.paired in
      rw (get_or_append_left codes (c ∷ []) 0 k (omega arith), get_or_append_left codes (c ∷ []) 0 (k + 1) (omega arith)) (runs.maximal k (omega arith)))
      (λ l. let paired = runs.paired in
      let last : length ends - 1 + 1 ≡ length ends = omega arith in
      rw (get_or_append_left codes (c ∷ []) 0 (length ends - 1) (omega arith), get_or_push codes c 0 (length ends - 1 + 1) (omega arith)) (other (omega arith)))
      r (omega (arith, length_push ends e)) (omega (arith, length_push ends e));
}

-- the runs that end at or before place i are there, and all places from the last of them up to i have one code
pub record HasRuns (all codes ends : List ℕ) (i : ℕ) : Type 0 where
  pub in_order : AreRuns codes ends
  pub behind : covered ends ≤ i
  pub same : (r j : ℕ) → r < length ends → start_of ends r ≤ j → j < get_or ends r 0 → get_or all j 0 ≡ get_or codes r 0
  pub open' : (j : ℕ) → covered ends ≤ j → j ≤ i → i < length all → get_or all j 0 ≡ get_or all i 0
  pub other : 0 < length ends → covered ends < length all → get_or codes (length ends - 1) 0 ≢ get_or all (covered ends) 0
  pub ended : i ≡ length all → covered ends ≡ i

pub HasRuns-none : (all : List ℕ) → HasRuns all [] [] 0
HasRuns-none all = record {
  in_order = record { paired = refl; filled = λ r h. absurd (omega arith); maximal = λ r h. absurd (omega arith) };
  behind = omega arith;
  same = λ r j h _ _. absurd (omega arith);
  open' = λ j _ h _. let e : j ≡ 0 = omega arith in rw e refl;
  other = λ h _. absurd (omega arith);
  ended = λ _. refl;
}

-- place i goes on the run
pub HasRuns-same : (all codes ends : List ℕ) (i : ℕ) → HasRuns all codes ends i → i + 1 < length all → get_or all (i + 1) 0 ≡ get_or all i 0 → HasRuns all codes ends (i + 1)
HasRuns-same all codes ends i has more e = record {
  in_order = has.in_order;
  behind = let behind = has.behind in omega arith;
  same = has.same;
  open' = λ j h l _. below_more (λ k. covered ends ≤ k → get_or all k 0 ≡ get_or all (i + 1) 0) (i + 1)
      (λ k k_below k_from. has.open' k k_from (omega arith) (omega arith) ∙ sym e) (λ _. refl) j (omega arith) h;
  other = has.other;
  ended = λ at_end. absurd (omega arith);
}

-- place i ends the run
pub HasRuns-push : (all codes ends : List ℕ) (i : ℕ) → HasRuns all codes ends i → i < length all → (i + 1 < length all → get_or all (i + 1) 0 ≢ get_or all i 0) → HasRuns all (codes ++ get_or all i 0 ∷ []) (ends ++ (i + 1) ∷ []) (i + 1)
HasRuns-push all codes ends i has there next = let behind = has.behind in let paired = has.in_order.paired in record {
  in_order = AreRuns-push codes ends (get_or all i 0) (i + 1) has.in_order (omega arith)
      (λ some same. has.other some (omega arith) (same ∙ sym (has.open' (covered ends) (omega arith) behind there)));
  behind = omega (arith, covered-push ends (i + 1));
  same = λ r j h from to. below_more
      (λ k. start_of (ends ++ (i + 1) ∷ []) k ≤ j → j < get_or (ends ++ (i + 1) ∷ []) k 0 → get_or all j 0 ≡ get_or (codes ++ get_or all i 0 ∷ []) k 0) (length ends)
      (λ k l from' to'. rw (get_or_append_left codes (get_or all i 0 ∷ []) 0 k (omega arith))
      (has.same k j l (omega (arith, start_of-push ends (i + 1) k (omega arith))) (omega (arith, get_or_append_left ends ((i + 1) ∷ []) 0 k l))))
      (λ from' to'. rw (get_or_push codes (get_or all i 0) 0 (length ends) paired)
      (has.open' j (omega (arith, start_of-push ends (i + 1) (length ends) (omega arith))) (omega (arith, get_or_push ends (i + 1) 0 (length ends) refl)) there))
      r (omega (arith, length_push ends (i + 1))) from to;
  open' = λ j h l _. let e : j ≡ i + 1 = omega (arith, covered-push ends (i + 1)) in rw e refl;
  other = λ _ more same. next (omega (arith, covered-push ends (i + 1)))
      (ap (λ k. get_or all k 0) (sym (covered-push ends (i + 1))) ∙ sym same ∙ get_or_push codes (get_or all i 0) 0 (length (ends ++ (i + 1) ∷ []) - 1) (omega (arith, length_push ends (i + 1), paired)));
  ended = λ _. covered-push ends (i + 1);
}

pub AreRunsOf-all : (all codes ends : List ℕ) (i : ℕ) → HasRuns all codes ends i → i ≡ length all → AreRunsOf all codes ends
AreRunsOf-all all codes ends i has e = record { in_order = has.in_order; whole = has.ended e ∙ e; same = has.same }

-- where a run ends before the codes do, the next run begins with another code
next_differs : (all codes ends : List ℕ) → AreRunsOf all codes ends → (r end : ℕ) → r < length ends → end ≡ start_of ends (r + 1) → end < length all → get_or all end 0 ≢ get_or codes r 0
next_differs all codes ends of r end there at_end more same =
    let not_last : r + 1 < length ends = elim (cases_lt (r + 1) (length ends)) [
      | inl l ↦ l
      | inr l ↦ let last : r + 1 ≡ length ends = omega arith in absurd (omega (arith, of.whole, at_end, ap (λ k. start_of ends k) last))
    ] in
    of.in_order.maximal r not_last (sym same ∙ of.same (r + 1) end not_last (omega (arith, at_end)) (omega (arith, at_end, of.in_order.filled (r + 1) not_last)))

-- a run says what stands at its places, and the place at its end has the code of the next run
pub IsRunAt-run : (all codes ends : List ℕ) (i code end : ℕ) → AreRunsOf all codes ends → IsRun codes ends i code end → IsRunAt all i code end
IsRunAt-run all codes ends i code end of run =
    let there = run.there in
    let next = start_of-next ends run.run in
    let within = start_of-le_covered codes ends of.in_order (length ends - (run.run + 1)) (run.run + 1) (omega arith) in
    record {
      below = run.not_ended;
      within = omega (arith, of.whole, run.end_is);
      same = λ j from to. of.same run.run j there (omega (arith, run.begun)) (omega (arith, run.end_is)) ∙ sym run.code_is;
      other = λ more same.
          next_differs all codes ends of run.run end there (run.end_is ∙ sym next) more (same ∙ run.code_is);
    }

-- runs that all end at or before place i do not cover it
started : (ends : List ℕ) (i n : ℕ) → ((k : ℕ) → k < n → get_or ends k 0 ≤ i) → start_of ends n ≤ i
started ends i zero ended = omega arith
started ends i (suc n) ended = ended n (omega arith)

-- the run after those that end at or before place i has it
pub at_point : (ends : List ℕ) (i r : ℕ) → i < covered ends → r ≤ length ends → ((k : ℕ) → k < r → get_or ends k 0 ≤ i) → (start_of ends r ≤ i) × (r < length ends)
at_point ends i r in_runs bound ended =
    let begun = started ends i r ended in (
      begun,
      elim (cases_lt r (length ends)) [
        | inl l ↦ l
        | inr l ↦ let last : r ≡ length ends = omega arith in absurd (omega (arith, begun, ap (λ k. start_of ends k) last))
      ],
    )

pub ends_rise : (codes ends : List ℕ) → AreRuns codes ends → IsNonDecreasing ends
ends_rise codes ends runs = IsNonDecreasingBy-from_all_adjacent (λ e. e) ends (λ k d h.
    let next = start_of-next ends k in
    let filled = runs.filled (k + 1) h in
    omega (arith, get_or_default ends k d 0 (omega arith), get_or_default ends (k + 1) d 0 h))

pub IsRun-at_point : (codes ends : List ℕ) (i r code end : ℕ) → AreRuns codes ends → i < covered ends → r ≤ length ends → ((k : ℕ) → k < r → get_or ends k 0 ≤ i) → ((k : ℕ) → r ≤ k → k < length ends → i < get_or ends k 0) → code ≡ get_or codes r code → end ≡ get_or ends r end → IsRun codes ends i code end
IsRun-at_point codes ends i r code end runs in_runs bound ended not_ended code_is end_is =
    let point = at_point ends i r in_runs bound ended in
    let end_at = get_or_read ends r end point.1 end_is 0 in
    record {
      run = r;
      there = point.1;
      code_is = get_or_read codes r code (omega (arith, point.1, runs.paired)) code_is 0;
      end_is = end_at;
      begun = point.0;
      not_ended = omega (arith, not_ended r (omega arith) point.1, end_at);
    }
