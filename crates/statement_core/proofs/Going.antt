-- How many sessions have no End in the log, one entry more.
use Rattle.std.proofs.Common.{◌≡◌, ◌≢◌, ℕ, zero, suc, ◌+◌, List, [], ◌∷◌, ◌++◌, length, refl, ap, subst, ◌∙◌, cond, Bool, true, false, arith, ◌||◌, All, Contains}
use Rattle.std.specs.Prelude.{◌==◌}
use Rattle.std.proofs.lemmas.Bool.{eq-eqb}
use Rattle.std.proofs.lemmas.List.Elements.{All-nil, All-cons}
use Rattle.std.proofs.lemmas.Bool.Decides.{nat_tests}
use Rattle.cs_model.specs.declared.entry.Entry.{Entry}
use Rattle.cs_model.specs.declared.entry.Entry.TheVariants.{End}
use Rattle.cs_model.specs.Actors.{actor_of, is_end, entries_of, has_ended, one_unless}
use Rattle.log_laws.specs.Laws.{AreDistinct}
use Rattle.log_laws.proofs.Entries.{ended_after, ended_stays}
use Rattle.statement_core.specs.Ended.{HaveEnded, without_end}

-- ---- one session

or_true : (b : Bool) → (b || true) ≡ true
or_true true = refl
or_true false = refl

-- an entry of another session ends none
pub ended_apart : (log : List Entry) (e : Entry) (s : ℕ) → (actor_of e == s) ≡ false → has_ended (entries_of s (log ++ e ∷ [])) ≡ has_ended (entries_of s log)
ended_apart log e s other = ended_after log e s ∙ ap (λ t. cond t (has_ended (entries_of s log) || is_end e) (has_ended (entries_of s log))) other

ended_now : (log : List Entry) (s : ℕ) → (s == s) ≡ true → has_ended (entries_of s (log ++ End s ∷ [])) ≡ true
ended_now log s same = ended_after log (End s) s ∙ ap (λ t. cond t (has_ended (entries_of s log) || true) (has_ended (entries_of s log))) same ∙ or_true (has_ended (entries_of s log))

-- ---- all of them

pub going_first : (sessions : List ℕ) → without_end [] sessions ≡ length sessions
going_first [] = refl
going_first (s ∷ sessions) = let e = going_first sessions in omega (arith, e)

-- an entry that is no End leaves as many
pub going_stays : (sessions : List ℕ) (log : List Entry) (e : Entry) → is_end e ≡ false → without_end (log ++ e ∷ []) sessions ≡ without_end log sessions
going_stays [] log e goes = refl
going_stays (s ∷ sessions) log e goes =
    let own : has_ended (entries_of s (log ++ e ∷ [])) ≡ has_ended (entries_of s log) = ended_stays log e s goes in
    let rest : without_end (log ++ e ∷ []) sessions ≡ without_end log sessions = going_stays sessions log e goes in
    λ i. one_unless (own i) + rest i

going_apart : (sessions : List ℕ) (log : List Entry) (n : ℕ) → All (λ y. n ≢ y) sessions → without_end (log ++ End n ∷ []) sessions ≡ without_end log sessions
going_apart [] log n apart = refl
going_apart (s ∷ sessions) log n apart =
    let other : (n == s) ≡ false = let not : n ≢ s = apart 0 s (omega arith) in grind (arith, nat_tests, not) in
    let own : has_ended (entries_of s (log ++ End n ∷ [])) ≡ has_ended (entries_of s log) = ended_apart log (End n) s other in
    let rest : without_end (log ++ End n ∷ []) sessions ≡ without_end log sessions = going_apart sessions log n (λ k d lt. apart (suc k) d (omega (arith, lt))) in
    λ i. one_unless (own i) + rest i

behind : (s n : ℕ) (sessions : List ℕ) → (s == n) ≡ false → Contains (s ∷ sessions) n → Contains sessions n
behind s n sessions other (zero, lt, e) = absurd (let is : s ≡ n = e in grind (arith, nat_tests, is))
behind s n sessions other (suc k, lt, e) = (k, omega (arith, lt), e)

-- the End of one that goes on leaves one less
pub going_end : (sessions : List ℕ) (log : List Entry) (n : ℕ) → AreDistinct sessions → Contains sessions n → has_ended (entries_of n log) ≡ false → without_end (log ++ End n ∷ []) sessions + 1 ≡ without_end log sessions
going_end [] log n distinct has goes = absurd (omega (arith, has.1))
going_end (s ∷ sessions) log n distinct has goes = at (s == n) refl (λ k. going_end sessions log n distinct.1 k goes)
  where
    at : (t : Bool) → (s == n) ≡ t → (Contains sessions n → without_end (log ++ End n ∷ []) sessions + 1 ≡ without_end log sessions) → without_end (log ++ End n ∷ []) (s ∷ sessions) + 1 ≡ without_end log (s ∷ sessions)
    at true t rest =
        let is : s ≡ n = grind (arith, nat_tests) in
        let same : (n == n) ≡ true = eq-eqb n n refl in
        let before : one_unless (has_ended (entries_of s log)) ≡ 1 = ap one_unless (ap (λ k. has_ended (entries_of k log)) is ∙ goes) in
        let after : one_unless (has_ended (entries_of s (log ++ End n ∷ []))) ≡ 0 = ap one_unless (ap (λ k. has_ended (entries_of k (log ++ End n ∷ []))) is ∙ ended_now log n same) in
        let others = going_apart sessions log n (subst (λ k. All (λ y. k ≢ y) sessions) is distinct.0) in
        omega (arith, before, after, others)
    at false t rest =
        let other : (n == s) ≡ false = grind (arith, nat_tests) in
        let own : one_unless (has_ended (entries_of s (log ++ End n ∷ []))) ≡ one_unless (has_ended (entries_of s log)) = ap one_unless (ended_apart log (End n) s other) in
        let fewer = rest (behind s n sessions t has) in
        omega (arith, own, fewer)

-- ---- none of them

ended_of : (b : Bool) → one_unless b ≡ 0 → b ≡ true
ended_of true none = refl
ended_of false none = absurd (omega (arith, none))

-- none goes on exactly where each has ended
pub all_ended : (sessions : List ℕ) (log : List Entry) → without_end log sessions ≡ 0 → HaveEnded log sessions
all_ended [] log none = All-nil (λ s. has_ended (entries_of s log) ≡ true)
all_ended (s ∷ sessions) log none =
    let own : has_ended (entries_of s log) ≡ true = ended_of (has_ended (entries_of s log)) (omega (arith, none)) in
    All-cons (λ s. has_ended (entries_of s log) ≡ true) s sessions own (all_ended sessions log (omega (arith, none)))

pub none_goes : (sessions : List ℕ) (log : List Entry) → HaveEnded log sessions → without_end log sessions ≡ 0
none_goes [] log all = refl
none_goes (s ∷ sessions) log all =
    let own : one_unless (has_ended (entries_of s log)) ≡ 0 = ap one_unless (all 0 s (omega arith)) in
    let rest = none_goes sessions log (λ k d lt. all (suc k) d (omega (arith, lt))) in
    omega (arith, own, rest)
