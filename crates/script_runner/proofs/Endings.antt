-- The Ends of the sessions, one more.
use Rattle.std.proofs.Common.{◌≡◌, ◌≢◌, ℕ, zero, suc, ◌+◌, ◌<◌, List, [], ◌∷◌, ◌++◌, length, map, get_or, take, drop, refl, sym, ap, subst, ◌∙◌, cond, Bool, true, false, arith, All, Contains, append_assoc}
use Rattle.std.specs.Prelude.{◌==◌}
use Rattle.std.proofs.lemmas.Bool.Decides.{nat_tests}
use Rattle.std.proofs.lemmas.List.{map-append, take_more, drop_more}
use Rattle.std.proofs.lemmas.Grind.{common_steps}
use Rattle.cs_model.specs.declared.entry.Entry.{Entry}
use Rattle.cs_model.specs.declared.entry.Entry.TheVariants.{End}
use Rattle.cs_model.specs.Actors.{entries_of, turns_of, is_begun, has_ended}
use Rattle.log_laws.specs.Laws.{AreDistinct}
use Rattle.statement_core.proofs.Going.{ended_apart}
use Rattle.script_runner.specs.Running.{Ending}
use Rattle.script_turns.proofs.Entries.{begun_after}

rests_end : (log : List Entry) (n s : ℕ) → is_begun (entries_of s log) ≡ false → is_begun (entries_of s (log ++ End n ∷ [])) ≡ false
rests_end log n s e = begun_after log (End n) s ∙ at (n == s)
  where
    at : (t : Bool) → cond t false (is_begun (entries_of s log)) ≡ false
    at true = refl
    at false = e

pub ending_push : (first log : List Entry) (done left : List ℕ) (n : ℕ) → Ending first log done (n ∷ left) → Ending first (log ++ End n ∷ []) (done ++ n ∷ []) left
ending_push first log done left n e = record {
  log = ap (λ es. es ++ End n ∷ []) e.log ∙ append_assoc first (map End done) (End n ∷ []) ∙ ap (λ es. first ++ es) (sym (map-append End done (n ∷ [])));
  rests = λ s. rests_end log n s (e.rests s);
  going = λ k d lt.
      let not : n ≢ get_or left k d = e.distinct.0 k d lt in
      let ne : (n == get_or left k d) ≡ false = grind (arith, nat_tests, not) in
      ended_apart log (End n) (get_or left k d) ne ∙ e.going (suc k) d (omega (arith, lt));
  distinct = e.distinct.1;
}

-- the same at a place
pub ending_more : (first log new : List Entry) (sessions : List ℕ) (i : ℕ) → i < length sessions → Ending first log (take i sessions) (drop i sessions) → new ≡ log ++ End (get_or sessions i 0) ∷ []
    → Ending first new (take (i + 1) sessions) (drop (i + 1) sessions)
ending_more first log new sessions i within e is =
    subst (λ es. Ending first es (take (i + 1) sessions) (drop (i + 1) sessions)) (sym is)
    (subst (λ done. Ending first (log ++ End (get_or sessions i 0) ∷ []) done (drop (i + 1) sessions)) (sym (take_more sessions i 0 within))
    (ending_push first log (take i sessions) (drop (i + 1) sessions) (get_or sessions i 0) (subst (λ left. Ending first log (take i sessions) left) (drop_more sessions i 0 within) e)))

-- the session whose End comes next has not ended
pub going_at : (first log : List Entry) (sessions : List ℕ) (i : ℕ) → i < length sessions → Ending first log (take i sessions) (drop i sessions) → has_ended (entries_of (get_or sessions i 0) log) ≡ false
going_at first log sessions i within e = subst (λ left. All (λ s. has_ended (entries_of s log) ≡ false) left) (drop_more sessions i 0 within) e.going 0 0 (omega arith)

-- ---- the End of one session

pub ends_none : (s : ℕ) (sessions : List ℕ) → All (λ y. s ≢ y) sessions → turns_of s (map End sessions) ≡ []
ends_none s [] all = refl
ends_none s (n ∷ sessions) all =
    let not : s ≢ n = all 0 n (omega arith) in
    let ne : (n == s) ≡ false = grind (arith, nat_tests, not) in
    ap (λ t. cond t (End n ∷ turns_of s (map End sessions)) (turns_of s (map End sessions))) ne ∙ ends_none s sessions (λ k d lt. all (suc k) d (omega (arith, lt)))

pub ends_one : (s : ℕ) (sessions : List ℕ) → AreDistinct sessions → Contains sessions s → turns_of s (map End sessions) ≡ End s ∷ []
ends_one s [] distinct has = absurd (omega (arith, has.1))
ends_one s (n ∷ sessions) distinct has = at (n == s) refl (λ k. ends_one s sessions distinct.1 k)
  where
    behind : (n == s) ≡ false → Contains (n ∷ sessions) s → Contains sessions s
    behind ne (zero, lt, e) = absurd (let is : n ≡ s = e in grind (arith, nat_tests, is))
    behind ne (suc k, lt, e) = (k, omega (arith, lt), e)

    at : (t : Bool) → (n == s) ≡ t → (Contains sessions s → turns_of s (map End sessions) ≡ End s ∷ []) → turns_of s (map End (n ∷ sessions)) ≡ End s ∷ []
    at true t rest =
        let is : n ≡ s = grind (arith, nat_tests) in
        let none : turns_of s (map End sessions) ≡ [] = ends_none s sessions (subst (λ x. All (λ y. x ≢ y) sessions) is distinct.0) in
        ap (λ b. cond b (End n ∷ turns_of s (map End sessions)) (turns_of s (map End sessions))) t ∙ ap (λ es. End n ∷ es) none ∙ ap (λ x. End x ∷ []) is
    at false t rest = ap (λ b. cond b (End n ∷ turns_of s (map End sessions)) (turns_of s (map End sessions))) t ∙ rest (behind t has)

pub apart_all : (s : ℕ) (sessions : List ℕ) → (Contains sessions s → ⊥) → All (λ y. s ≢ y) sessions
apart_all s sessions has_not = λ k d lt e. has_not (k, lt, same k d lt ∙ sym e)
  where
    same : (k d : ℕ) → k < length sessions → get_or sessions k s ≡ get_or sessions k d
    same k d lt = grind (arith, common_steps)
