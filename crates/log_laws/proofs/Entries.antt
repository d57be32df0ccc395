-- What the entries of a session say of its half-done statement.
use Rattle.std.proofs.Common.{◌≡◌, ℕ, List, [], ◌∷◌, ◌++◌, fold, refl, sym, ap, ◌∙◌, cond, Bool, true, false, arith, is_some, Option, None, Some, ◌||◌}
use Rattle.std.specs.Prelude.{◌==◌}
use Rattle.std.proofs.lemmas.List.{append-nil}
use Rattle.std.proofs.lemmas.List.Sums.{fold-append}
use Rattle.std.proofs.lemmas.List.Elements.{filter-append}
use Rattle.std.proofs.lemmas.Bool.Decides.{nat_tests}
use Rattle.cs_model.specs.declared.entry.Entry.{Entry}
use Rattle.cs_model.specs.State.{Half, State, Begin}
use Rattle.cs_model.specs.Actors.{actor_of, entries_of, begun_by, is_end, is_begun, has_ended}
use Rattle.cs_model.specs.Steps.{Leads, Legal}
use Rattle.log_laws.specs.Laws.{MayBegin}
use Rattle.log_laws.proofs.Framed.{framed}

pub entries_push : (n : ℕ) (log : List Entry) (e : Entry) → entries_of n (log ++ e ∷ []) ≡ entries_of n log ++ cond (actor_of e == n) (e ∷ []) []
entries_push n log e = filter-append (λ x. actor_of x == n) log (e ∷ [])

pub begun_push : (es : List Entry) (e : Entry) → is_begun (es ++ e ∷ []) ≡ begun_by (is_begun es) e
begun_push es e = fold-append begun_by false es (e ∷ [])

pub ended_push : (es : List Entry) (e : Entry) → has_ended (es ++ e ∷ []) ≡ (has_ended es || is_end e)
ended_push es e = fold-append (λ b (x : Entry). b || is_end x) false es (e ∷ [])

-- whether the session has ended, one entry more
pub ended_after : (log : List Entry) (e : Entry) (s : ℕ) → has_ended (entries_of s (log ++ e ∷ [])) ≡ cond (actor_of e == s) (has_ended (entries_of s log) || is_end e) (has_ended (entries_of s log))
ended_after log e s = ap has_ended (entries_push s log e) ∙ at (actor_of e == s)
  where
    at : (t : Bool) → has_ended (entries_of s log ++ cond t (e ∷ []) []) ≡ cond t (has_ended (entries_of s log) || is_end e) (has_ended (entries_of s log))
    at true = ended_push (entries_of s log) e
    at false = ap has_ended (append-nil (entries_of s log))

or_false : (b : Bool) → (b || false) ≡ b
or_false true = refl
or_false false = refl

-- an entry that is no End ends no session
pub ended_stays : (log : List Entry) (e : Entry) (s : ℕ) → is_end e ≡ false → has_ended (entries_of s (log ++ e ∷ [])) ≡ has_ended (entries_of s log)
ended_stays log e s goes = ended_after log e s ∙ at (actor_of e == s)
  where
    at : (t : Bool) → cond t (has_ended (entries_of s log) || is_end e) (has_ended (entries_of s log)) ≡ has_ended (entries_of s log)
    at true = ap (λ b. has_ended (entries_of s log) || b) goes ∙ or_false (has_ended (entries_of s log))
    at false = refl

half_known : (begin : Begin) (m after : State) (es : List Entry) (s : ℕ) → Leads begin m es after → is_some (after.half s) ≡ fold begun_by (is_some (m.half s)) (entries_of s es)
half_known begin m after [] s l = ap (λ (x : State). is_some (x.half s)) l
half_known begin m after (e ∷ es) s l = at (actor_of e == s) refl (half_known begin l.0 after es s l.2)
  where
    at : (b : Bool) → (actor_of e == s) ≡ b → is_some (after.half s) ≡ fold begun_by (is_some ((l.0).half s)) (entries_of s es) → is_some (after.half s) ≡ fold begun_by (is_some (m.half s)) (entries_of s (e ∷ es))
    at true t ih =
        let f = framed begin m e l.0 l.1 in
        let is : actor_of e ≡ s = grind (arith, nat_tests) in
        ih
        ∙ ap (λ b. fold begun_by b (entries_of s es)) (ap (λ n. is_some ((l.0).half n)) (sym is) ∙ f.half ∙ ap (λ n. begun_by (is_some (m.half n)) e) is)
        ∙ sym (ap (λ b. fold begun_by (is_some (m.half s)) (cond b (e ∷ entries_of s es) (entries_of s es))) t)
    at false t ih =
        let f = framed begin m e l.0 l.1 in
        let not : (s == actor_of e) ≡ false = grind (arith, nat_tests) in
        ih
        ∙ ap (λ h. fold begun_by (is_some h) (entries_of s es)) (f.halves s not)
        ∙ sym (ap (λ b. fold begun_by (is_some (m.half s)) (cond b (e ∷ entries_of s es) (entries_of s es))) t)

-- a statement is half done exactly where the session's entries say so
pub begun_is : (begin : Begin) (log : List Entry) (m : State) (s : ℕ) → MayBegin begin → Legal begin log m → is_some (m.half s) ≡ is_begun (entries_of s log)
begun_is begin log m s may l = half_known begin begin.state m log s l ∙ ap (λ h. fold begun_by (is_some h) (entries_of s log)) (may.rests s)

pub none_is : (h : Option Half) → is_some h ≡ false → h ≡ None
none_is None e = refl
none_is (Some half) e = absurd (cc e)

pub rests_is : (begin : Begin) (log : List Entry) (m : State) (s : ℕ) → MayBegin begin → Legal begin log m → is_begun (entries_of s log) ≡ false → m.half s ≡ None
rests_is begin log m s may l e = none_is (m.half s) (begun_is begin log m s may l ∙ e)
