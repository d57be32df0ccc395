-- What the events of a run are when its gate is closed.
use Rattle.std.proofs.Common.{◌≡◌, ◌≢◌, ◌≤◌, ◌<◌, ◌+◌, ◌==◌, ℕ, zero, suc, Bool, true, false, List, [], ◌∷◌, ◌⊎◌, inl, inr, ⊎_elim, refl, sym, ap, ◌∙◌, subst, cond, arith, eq-eqb, ne_eqb, get_or, length, All, Contains}
use Rattle.std.specs.Prelude.{filter, not, None}
use Rattle.std.proofs.lemmas.List.{length-map}
use Rattle.std.proofs.lemmas.List.Elements.{All-cons, All-head, All-tail, All-filter, All-contains, All-contains_itself, Contains-get_or}
use mathlib.Core.Logic.{dite}
use native.Mathlib.Decide.{ℕ_discrete}
use Rattle.history_gate.specs.Histories.{own_numbers, list_of, entries_of, Tells}
use Rattle.history_gate.proofs.Lookup.{list_told}
use Rattle.script_reader.specs.declared.script.Step.{Step}
use Rattle.session_pool.specs.declared.event.Event.{Event}
use Rattle.session_pool.specs.Events.{entries_in, events_by, held_in, number_in}
use Rattle.session_pool.specs.Rests.{lists_but, IsRested, HasRun, AreAtRest}
use Rattle.session_pool.specs.Runs.{IsSessionRun}
use Rattle.session_pool.proofs.Joined.{whole_or_front}

-- ---- lists by their numbers

contains_kept : {X : Type 0} (p : X → Bool) (xs : List X) (x : X) → Contains xs x → p x ≡ true → Contains (filter p xs) x
contains_kept p [] x has t = absurd (omega (arith, has.1))
contains_kept p (y ∷ ys) x (zero, lt, e) t = subst (λ b. Contains (cond b (y ∷ filter p ys) (filter p ys)) x) (sym (ap p e ∙ t)) (0, omega arith, e)
contains_kept {X} p (y ∷ ys) x (suc k, lt, e) t = at (p y) (contains_kept p ys x (k, omega (arith, lt), e) t)
  where
    at : (b : Bool) → Contains (filter p ys) x → Contains (cond b (y ∷ filter p ys) (filter p ys)) x
    at true c = (suc c.0, omega (arith, c.1), c.2)
    at false c = c

-- a list of another number stays
pub other_stays : (n : ℕ) (before after : List (ℕ × List Event)) (list : ℕ × List Event) → lists_but n after ≡ lists_but n before → list.0 ≢ n → Contains before list → Contains after list
other_stays n before after list same other has =
    let kept : Contains (lists_but n before) list = contains_kept (λ l. not (l.0 == n)) before list has (ap not (ne_eqb list.0 n other)) in
    All-contains (Contains after) (lists_but n after) list (All-filter (λ l. not (l.0 == n)) (Contains after) after (All-contains_itself after)) (subst (λ ls. Contains ls list) (sym same) kept)

-- a number that a pass has, or none of those that it has
has_or_not : (n : ℕ) (own : List (ℕ × List Event)) → Contains (own_numbers own) n ⊎ All (λ m. m ≢ n) (own_numbers own)
has_or_not n [] = inr (λ k d lt. absurd (omega (arith, lt)))
has_or_not n (p ∷ own) = dite (ℕ_discrete p.0 n) (λ e. inl (0, omega arith, e)) (λ ne. ⊎_elim
    (λ (c : Contains (own_numbers own) n). inl (suc c.0, omega (arith, c.1), c.2))
    (λ (a : All (λ m. m ≢ n) (own_numbers own)). inr (All-cons (λ m. m ≢ n) p.0 (own_numbers own) ne a)) (has_or_not n own))

rested_list : (movers n : ℕ) (own : List (ℕ × List Event)) → All (IsRested movers) own → Contains (own_numbers own) n → IsRested movers (n, list_of n own)
rested_list movers n [] rested has = absurd (omega (arith, has.1))
rested_list movers n (p ∷ own) rested has = dite (ℕ_discrete p.0 n)
    (λ e. subst (λ (l : ℕ × List Event). IsRested movers l) (λ i. (e i, sym (ap (λ b. cond b p.1 (list_of n own)) (eq-eqb p.0 n e)) i)) (All-head (IsRested movers) p own rested))
    (λ ne. subst (λ b. IsRested movers (n, cond b p.1 (list_of n own))) (sym (ne_eqb p.0 n ne)) (rested_list movers n own (All-tail (IsRested movers) p own rested) (behind ne has)))
  where
    behind : p.0 ≢ n → Contains (own_numbers (p ∷ own)) n → Contains (own_numbers own) n
    behind ne (zero, lt, e) = absurd (ne e)
    behind ne (suc k, lt, e) = (k, omega (arith, lt), e)

-- who rests holds no claim
pub rested_free : (movers n : ℕ) (own : List (ℕ × List Event)) → All (IsRested movers) own → Contains (own_numbers own) n → held_in (list_of n own) ≡ None
rested_free movers n own rested has = let r = rested_list movers n own rested has in r.1

-- ---- at the close

none_by : (n : ℕ) (own : List (ℕ × List Event)) (events : List Event) → All (λ m. m ≢ n) (own_numbers own) → All (λ event. Contains (own_numbers own) (number_in event)) events → events_by n events ≡ []
none_by n own [] apart others = refl
none_by n own (e ∷ events) apart others =
    let ne : number_in e ≢ n = All-contains (λ m. m ≢ n) (own_numbers own) (number_in e) apart (others 0 e (omega arith)) in
    ap (λ b. cond b (e ∷ events_by n events) (events_by n events)) (ne_eqb (number_in e) n ne) ∙ none_by n own events apart (λ k d lt. others (suc k) d (omega (arith, lt)))

free_by : (movers n : ℕ) (own : List (ℕ × List Event)) (events : List Event) → Tells number_in own events → All (λ event. Contains (own_numbers own) (number_in event)) events → All (IsRested movers) own → held_in (events_by n events) ≡ None
free_by movers n own events tells others rested = ⊎_elim
    (λ (has : Contains (own_numbers own) n). ap held_in (list_told number_in n own events tells has) ∙ rested_free movers n own rested has)
    (λ (apart : All (λ m. m ≢ n) (own_numbers own)). ap held_in (none_by n own events apart others)) (has_or_not n own)

number_within : (movers n : ℕ) (own : List (ℕ × List Event)) → All (IsRested movers) own → Contains (own_numbers own) n → n ≤ 64 + movers
number_within movers n own rested has = let r = rested_list movers n own rested has in r.0

pub at_rest : (sessions : List ℕ) (lines : List Step) (movers : ℕ) (done : Bool) (own : List (ℕ × List Event)) (events : List Event) → Tells number_in own events → All (λ event. Contains (own_numbers own) (number_in event)) events
    → All (IsRested movers) own → All (HasRun lines done own) sessions → AreAtRest sessions lines movers done events
at_rest sessions lines movers done own events tells others rested runs = record {
  free = λ n. free_by movers n own events tells others rested;
  numbers = λ k d lt. let e : Event = get_or events k d in number_within movers (number_in e) own rested (others k d lt);
  runs = λ session has.
      let h = All-contains (HasRun lines done own) sessions session runs has in
      let told : h.0 ≡ events_by session events = All-contains (λ (p : ℕ × List Event). p.1 ≡ entries_of number_in p.0 events) own (session, h.0) tells h.1 in
      subst (λ es. IsSessionRun session lines done (entries_in es)) told h.2;
}

-- ---- after the last turns

-- each list is that of what was seen, so those of one number are the same
told_list : (n : ℕ) (own : List (ℕ × List Event)) (events : List Event) (list : ℕ × List Event) → Tells number_in own events → Contains own list → list.0 ≡ n → list.1 ≡ list_of n own
told_list n own events list tells has same =
    let named : Contains (own_numbers own) n = subst (Contains (own_numbers own)) same (All-contains (λ (p : ℕ × List Event). Contains (own_numbers own) p.0) own list (numbers_in own) has) in
    All-contains (λ (p : ℕ × List Event). p.1 ≡ entries_of number_in p.0 events) own list tells has ∙ ap (λ m. entries_of number_in m events) same ∙ list_told number_in n own events tells named
  where
    numbers_in : (own : List (ℕ × List Event)) → All (λ (p : ℕ × List Event). Contains (own_numbers own) p.0) own
    numbers_in own = λ k d lt. (k, omega (arith, lt, length-map own (λ (p : ℕ × List Event). p.0)), number_at own k d lt)
      where
        number_at : (own : List (ℕ × List Event)) (k : ℕ) (d : ℕ × List Event) → k < length own → get_or (own_numbers own) k (get_or own k d).0 ≡ (get_or own k d).0
        number_at [] k d lt = absurd (omega (arith, lt))
        number_at (p ∷ own) zero d lt = refl
        number_at (p ∷ own) (suc k) d lt = number_at own k d (omega (arith, lt))

-- all rest where mover 1 holds no claim and the other lists are as before
pub rested_after : (movers : ℕ) (before after : List (ℕ × List Event)) (events : List Event) → 1 ≤ movers → lists_but 65 after ≡ lists_but 65 before → Tells number_in after events → held_in (list_of 65 after) ≡ None
    → All (IsRested movers) before → All (IsRested movers) after
rested_after movers before after events some same tells free rested = λ k d lt.
    let list : ℕ × List Event = get_or after k d in
    let has : Contains after list = Contains-get_or after k d lt in
    dite (ℕ_discrete list.0 65)
    (λ e. (omega (arith, e, some), ap held_in (told_list 65 after events list tells has e) ∙ free))
    (λ ne. All-contains (IsRested movers) before list rested (other_stays 65 after before list (sym same) ne has))

-- the runs of sessions are as before
pub runs_after : (lines : List Step) (done : Bool) (sessions : List ℕ) (before after : List (ℕ × List Event)) → All (λ session. session < 65) sessions → lists_but 65 after ≡ lists_but 65 before
    → All (HasRun lines true before) sessions → All (HasRun lines done after) sessions
runs_after lines done sessions before after below same runs = λ k d lt.
    let h = runs k d lt in let s : ℕ = get_or sessions k d in
    let low = below k d lt in
    (h.0, other_stays 65 before after (s, h.0) same (λ e. omega (arith, low, e)) h.1, whole_or_front s lines done (entries_in h.0) h.2)
