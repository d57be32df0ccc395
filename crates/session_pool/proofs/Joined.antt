-- What passes have when they are joined.
use Rattle.std.proofs.Common.{◌≡◌, ◌≢◌, ◌≤◌, ◌<◌, ◌+◌, ℕ, Bool, true, false, List, [], ◌∷◌, ◌++◌, ◌⊎◌, ⊎_elim, refl, sym, ap, ◌∙◌, subst, cond, arith, eq-eqb, get_or, length, All, Contains}
use Rattle.std.specs.Prelude.{None}
use mathlib.Core.List.{map-append}
use Rattle.std.proofs.lemmas.List.{append-nil}
use Rattle.std.proofs.lemmas.List.Elements.{All-cons, All-append, Contains-append_left, Contains-append_right}
use Rattle.history_gate.specs.Histories.{own_numbers, list_of, without}
use Rattle.history_gate.proofs.Numbers.{Contains-without}
use Rattle.cs_model.specs.declared.entry.Entry.{Entry}
use Rattle.script_reader.specs.declared.script.Step.{Step}
use Rattle.cs_model.specs.Actors.{turns_of}
use Rattle.script_turns.specs.Turns.{texts_of, AreTurns}
use Rattle.session_pool.specs.declared.event.Event.{Event}
use Rattle.session_pool.specs.Events.{entries_in, held_in}
use Rattle.session_pool.specs.Rests.{IsRested, HasRun, KeepsOwn}
use Rattle.session_pool.specs.Runs.{IsSessionRun}

-- ---- sessions

-- a pass with one number has its list
pub own_list : (n : ℕ) (own : List (ℕ × List Event)) → own_numbers own ≡ n ∷ [] → Contains own (n, list_of n own)
own_list n [] one = absurd (cc one)
own_list n (p ∷ own) one =
    let same : p.0 ≡ n = cc one in
    (0, omega arith, λ i. (same i, sym (ap (λ b. cond b p.1 (list_of n own)) (eq-eqb p.0 n same)) i))

-- a whole run is a prefix of one too
pub whole_or_front : (session : ℕ) (lines : List Step) (done : Bool) (entries : List Entry) → IsSessionRun session lines true entries → IsSessionRun session lines done entries
whole_or_front session lines true entries whole = whole
whole_or_front session lines false entries whole = ([], subst (AreTurns session (length (texts_of session lines))) (sym (append-nil (turns_of session entries))) whole)

as_front : (session : ℕ) (lines : List Step) (done : Bool) (entries : List Entry) → IsSessionRun session lines done entries → IsSessionRun session lines false entries
as_front session lines true entries run = whole_or_front session lines false entries run
as_front session lines false entries run = run

-- both are so where each of them is
abbrev pub AreBoth : Bool → Bool → Bool → Type 0
AreBoth rest done both = ((rest ≡ true) × (both ≡ done)) ⊎ ((rest ≡ false) × (both ≡ false))

module _ (lines : List Step) (rest done both : Bool) (is : AreBoth rest done both) where
  rest_too : (session : ℕ) (entries : List Entry) → IsSessionRun session lines rest entries → IsSessionRun session lines both entries
  rest_too session entries run = ⊎_elim
      (λ (w : (rest ≡ true) × (both ≡ done)). whole_or_front session lines both entries (subst (λ b. IsSessionRun session lines b entries) w.0 run))
      (λ (w : (rest ≡ false) × (both ≡ false)). subst (λ b. IsSessionRun session lines b entries) (w.0 ∙ sym w.1) run) is

  done_too : (session : ℕ) (entries : List Entry) → IsSessionRun session lines done entries → IsSessionRun session lines both entries
  done_too session entries run = ⊎_elim
      (λ (w : (rest ≡ true) × (both ≡ done)). subst (λ b. IsSessionRun session lines b entries) (sym w.1) run)
      (λ (w : (rest ≡ false) × (both ≡ false)). subst (λ b. IsSessionRun session lines b entries) (sym w.1) (as_front session lines done entries run)) is

  -- a session's run comes back beside those of the others
  pub runs_joined : (session : ℕ) (others all_sessions : List ℕ) (back mine own : List (ℕ × List Event)) → all_sessions ≡ session ∷ others → own ≡ back ++ mine → own_numbers mine ≡ session ∷ []
      → IsSessionRun session lines done (entries_in (list_of session mine)) → All (HasRun lines rest back) others → All (HasRun lines both own) all_sessions
  runs_joined session others all_sessions back mine own split joined one run runs =
      subst (All (HasRun lines both own)) (sym split) (All-cons (HasRun lines both own) session others
      (list_of session mine, subst (λ o. Contains o (session, list_of session mine)) (sym joined) (Contains-append_right back mine (session, list_of session mine) (own_list session mine one)), done_too session (entries_in (list_of session mine)) run)
      (λ k d lt. let h = runs k d lt in let s : ℕ = get_or others k d in
      (h.0, subst (λ o. Contains o (s, h.0)) (sym joined) (Contains-append_left back mine (s, h.0) h.1), rest_too s (entries_in h.0) h.2)))

-- the runs of sessions stay where a mover's pass is joined
pub runs_stay : (lines : List Step) (done : Bool) (sessions : List ℕ) (back mine own : List (ℕ × List Event)) → own ≡ back ++ mine → All (HasRun lines done back) sessions → All (HasRun lines done own) sessions
runs_stay lines done sessions back mine own joined runs = λ k d lt.
    let h = runs k d lt in let s : ℕ = get_or sessions k d in
    (h.0, subst (λ o. Contains o (s, h.0)) (sym joined) (Contains-append_left back mine (s, h.0) h.1), h.2)

-- ---- numbers that have a list

own_joined : (back mine own : List (ℕ × List Event)) → own ≡ back ++ mine → own_numbers own ≡ own_numbers back ++ own_numbers mine
own_joined back mine own joined = ap own_numbers joined ∙ map-append (λ p. p.0) back mine

pub kept_joined : (before back mine own : List (ℕ × List Event)) → own ≡ back ++ mine → KeepsOwn before back → KeepsOwn before own
kept_joined before back mine own joined kept = λ n has.
    subst (λ ns. Contains ns n) (sym (own_joined back mine own joined)) (Contains-append_left (own_numbers back) (own_numbers mine) n (kept n has))

-- a number that came back with a pass of its own
pub number_joined : (n : ℕ) (back mine own : List (ℕ × List Event)) → own ≡ back ++ mine → own_numbers mine ≡ n ∷ [] → Contains (own_numbers own) n
number_joined n back mine own joined one =
    subst (λ ns. Contains ns n) (sym (own_joined back mine own joined)) (Contains-append_right (own_numbers back) (own_numbers mine) n (subst (λ ns. Contains ns n) (sym one) (0, omega arith, refl)))

-- ---- numbers that are to be given away

-- the other sessions' numbers stay
pub spare_others : (session : ℕ) (others : List ℕ) (reserve left : List ℕ) → All (λ y. session ≢ y) others → left ≡ without session reserve → All (Contains reserve) others → All (Contains left) others
spare_others session others reserve left apart is spare = λ k d lt.
    let s : ℕ = get_or others k d in
    subst (λ r. Contains r s) (sym is) (Contains-without session s reserve (apart k d lt) (spare k d lt))

-- ---- who rests

-- a pass with one number, of a session or of a mover
pub one_rested : (movers n : ℕ) (own : List (ℕ × List Event)) → own_numbers own ≡ n ∷ [] → n ≤ 64 + movers → held_in (list_of n own) ≡ None → All (IsRested movers) own
one_rested movers n [] one within free = absurd (cc one)
one_rested movers n (p ∷ q ∷ own) one within free = absurd (cc one)
one_rested movers n (p ∷ []) one within free =
    let same : p.0 ≡ n = cc one in
    let list : list_of n (p ∷ []) ≡ p.1 = ap (λ b. cond b p.1 []) (eq-eqb p.0 n same) in
    All-cons (IsRested movers) p [] (omega (arith, same, within), ap held_in (sym list) ∙ free) (λ k d lt. absurd (omega (arith, lt)))

pub rested_joined : (movers : ℕ) (back mine own : List (ℕ × List Event)) → own ≡ back ++ mine → All (IsRested movers) back → All (IsRested movers) mine → All (IsRested movers) own
rested_joined movers back mine own joined a b = subst (All (IsRested movers)) (sym joined) (All-append (IsRested movers) back mine a b)

-- a mover's number is none of the sessions'
pub apart_from : (number : ℕ) (sessions : List ℕ) → 65 ≤ number → All (λ session. session < 65) sessions → All (λ y. number ≢ y) sessions
apart_from number sessions high below = λ k d lt same. let low = below k d lt in omega (arith, high, low, same)
