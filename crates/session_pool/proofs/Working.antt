-- What the sections of a session's REORGANIZE make of its pass.
use Rattle.std.proofs.Common.{◌≡◌, ℕ, ◌==◌, List, [], ◌∷◌, ◌++◌, refl, sym, ap, subst, ◌∙◌, cond, false, append_assoc, Contains, inl, inr, Result, Ok, Err, IfOk, OnErr}
use mathlib.Core.List.{map-append}
use Rattle.std.specs.Prelude.{◌&&◌, Option, None, Some}
use Rattle.std.proofs.lemmas.List.{append-nil}
use Rattle.std.proofs.lemmas.List.Elements.{All-append, All-cons, All-nil}
use Rattle.cs_model.specs.declared.entry.Entry.{Entry}
use Rattle.cs_model.specs.declared.work.Actor.TheVariants.{Session}
use Rattle.cs_model.specs.Actors.{actor_of, is_turn, turns_of}
use Rattle.group_book.specs.Book as book
use Rattle.group_directory.specs.declared.ledger.Ledger.{Ledger}
use Rattle.group_log.specs.Followed.{Ground}
use Rattle.statement_core.specs.Reorganizes.{IsClosing, IsLedgerAt}
use Rattle.cs_model.specs.declared.work.Work.{Work}
use Rattle.group_view.specs.declared.claim.Claim.{Claim}
use Rattle.history_gate.specs.Histories.{own_numbers, list_of, added, Grows, Tells}
use Rattle.history_gate.specs.Passes.{PassState}
use Rattle.statement_core.proofs.Works.{turns_still}
use Rattle.session_pool.specs.declared.attempt.Attempt.{Attempt}
use Rattle.session_pool.specs.declared.attempt.Attempt.TheVariants.{Lent, Idle, Short}
use Rattle.session_pool.specs.declared.event.Event.{Event}
use Rattle.session_pool.specs.Events.{entries_in, held_in, number_in}
use Rattle.session_pool.specs.Sections.{After, EndedBy, IsAdded, IsFound, IsGrown}
use Rattle.session_pool.specs.Statements.{AreWorks}
use Rattle.session_pool.specs.Works.{lent_by, AttemptsBy, ClosesBy, IsWorthWork, HasWorked}
use Rattle.session_pool.proofs.Own.{entries_now, grown_added, no_turn_between}
use Rattle.session_pool.proofs.Passes.{added_holds, list_grows, numbers_stay}

entries_more : (first rest : List Event) → entries_in (first ++ rest) ≡ entries_in first ++ entries_in rest
entries_more first rest = map-append (λ (e : Event). e.entry) first rest

-- ---- one after the other

pub works_none : (session : ℕ) (pass : PassState Event) → Tells number_in pass.own pass.seen → HasWorked session pass pass
works_none session pass told = record {
  gate = refl;
  reserve = refl;
  numbers = refl;
  works = [];
  list = sym (append-nil (list_of session pass.own));
  are = All-nil (λ entry. is_turn entry ≡ false);
  told = told;
  since = [];
  seen = sym (append-nil (entries_in pass.seen));
  none = refl;
}

pub works_then : (session : ℕ) (before pass after : PassState Event) → HasWorked session before pass → HasWorked session pass after → HasWorked session before after
works_then session before pass after x y = record {
  gate = y.gate ∙ x.gate;
  reserve = y.reserve ∙ x.reserve;
  numbers = y.numbers ∙ x.numbers;
  works = x.works ++ y.works;
  list = y.list ∙ ap (λ es. es ++ y.works) x.list ∙ append_assoc (list_of session before.own) x.works y.works;
  are = subst AreWorks (sym (entries_more x.works y.works)) (All-append (λ entry. is_turn entry ≡ false) (entries_in x.works) (entries_in y.works) x.are y.are);
  told = y.told;
  since = x.since ++ y.since;
  seen = y.seen ∙ ap (λ es. es ++ y.since) x.seen ∙ append_assoc (entries_in before.seen) x.since y.since;
  none = turns_still session x.since y.since x.none y.none;
}

-- a pass keeps the session's number
pub works_has : (session : ℕ) (before after : PassState Event) → HasWorked session before after → Contains (own_numbers before.own) session → Contains (own_numbers after.own) session
works_has session before after x has = subst (λ ns. Contains ns session) (sym x.numbers) has

-- ---- one section

-- no turn is in a piece that is none
one_none : (session : ℕ) (e : Entry) → is_turn e ≡ false → turns_of session (e ∷ []) ≡ []
one_none session e works = ap (λ t. cond (t && (actor_of e == session)) (e ∷ []) []) works

module _ (session : ℕ) (before after : PassState Event) (gate : after.gate ≡ before.gate) (reserve : after.reserve ≡ before.reserve) (has : Contains (own_numbers before.own) session) (was : Tells number_in before.own before.seen)
    (told : Tells number_in after.own after.seen) (found : List Event) (is : IsFound before found) where
  abbrev between : List Entry
  between = entries_in is.seen.0

  -- what was found is what was seen, and what others did
  came : entries_in found ≡ entries_in before.seen ++ between
  came = entries_now session before.own before.seen found found refl is.seen was is.own has

  still : turns_of session between ≡ []
  still = no_turn_between session before.own before.seen found found refl is.seen was is.own has

  -- it added a work
  pub works_added : (lent : Option Claim) → IsAdded session lent before.own after.own → (piece : List Entry) → entries_in after.seen ≡ entries_in found ++ piece → turns_of session piece ≡ [] → HasWorked session before after
  works_added lent x piece seen none = record {
    gate = gate;
    reserve = reserve;
    numbers = numbers_stay x.event before.own after.own x.own;
    works = x.event ∷ [];
    list = list_grows session x.event before.own after.own x.by has x.own;
    are = All-cons (λ entry. is_turn entry ≡ false) (let event = x.event in event.entry) [] x.works (All-nil (λ entry. is_turn entry ≡ false));
    told = told;
    since = between ++ piece;
    seen = seen ∙ ap (λ es. es ++ piece) came ∙ append_assoc (entries_in before.seen) between piece;
    none = turns_still session between piece still none;
  }

  -- it added nothing
  pub works_same : after.own ≡ before.own → entries_in after.seen ≡ entries_in found → HasWorked session before after
  works_same same seen = record {
    gate = gate;
    reserve = reserve;
    numbers = ap own_numbers same;
    works = [];
    list = ap (list_of session) same ∙ sym (append-nil (list_of session before.own));
    are = All-nil (λ entry. is_turn entry ≡ false);
    told = told;
    since = between;
    seen = seen ∙ came;
    none = still;
  }

  -- an end of a turn
  pub works_ended : (ends : book.Choice → book.Claim → Option Work) (origin : Ground) → IsAdded session None before.own after.own → EndedBy ends origin (Session session) (entries_in found) (entries_in after.seen) → HasWorked session before after
  works_ended ends origin x e = let by = e.2 in works_added None x e.0 e.1 (ap (turns_of session) by.entry)

-- ---- the sections by what the history says

module _ (session : ℕ) (before after : PassState Event) (gate : after.gate ≡ before.gate) (reserve : after.reserve ≡ before.reserve) (has : Contains (own_numbers before.own) session) (was : Tells number_in before.own before.seen)
    (told : Tells number_in after.own after.seen) (found now new : List Event) (is : IsFound before found) (same : now ≡ found) (seen : after.seen ≡ new) (held : List (ℕ × List Event)) (owns : held ≡ before.own)
    (one : (e : Event) → new ≡ found ++ e ∷ [] → after.own ≡ added number_in e held) where
  by_grown : (lent : Option Claim) → IsGrown session lent now new → HasWorked session before after × (held_in (list_of session after.own) ≡ lent)
  by_grown lent grown =
      let x : IsAdded session lent before.own after.own = grown_added found now new before.own held after.own same owns one session lent grown in
      let event = grown.event in
      let piece : entries_in after.seen ≡ entries_in found ++ event.entry ∷ [] =
      ap entries_in (seen ∙ (grown.events ∙ ap (λ es. es ++ event ∷ []) same)) ∙ entries_more found (event ∷ []) in
      (works_added session before after gate reserve has was told found is lent x (event.entry ∷ []) piece (one_none session event.entry grown.works), added_holds session lent before.own after.own x has)

  module _ (none : new ≡ found → after.own ≡ held) (free : held_in (list_of session before.own) ≡ None) where
    by_same : new ≡ now → HasWorked session before after × (held_in (list_of session after.own) ≡ None)
    by_same still =
        let stays : after.own ≡ before.own = none (still ∙ same) ∙ owns in
        (works_same session before after gate reserve has was told found is stays (ap entries_in (seen ∙ (still ∙ same))), ap (λ own. held_in (list_of session own)) stays ∙ free)

    pub close_works : {M : Type 0} (r : Result (Option ℕ) M) → IfOk r (λ closed. ClosesBy session closed now new) → OnErr r (new ≡ now) → HasWorked session before after × (held_in (list_of session after.own) ≡ None)
    close_works (Ok None) ok err = by_same ok
    close_works (Ok (Some id)) ok err = by_grown None ok
    close_works (Err m) ok err = by_same err

    pub attempt_works : (r : Attempt) → AttemptsBy session r now new → HasWorked session before after × (held_in (list_of session after.own) ≡ lent_by r)
    attempt_works (Lent claim) x = by_grown (Some claim) x.0
    attempt_works (Idle ledger) x = by_same x
    attempt_works Short (inl x) = by_grown None x
    attempt_works Short (inr x) = by_same x

-- it adds one entry at most, of the session
pub attempt_grows : (session : ℕ) (numbers : List ℕ) (found now new : List Event) → now ≡ found → Contains numbers session → (r : Attempt) → AttemptsBy session r now new → Grows number_in numbers found new
attempt_grows session numbers found now new same has r x = at r x
  where
    more : (lent : Option Claim) → IsGrown session lent now new → Grows number_in numbers found new
    more lent grown = inr (grown.event, grown.events ∙ ap (λ es. es ++ grown.event ∷ []) same, subst (Contains numbers) (sym grown.by) has)

    at : (r : Attempt) → AttemptsBy session r now new → Grows number_in numbers found new
    at (Lent claim) x = more (Some claim) x.0
    at (Idle ledger) x = inl (x ∙ same)
    at Short (inl x) = more None x
    at Short (inr x) = inl (x ∙ same)

pub attempt_worth : (session : ℕ) (now new : List Event) (r : Attempt) → AttemptsBy session r now new → IsWorthWork r
attempt_worth session now new (Lent claim) x = x.1
attempt_worth session now new (Idle ledger) x = tt
attempt_worth session now new Short x = tt

-- ---- a look

pub look_works : (session : ℕ) (before after : PassState Event) → after.gate ≡ before.gate → after.reserve ≡ before.reserve → Contains (own_numbers before.own) session → Tells number_in before.own before.seen
    → Tells number_in after.own after.seen → (found : List Event) → IsFound before found → after.own ≡ before.own → after.seen ≡ found → HasWorked session before after
look_works session before after gate reserve has was told found is same seen = works_same session before after gate reserve has was told found is same (ap entries_in seen)

pub look_finds : {M : Type 0} (origin : Ground) (pass : PassState Event) (found now seen : List Event) → IsFound pass found → now ≡ found → seen ≡ now → (r : Result Ledger M) → IfOk r (IsLedgerAt origin (entries_in now))
    → IfOk r (λ ledger. After pass (λ found. (entries_in seen ≡ entries_in found) × IsLedgerAt origin (entries_in found) ledger))
look_finds origin pass found now seen is same saw (Ok ledger) ok = (found, is, (ap entries_in (saw ∙ same), subst (λ events. IsLedgerAt origin (entries_in events) ledger) same ok))
look_finds origin pass found now seen is same saw (Err m) ok = tt

-- ---- a close

pub close_finds : {M : Type 0} (origin : Ground) (session : ℕ) (pass : PassState Event) (found now new seen : List Event) → IsFound pass found → now ≡ found → seen ≡ new → (r : Result (Option ℕ) M)
    → IfOk r (λ closed. IsClosing origin (entries_in now) (Session session) closed (entries_in new)) → IfOk r (λ closed. After pass (λ found. IsClosing origin (entries_in found) (Session session) closed (entries_in seen)))
close_finds origin session pass found now new seen is same saw (Ok closed) ok =
    (found, is, subst (λ (z : List Event × List Event). IsClosing origin (entries_in z.0) (Session session) closed (entries_in z.1)) (λ i. (same i, sym saw i)) ok)
close_finds origin session pass found now new seen is same saw (Err m) ok = tt
