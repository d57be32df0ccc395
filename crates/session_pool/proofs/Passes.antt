-- The lists of a pass, one event more.
use Rattle.std.proofs.Common.{◌≡◌, ◌≢◌, ℕ, ◌+◌, ◌⊎◌, inl, inr, List, [], ◌∷◌, ◌++◌, refl, sym, ap, subst, ◌∙◌, cond, Bool, arith, eq-eqb, ne_eqb, append_assoc, Contains}
use mathlib.Core.Logic.{dite}
use native.Mathlib.Decide.{ℕ_discrete}
use Rattle.std.specs.Prelude.{◌==◌, not, Option, None, Some, Result, Ok, MatchResult}
use Rattle.std.proofs.lemmas.List.{map-append}
use Rattle.std.proofs.lemmas.List.Sums.{fold-append}
use Rattle.cs_model.specs.declared.entry.Bound.{Bound}
use Rattle.cs_model.specs.declared.entry.Reply.{Reply}
use Rattle.cs_model.specs.declared.entry.Entry.{Entry}
use Rattle.cs_model.specs.declared.entry.Entry.TheVariants.{Start, Finish, End, Mover}
use Rattle.cs_model.specs.Actors.{actor_of}
use Rattle.group_view.specs.declared.claim.Claim.{Claim}
use Rattle.history_gate.specs.Histories.{own_numbers, list_of, added}
use Rattle.history_gate.proofs.Lookup.{list_added, numbers_added}
use Rattle.script_turns.specs.Turns.{IsStartIn}
use Rattle.script_turns.proofs.Entries.{start_of_does}
use Rattle.statement_core.specs.declared.movers.Turned.{Turned}
use Rattle.statement_core.specs.declared.movers.Turned.TheVariants.{Lent, Alone, Short, Idle}
use Rattle.statement_core.specs.declared.started.Started.{Started}
use Rattle.log_laws.specs.Started.{IsStartEntry}
use Rattle.session_pool.specs.declared.event.Event.{Event}
use Rattle.session_pool.specs.Events.{number_in, entries_in, held_in}
use Rattle.session_pool.specs.Rests.{lists_but}
use Rattle.session_pool.specs.Sections.{IsAdded, AddsTurn}
use Rattle.session_pool.specs.Statements.{AddsStatement, AreWorks}

-- ---- one number

pub has_number : (own : List (ℕ × List Event)) (n : ℕ) → own_numbers own ≡ n ∷ [] → Contains (own_numbers own) n
has_number own n one = subst (λ ns. Contains ns n) (sym one) (0, omega arith, refl)

-- a new pass has no events yet
pub none_yet : (own : List (ℕ × List Event)) (n : ℕ) → own ≡ (n, []) ∷ [] → list_of n own ≡ []
none_yet own n is = ap (list_of n) is ∙ ap (λ b. cond b [] []) (eq-eqb n n refl)

-- an event of a number stands at the end of that number's list
pub list_grows : (n : ℕ) (e : Event) (own after : List (ℕ × List Event)) → number_in e ≡ n → Contains (own_numbers own) n → after ≡ added number_in e own → list_of n after ≡ list_of n own ++ e ∷ []
list_grows n e own after by has is =
    ap (list_of n) is ∙ subst (λ k. list_of k (added number_in e own) ≡ list_of k own ++ e ∷ []) by (list_added number_in e own (subst (Contains (own_numbers own)) (sym by) has))

pub numbers_stay : (e : Event) (own after : List (ℕ × List Event)) → after ≡ added number_in e own → own_numbers after ≡ own_numbers own
numbers_stay e own after is = ap own_numbers is ∙ numbers_added number_in e own

-- ---- a session

start_in : (session : ℕ) (b : Bound) (short : Bool) (e : Entry) → IsStartEntry session b short e → IsStartIn session e
start_in session b short (Start s bound why) h = h.0
start_in session b short (Finish s r) h = absurd h
start_in session b short (End s) h = absurd h
start_in session b short (Mover actor work) h = absurd h

-- what a Start adds to a pass
abbrev pub AddsStart : ℕ → Bound → List (ℕ × List Event) → List (ℕ × List Event) → Started → Type 0
AddsStart session b before after started = (e : Event) × (after ≡ added (λ x. number_in x) e before) × IsStartEntry session b started.short e.entry × (e.lent ≡ None)

pub start_adds : {M : Type 0} (session : ℕ) (b : Bound) (before after : List (ℕ × List Event)) (r : Result Started M) (started : Started) → r ≡ Ok started
    → MatchResult r (AddsStart session b before after) (λ _. after ≡ before) → AddsStart session b before after started
start_adds {M} session b before after r started is own = subst (λ z. MatchResult z (AddsStart session b before after) (λ _. after ≡ before)) is own

-- what an event lent is held after it
pub held_more : (n : ℕ) (e : Event) (own after : List (ℕ × List Event)) → number_in e ≡ n → Contains (own_numbers own) n → after ≡ added number_in e own → held_in (list_of n after) ≡ e.lent
held_more n e own after by has is = ap held_in (list_grows n e own after by has is) ∙ fold-append (λ (held : Option Claim) (event : Event). event.lent) None (list_of n own) (e ∷ [])

module _ (session : ℕ) (b : Bound) (first mid : List (ℕ × List Event)) (started : Started) (one : own_numbers first ≡ session ∷ []) (starts : AddsStart session b first mid started) where
  pub start_numbers : own_numbers mid ≡ session ∷ []
  start_numbers = numbers_stay starts.0 first mid starts.1 ∙ one

  start_number : number_in starts.0 ≡ session
  start_number = let a = starts.0 in (start_of_does session b started.short a.entry starts.2).actor

  pub start_free : held_in (list_of session mid) ≡ None
  start_free = held_more session starts.0 first mid start_number (has_number first session one) starts.1 ∙ starts.3

  -- the works of the statement, and its Finish
  module _ (made last : List (ℕ × List Event)) (numbers : own_numbers made ≡ own_numbers mid) (works : List Event) (list : list_of session made ≡ list_of session mid ++ works) (are : AreWorks (entries_in works))
      (finishes : (e : Event) × (reply : Reply) × (e.entry ≡ Finish session reply) × (last ≡ added (λ x. number_in x) e made) × (e.lent ≡ None)) where
    made_numbers : own_numbers made ≡ session ∷ []
    made_numbers = numbers ∙ start_numbers

    pub finish_numbers : own_numbers last ≡ session ∷ []
    finish_numbers = numbers_stay finishes.0 made last finishes.3 ∙ made_numbers

    pub finish_free : held_in (list_of session last) ≡ None
    finish_free = held_more session finishes.0 made last (ap actor_of finishes.2) (has_number made session made_numbers) finishes.3 ∙ finishes.4

    -- a Start, its works and its Finish are one statement
    pub adds_statement : AddsStatement session (entries_in (list_of session first)) (entries_in (list_of session last))
    adds_statement =
        let a = starts.0 in
        let z = finishes.0 in
        let before : List Event = list_of session first in
        let left : list_of session mid ≡ before ++ a ∷ [] = list_grows session a first mid start_number (has_number first session one) starts.1 in
        let right : list_of session last ≡ list_of session made ++ z ∷ [] = list_grows session z made last (ap actor_of finishes.2) (has_number made session made_numbers) finishes.3 in
        let both : list_of session last ≡ before ++ a ∷ (works ++ z ∷ []) =
        right ∙ ap (λ es. es ++ z ∷ []) (list ∙ ap (λ es. es ++ works) left) ∙ append_assoc (before ++ a ∷ []) works (z ∷ []) ∙ append_assoc before (a ∷ []) (works ++ z ∷ []) in
        let entries : entries_in (list_of session last) ≡ entries_in before ++ a.entry ∷ (entries_in works ++ Finish session finishes.1 ∷ []) =
        ap entries_in both ∙ map-append (λ (event : Event). event.entry) before (a ∷ (works ++ z ∷ []))
        ∙ ap (λ es. entries_in before ++ a.entry ∷ es) (map-append (λ (event : Event). event.entry) works (z ∷ []))
        ∙ ap (λ e. entries_in before ++ a.entry ∷ (entries_in works ++ e ∷ [])) finishes.2 in
        (a.entry, entries_in works, Finish session finishes.1, entries, start_in session b started.short a.entry starts.2, are, refl)

-- the End of a session
module _ (session : ℕ) (first last : List (ℕ × List Event)) (one : own_numbers first ≡ session ∷ []) (ends : (e : Event) × (e.entry ≡ End session) × (last ≡ added (λ x. number_in x) e first) × (e.lent ≡ None)) where
  pub end_numbers : own_numbers last ≡ session ∷ []
  end_numbers = numbers_stay ends.0 first last ends.2 ∙ one

  pub end_free : held_in (list_of session last) ≡ None
  end_free = held_more session ends.0 first last (ap actor_of ends.1) (has_number first session one) ends.2 ∙ ends.3

  pub end_entries : entries_in (list_of session last) ≡ entries_in (list_of session first) ++ End session ∷ []
  end_entries =
      let e = ends.0 in
      ap entries_in (list_grows session e first last (ap actor_of ends.1) (has_number first session one) ends.2)
      ∙ map-append (λ (event : Event). event.entry) (list_of session first) (e ∷ [])
      ∙ ap (λ x. entries_in (list_of session first) ++ x ∷ []) ends.1

-- ---- a mover

but_added : (n : ℕ) (e : Event) (own : List (ℕ × List Event)) → number_in e ≡ n → lists_but n (added number_in e own) ≡ lists_but n own
but_added n e [] by = refl
but_added n e (p ∷ own) by = dite (ℕ_discrete p.0 n) (λ is. there is (but_added n e own by)) (λ ne. else ne (but_added n e own by))
  where
    there : p.0 ≡ n → lists_but n (added number_in e own) ≡ lists_but n own → lists_but n (added number_in e (p ∷ own)) ≡ lists_but n (p ∷ own)
    there is rest =
        ap (λ b. cond (not b) ((p.0, cond (number_in e == p.0) (p.1 ++ e ∷ []) p.1) ∷ lists_but n (added number_in e own)) (lists_but n (added number_in e own))) (eq-eqb p.0 n is)
        ∙ rest
        ∙ sym (ap (λ b. cond (not b) (p ∷ lists_but n own) (lists_but n own)) (eq-eqb p.0 n is))

    else : p.0 ≢ n → lists_but n (added number_in e own) ≡ lists_but n own → lists_but n (added number_in e (p ∷ own)) ≡ lists_but n (p ∷ own)
    else ne rest =
        ap (λ l. cond (not (p.0 == n)) ((p.0, l) ∷ lists_but n (added number_in e own)) (lists_but n (added number_in e own))) (ap (λ b. cond b (p.1 ++ e ∷ []) p.1) (ne_eqb (number_in e) p.0 (λ same. ne (sym same ∙ by))))
        ∙ ap (λ ls. cond (not (p.0 == n)) (p ∷ ls) ls) rest

-- the numbers are as before, and so are the lists of all others
pub record KeepsOthers (number : ℕ) (before after : List (ℕ × List Event)) : Type 0 where
  pub numbers : own_numbers after ≡ own_numbers before
  pub others : lists_but number after ≡ lists_but number before

pub keeps_same : (number : ℕ) (before after : List (ℕ × List Event)) → after ≡ before → KeepsOthers number before after
keeps_same number before after same = record { numbers = ap own_numbers same; others = ap (lists_but number) same }

pub keeps_on : (number : ℕ) (before now after : List (ℕ × List Event)) → KeepsOthers number before now → KeepsOthers number now after → KeepsOthers number before after
keeps_on number before now after first second = record { numbers = second.numbers ∙ first.numbers; others = second.others ∙ first.others }

module _ (number : ℕ) (lent : Option Claim) (before after : List (ℕ × List Event)) (x : IsAdded number lent before after) where
  pub added_keeps : KeepsOthers number before after
  added_keeps = record { numbers = numbers_stay x.event before after x.own; others = ap (lists_but number) x.own ∙ but_added number x.event before x.by }

  -- the actor holds what its last event lent
  pub added_holds : Contains (own_numbers before) number → held_in (list_of number after) ≡ lent
  added_holds has = held_more number x.event before after x.by has x.own ∙ x.lends

-- what the first event of a turn lends
abbrev pub lends : Turned → Option Claim
lends (Lent claim) = Some claim
lends Alone = None
lends Short = None
lends Idle = None

-- nothing is lent where memory was wanting or nothing is left
pub lends_none : (turned : Turned) → (turned ≡ Short) ⊎ (turned ≡ Idle) → lends turned ≡ None
lends_none turned (inl is) = ap lends is
lends_none turned (inr is) = ap lends is

-- the first event of a mover's turn, where it held no claim
module _ (mover : ℕ) (before after : List (ℕ × List Event)) (has : Contains (own_numbers before) (64 + mover)) where
  pub turn_keeps : (turned : Turned) → AddsTurn mover turned before after → KeepsOthers (64 + mover) before after
  turn_keeps (Lent claim) adds = added_keeps (64 + mover) (Some claim) before after adds.0
  turn_keeps Alone adds = added_keeps (64 + mover) None before after adds
  turn_keeps Short adds = added_keeps (64 + mover) None before after adds
  turn_keeps Idle adds = keeps_same (64 + mover) before after adds

  -- the mover holds what the event lent
  pub turn_holds : (turned : Turned) → held_in (list_of (64 + mover) before) ≡ None → AddsTurn mover turned before after → held_in (list_of (64 + mover) after) ≡ lends turned
  turn_holds (Lent claim) free adds = added_holds (64 + mover) (Some claim) before after adds.0 has
  turn_holds Alone free adds = added_holds (64 + mover) None before after adds has
  turn_holds Short free adds = added_holds (64 + mover) None before after adds has
  turn_holds Idle free adds = ap (λ own. held_in (list_of (64 + mover) own)) adds ∙ free

  pub turn_has : (turned : Turned) → AddsTurn mover turned before after → Contains (own_numbers after) (64 + mover)
  turn_has turned adds = subst (λ ns. Contains ns (64 + mover)) (sym (turn_keeps turned adds).numbers) has

-- the turns of a mover, one more
module _ (mover : ℕ) (first now next : List (ℕ × List Event)) (has : Contains (own_numbers first) (64 + mover)) (kept : KeepsOthers (64 + mover) first now) (free : held_in (list_of (64 + mover) now) ≡ None) (turned : Turned) (adds : AddsTurn mover turned now next) where
  there : Contains (own_numbers now) (64 + mover)
  there = subst (λ ns. Contains ns (64 + mover)) (sym kept.numbers) has

  pub next_has : Contains (own_numbers next) (64 + mover)
  next_has = turn_has mover now next there turned adds

  pub next_kept : KeepsOthers (64 + mover) first next
  next_kept = keeps_on (64 + mover) first now next kept (turn_keeps mover now next there turned adds)

  pub next_holds : held_in (list_of (64 + mover) next) ≡ lends turned
  next_holds = turn_holds mover now next there turned free adds

  module _ (last : List (ℕ × List Event)) (ends : IsAdded (64 + mover) None next last) where
    pub last_kept : KeepsOthers (64 + mover) first last
    last_kept = keeps_on (64 + mover) first next last next_kept (added_keeps (64 + mover) None next last ends)

    pub last_free : held_in (list_of (64 + mover) last) ≡ None
    last_free = added_holds (64 + mover) None next last ends next_has
