-- What a section at the gate does to the entries of its pass.
use Rattle.std.proofs.Common.{◌≡◌, ℕ, ◌+◌, ◌==◌, List, [], ◌∷◌, ◌++◌, length, refl, sym, ap, subst, ◌∙◌, cond, Bool, true, false, arith, append_assoc, length-append, Contains, Result, Ok, Err, IfOk, OnErr, MatchResult}
use mathlib.Core.List.{IsPrefix, map-append}
use Rattle.std.specs.Prelude.{Option, None, Some, IfSome, ◌&&◌}
use Rattle.std.proofs.lemmas.List.Elements.{filter-append}
use Rattle.std.proofs.lemmas.List.Sums.{sum_by-cons}
use Rattle.cs_model.specs.declared.entry.Bound.{Bound}
use Rattle.cs_model.specs.declared.entry.Entry.{Entry}
use Rattle.cs_model.specs.declared.entry.Entry.TheVariants as entry
use Rattle.cs_model.specs.declared.work.Actor.TheVariants as actor
use Rattle.cs_model.specs.Actors.{actor_of, is_turn, entries_of, turns_of}
use Rattle.cs_model.specs.State.{Begin}
use Rattle.cs_model.specs.Text.{is_start_of, statements_of}
use Rattle.group_book.specs.Commits.{Sizes}
use Rattle.group_log.specs.Counted.{AreCountsAt}
use Rattle.group_log.specs.Followed.{Ground}
use Rattle.group_log.specs.Reorganizing.{works_of}
use Rattle.group_view.specs.declared.claim.Claim.{Claim}
use Rattle.history_gate.specs.Histories.{own_numbers, list_of, added, Tells}
use Rattle.history_gate.proofs.Lookup.{list_told}
use Rattle.log_laws.specs.Started.{IsStarted, IsStartEntry}
use Rattle.log_laws.proofs.StartedOn.{started_through}
use Rattle.statement_core.proofs.Courses.{leaves_on}
use Rattle.statement_core.proofs.Works.{turns_others, works_others}
use Rattle.statement_core.specs.declared.movers.Turned.{Turned}
use Rattle.statement_core.specs.declared.movers.Turned.TheVariants.{Lent, Alone, Short, Idle}
use Rattle.statement_core.specs.declared.started.Outcome.{Outcome}
use Rattle.statement_core.specs.declared.started.Outcome.TheVariants as outcome
use Rattle.statement_core.specs.declared.started.Started.{Started}
use Rattle.statement_core.specs.Cores.{IsDone}
use Rattle.statement_core.specs.Reorganizes.{LeavesBy}
use Rattle.session_pool.specs.declared.event.Event.{Event}
use Rattle.session_pool.specs.Events.{number_in, entries_in, events_by}
use Rattle.session_pool.specs.Sections.{BegunBy, IsGrown, GrowsBy, LooksBy, IsAdded, AddsTurn, LooksAt, StandsLast}
use Rattle.session_pool.proofs.Events.{entries_by}
use Rattle.session_pool.proofs.Turning.{last_stands}

-- ---- what a pass says of the history

module _ (n : ℕ) (own : List (ℕ × List Event)) (found now : List Event) (same : now ≡ found) (tells : Tells number_in own found) (has : Contains (own_numbers own) n) where
  -- its list of a number has the events of that
  pub own_events : events_by n now ≡ list_of n own
  own_events = ap (events_by n) same ∙ list_told number_in n own found tells has

  pub own_entries : entries_of n (entries_in now) ≡ entries_in (list_of n own)
  own_entries = entries_by n now ∙ ap entries_in own_events

-- the statements that a session began are those among its entries
no_other_start : (session : ℕ) (e : Entry) → (actor_of e == session) ≡ false → is_start_of session e ≡ false
no_other_start session (entry.Start s bound short) apart = apart
no_other_start session (entry.Finish s reply) apart = refl
no_other_start session (entry.End s) apart = refl
no_other_start session (entry.Mover by work) apart = refl

-- 1 for a Start of the session, else 0
abbrev zero_or_one : Bool → ℕ
zero_or_one b = cond b 1 0

abbrev counts_one : ℕ → Entry → ℕ
counts_one session e = zero_or_one (is_start_of session e)

statements_by : (session : ℕ) (log : List Entry) → statements_of session log ≡ statements_of session (entries_of session log)
statements_by session [] = refl
statements_by session (e ∷ log) = at (actor_of e == session) refl (statements_by session log)
  where
    counted : (es : List Entry) → statements_of session (e ∷ es) ≡ counts_one session e + statements_of session es
    counted es = sum_by-cons (counts_one session) e es

    at : (t : Bool) → (actor_of e == session) ≡ t → statements_of session log ≡ statements_of session (entries_of session log)
        → statements_of session (e ∷ log) ≡ statements_of session (cond t (e ∷ entries_of session log) (entries_of session log))
    at true is rest = counted log ∙ (ap (λ n. counts_one session e + n) rest ∙ sym (counted (entries_of session log)))
    at false is rest =
        let none : counts_one session e ≡ 0 = ap zero_or_one (no_other_start session e is) in
        omega (arith, counted log, none, rest)

module _ (n : ℕ) (own : List (ℕ × List Event)) (found now : List Event) (same : now ≡ found) (tells : Tells number_in own found) (has : Contains (own_numbers own) n) where
  pub own_statements : statements_of n (entries_in now) ≡ statements_of n (entries_in (list_of n own))
  own_statements = statements_by n (entries_in now) ∙ ap (statements_of n) (own_entries n own found now same tells has)

-- ---- what a session has begun stays, since no entry of it came between

nothing_more : {A : Type 0} (xs ys : List A) → xs ++ ys ≡ xs → ys ≡ []
nothing_more xs [] same = refl
nothing_more xs (y ∷ ys) same = absurd (omega (arith, ap (λ l. length l) same, length-append xs (y ∷ ys)))

pub counts_through : (origin : Ground) (log rest : List Entry) (session : ℕ) (o : Option (ℕ × ℕ)) → turns_of session rest ≡ [] → IfSome o (AreCountsAt origin log session) → IfSome o (AreCountsAt origin (log ++ rest) session)
counts_through origin log rest session None none are = tt
counts_through origin log rest session (Some counts) none are =
    let begun = are.begun in record {
      query = are.query;
      state = are.state;
      book = are.book;
      begun = record {
        before = begun.before;
        bound = begun.bound;
        short = begun.short;
        behind = begun.behind ++ rest;
        split = ap (λ es. es ++ rest) begun.split ∙ append_assoc begun.before (entry.Start session begun.bound begun.short ∷ begun.behind) rest;
        others = filter-append (λ e. is_turn e && (actor_of e == session)) begun.behind rest ∙ (ap (λ es. es ++ turns_of session rest) begun.others ∙ none);
        is = begun.is;
        followed = begun.followed;
      };
      are = are.are;
    }

pub done_through : (begin : Begin) (sizes : Sizes) (log rest now : List Entry) (session : ℕ) (outcome : Outcome) → turns_of session rest ≡ [] → now ≡ log ++ rest → IsDone begin sizes log session outcome → IsDone begin sizes now session outcome
done_through begin sizes log rest now session outcome none is done = record {
  begun = done.begun;
  started = subst (λ log. IsStarted begin log session done.begun) (sym is) (started_through begin log rest session done.begun none done.started);
  gives = done.gives;
  over = done.over;
}

module _ (n : ℕ) (own : List (ℕ × List Event)) (seen found now : List Event) (same : now ≡ found) (front : IsPrefix seen found) (was : Tells number_in own seen) (tells : Tells number_in own found) (has : Contains (own_numbers own) n) where
  abbrev rest : List Event
  rest = front.0

  split : now ≡ seen ++ rest
  split = same ∙ sym front.1

  none_between : events_by n rest ≡ []
  none_between =
      nothing_more (events_by n seen) (events_by n rest)
      (sym (filter-append (λ e. number_in e == n) seen rest) ∙ (ap (events_by n) front.1 ∙ (own_events n own found found refl tells has ∙ sym (own_events n own seen seen refl was has))))

  no_entry_between : entries_of n (entries_in rest) ≡ []
  no_entry_between = entries_by n rest ∙ ap entries_in none_between

  pub no_turn_between : turns_of n (entries_in rest) ≡ []
  no_turn_between = turns_others n (entries_in rest) no_entry_between

  pub no_work_between : works_of n (entries_in rest) ≡ []
  no_work_between = works_others n (entries_in rest) no_entry_between

  pub entries_now : entries_in now ≡ entries_in seen ++ entries_in rest
  entries_now = ap entries_in split ∙ map-append (λ (e : Event). e.entry) seen rest

  pub done_on : (begin : Begin) (sizes : Sizes) (outcome : Outcome) → IsDone begin sizes (entries_in seen) n outcome → IsDone begin sizes (entries_in now) n outcome
  done_on begin sizes outcome done = done_through begin sizes (entries_in seen) (entries_in rest) (entries_in now) n outcome no_turn_between entries_now done

  pub counts_on : (origin : Ground) (o : Option (ℕ × ℕ)) → IfSome o (AreCountsAt origin (entries_in seen) n) → IfSome o (AreCountsAt origin (entries_in now) n)
  counts_on origin o are = subst (λ log. IfSome o (AreCountsAt origin log n)) (sym entries_now) (counts_through origin (entries_in seen) (entries_in rest) n o no_turn_between are)

  pub left_on : (origin : Ground) (o : Outcome) → LeavesBy origin (entries_in seen) n o → LeavesBy origin (entries_in now) n o
  left_on origin outcome.Nothing left = tt
  left_on origin (outcome.Answer r) left = tt
  left_on origin (outcome.Writes list present affected parcel) left = tt
  left_on origin (outcome.Load keys parcel) left = tt
  left_on origin (outcome.Commit parcel) left = tt
  left_on origin (outcome.Left groups) left =
      subst (λ log. LeavesBy origin log n (outcome.Left groups)) (sym entries_now) (leaves_on origin (entries_in seen) n groups (entries_in rest) no_work_between no_turn_between left)
  left_on origin outcome.Short left = tt

-- ---- what a section added

module _ (found now after : List Event) (own held own' : List (ℕ × List Event)) (same : now ≡ found) (is : held ≡ own) (one : (e : Event) → after ≡ found ++ e ∷ [] → own' ≡ added number_in e held) where
  -- an event more of the history is one more of the pass
  pub event_added : (e : Event) → after ≡ now ++ e ∷ [] → own' ≡ added number_in e own
  event_added e more = one e (more ∙ ap (λ es. es ++ e ∷ []) same) ∙ ap (added number_in e) is

  pub grown_added : (n : ℕ) (lent : Option Claim) → IsGrown n lent now after → IsAdded n lent own own'
  grown_added n lent grown = record { event = grown.event; by = grown.by; lends = grown.lends; works = grown.works; own = event_added grown.event grown.events }

  module _ (none : after ≡ found → own' ≡ held) where
    nothing_added : after ≡ now → own' ≡ own
    nothing_added still = none (still ∙ same) ∙ is

    pub turn_added : (mover : ℕ) (turned : Turned) → GrowsBy (64 + mover) turned now after → AddsTurn mover turned own own'
    turn_added mover (Lent claim) grows = (grown_added (64 + mover) (Some claim) grows.0, grows.1)
    turn_added mover Alone grows = grown_added (64 + mover) None grows
    turn_added mover Short grows = grown_added (64 + mover) None grows
    turn_added mover Idle still = nothing_added still

    module _ {M : Type 0} where
      pub claim_added : (mover : ℕ) (r : Result Turned M) → IfOk r (λ turned. GrowsBy (64 + mover) turned now after) → IfOk r (λ turned. AddsTurn mover turned own own')
      claim_added mover (Ok turned) ok = turn_added mover turned ok
      claim_added mover (Err m) ok = tt

      pub look_added : (mover : ℕ) (r : Option (Result Turned M)) → LooksBy mover r now after → LooksAt mover r own own'
      look_added mover None still = nothing_added still
      look_added mover (Some (Ok turned)) grows = turn_added mover turned grows
      look_added mover (Some (Err m)) still = nothing_added still

      pub start_added : (session : ℕ) (bound : Bound) (r : Result Started M) → IfOk r (λ started. (e : Event) × (after ≡ now ++ e ∷ []) × IsStartEntry session bound started.short e.entry × (e.lent ≡ None)) → OnErr r (after ≡ now)
          → MatchResult r (λ started. (e : Event) × (own' ≡ added number_in e own) × IsStartEntry session bound started.short e.entry × (e.lent ≡ None)) (λ _. own' ≡ own)
      start_added session bound (Ok s) ok err = (ok.0, event_added ok.0 ok.1, ok.2, ok.3)
      start_added session bound (Err m) ok err = nothing_added err

-- ---- what the log's end says of a mover

pub claim_last : {M : Type 0} (origin : Ground) (before new after : List Entry) (mover : ℕ) → after ≡ new → (r : Result Turned M) → IfOk r (λ turned. BegunBy origin (actor.Mover mover) turned before new)
    → IfOk r (λ turned. StandsLast origin mover turned after)
claim_last origin before new after mover same (Ok turned) ok = last_stands origin before after mover turned (subst (BegunBy origin (actor.Mover mover) turned before) (sym same) ok)
claim_last origin before new after mover same (Err m) ok = tt
