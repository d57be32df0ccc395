-- The outcome of a statement that was started, by a desk or by the turns of a REORGANIZE.
use Rattle.std.proofs.Common.{◌≡◌, ℕ, List, sym, ap, subst, ◌∙◌, refl, Bool}
use Rattle.std.specs.Prelude.{Some, IfSome, IsSome}
use Rattle.cs_types.specs.declared.Schema.{Schema}
use Rattle.cs_model.specs.declared.entry.Bound.{Bound}
use Rattle.cs_model.specs.declared.entry.Entry.{Entry}
use Rattle.cs_model.specs.declared.work.Actor.{Actor}
use Rattle.cs_model.specs.State.{begin_of}
use Rattle.group_book.specs.Commits.{Sizes}
use Rattle.group_log.specs.Counted.{AreCountsAt}
use Rattle.group_log.specs.Followed.{ground_of, Ground}
use Rattle.history_gate.specs.Passes.{PassState}
use Rattle.log_laws.specs.Started.{Begun, IsStarted}
use Rattle.log_laws.proofs.StartedOn.{started_through}
use Rattle.statement_core.specs.Awaiting.{Awaits}
use Rattle.statement_core.specs.declared.started.Outcome.{Outcome}
use Rattle.statement_core.specs.declared.started.Outcome.TheVariants as outcome
use Rattle.statement_core.specs.declared.started.Started.{Started}
use Rattle.statement_core.specs.Begun.{Hands, MayWork}
use Rattle.statement_core.specs.Cores.{IsDone}
use Rattle.statement_core.specs.Counted.{outcome_counts, AreCountsOf}
use Rattle.statement_core.specs.Outcomes.{GivesOn, IsOfDesk}
use Rattle.statement_core.specs.Reorganizes.{reorganizes, LeavesBy, IsOver}
use Rattle.statement_core.specs.Terms.{sizes_of}
use Rattle.statement_core.proofs.Counting.{start_counts}
use Rattle.session_pool.specs.declared.event.Event.{Event}
use Rattle.session_pool.specs.Events.{entries_in}
use Rattle.session_pool.specs.Works.{HasWorked}

-- a desk's outcome tells of nothing that was left
pub desk_left : (origin : Ground) (log : List Entry) (session : ℕ) (o : Outcome) → IsOfDesk o → LeavesBy origin log session o
desk_left origin log session outcome.Nothing of = tt
desk_left origin log session (outcome.Answer r) of = tt
desk_left origin log session (outcome.Writes list present affected parcel) of = tt
desk_left origin log session (outcome.Load keys parcel) of = tt
desk_left origin log session (outcome.Commit parcel) of = tt
desk_left origin log session (outcome.Left groups) of = absurd of
desk_left origin log session outcome.Short of = tt

-- one that is not Nothing ends its statement
pub some_over : (b : Bound) (o : Outcome) → (o ≡ outcome.Nothing → ⊥) → IsOver b o
some_over b outcome.Nothing some = absurd (some refl)
some_over b (outcome.Answer r) some = tt
some_over b (outcome.Writes list present affected parcel) some = tt
some_over b (outcome.Load keys parcel) some = tt
some_over b (outcome.Commit parcel) some = tt
some_over b (outcome.Left groups) some = tt
some_over b outcome.Short some = tt

module _ (schema : Schema) (sizes : Sizes) (session : ℕ) (started : Started) where
  -- its counts are those of its Start
  pub desk_counts : (log : List Entry) → Awaits sizes (begin_of schema) log session started → (o : Outcome) → ((begun : Begun) → Hands begun started → MayWork begun → GivesOn (sizes_of started.terms.value) begun o) → AreCountsOf started o
      → IfSome (outcome_counts o) (AreCountsAt (ground_of schema sizes) log session)
  desk_counts log waits o gives counted = start_counts (ground_of schema sizes) log session started (sizes_of started.terms.value) waits.begun waits.hands waits.counts o (gives waits.begun waits.hands waits.works) counted

  -- a REORGANIZE is done after its works
  module _ (pass after : PassState Event) (waits : Awaits sizes (begin_of schema) (entries_in pass.seen) session started) (works : HasWorked session pass after) where
    still : IsStarted (begin_of schema) (entries_in after.seen) session waits.begun
    still = subst (λ log. IsStarted (begin_of schema) log session waits.begun) (sym works.seen) (started_through (begin_of schema) (entries_in pass.seen) works.since session waits.begun works.none waits.is)

    pub done_left : (all : Bool) (groups : List (ℕ × Actor)) → reorganizes started.bound.value ≡ Some all → IsDone (begin_of schema) sizes (entries_in after.seen) session (outcome.Left groups)
    done_left all groups is =
        let hands = waits.hands in
        let some : reorganizes (let begun = waits.begun in begun.bound) ≡ Some all = ap reorganizes (sym hands.bound) ∙ is in
        record { begun = waits.begun; started = still; gives = subst IsSome (sym some) refl; over = tt }

    pub done_short : IsDone (begin_of schema) sizes (entries_in after.seen) session outcome.Short
    done_short = record { begun = waits.begun; started = still; gives = tt; over = tt }
