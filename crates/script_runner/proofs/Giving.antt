-- What a statement gives by its work and its moves, and its Finish after them.
use Rattle.std.proofs.Common.{◌≡◌, ℕ, List, [], ◌∷◌, ◌++◌, refl, inl, sym, ap, subst, ◌∙◌, append_assoc, Bool, false}
use Rattle.std.specs.Prelude.{◌==◌, ◌&&◌, All, Option, None, Some, IsSome}
use Rattle.std.proofs.lemmas.List.{append-nil}
use Rattle.std.proofs.lemmas.List.Elements.{All-head, All-tail}
use Rattle.cs_model.specs.declared.entry.Bound.{Bound}
use Rattle.cs_model.specs.declared.entry.Entry.{Entry}
use Rattle.cs_model.specs.declared.entry.Entry.TheVariants.{Start, Finish, End, Mover}
use Rattle.cs_model.specs.declared.entry.Reply.{Reply}
use Rattle.cs_model.specs.declared.entry.Reply.TheVariants as reply
use Rattle.cs_model.specs.declared.work.Actor.{Actor}
use Rattle.cs_model.specs.Actors.{actor_of, is_turn}
use Rattle.cs_model.specs.State.{Begin}
use Rattle.group_book.specs.Commits.{Sizes}
use Rattle.group_log.specs.Followed.{Ground}
use Rattle.log_laws.specs.Started.{Begun, IsStarted}
use Rattle.log_laws.proofs.StartedOn.{started_on}
use Rattle.script_runner.specs.Moves.{GivesBy, Moved}
use Rattle.script_runner.specs.Schedule.{IsFinishing, IsOwnWork, TellsOf}
use Rattle.script_runner.proofs.Moving.{Goes, moved_none, short_none}
use Rattle.statement_core.specs.Awaiting.{Awaits}
use Rattle.statement_core.specs.declared.started.Outcome.{Outcome}
use Rattle.statement_core.specs.declared.started.Outcome.TheVariants as outcome
use Rattle.statement_core.specs.declared.started.Started.{Started}
use Rattle.statement_core.specs.Begun.{Hands, MayWork}
use Rattle.statement_core.specs.Cores.{IsDone}
use Rattle.statement_core.specs.Outcomes.{GivesOn, IsOfDesk}
use Rattle.statement_core.specs.Reorganizes.{reorganizes, LeavesBy, IsNoneLeft, IsOver, IsToldBy}
use Rattle.statement_core.specs.Terms.{sizes_of}

-- ---- its work

over_of : (b : Bound) (o : Outcome) → (o ≡ outcome.Nothing → reorganizes b ≡ None) → IsOver b o
over_of b outcome.Nothing none = none refl
over_of b (outcome.Answer r) none = tt
over_of b (outcome.Writes list present affected parcel) none = tt
over_of b (outcome.Load keys parcel) none = tt
over_of b (outcome.Commit parcel) none = tt
over_of b (outcome.Left groups) none = tt
over_of b outcome.Short none = tt

gives_none : (origin : Ground) (log : List Entry) (session : ℕ) (o : Outcome) → IsOfDesk o → GivesBy origin log session o []
gives_none origin log session outcome.Nothing of = refl
gives_none origin log session (outcome.Answer r) of = refl
gives_none origin log session (outcome.Writes list present affected parcel) of = refl
gives_none origin log session (outcome.Load keys parcel) of = refl
gives_none origin log session (outcome.Commit parcel) of = refl
gives_none origin log session (outcome.Left groups) of = absurd of
gives_none origin log session outcome.Short of = short_none origin log session

-- a desk's work alone makes no moves
pub given_alone : (origin : Ground) (log : List Entry) (session : ℕ) (o : Outcome) → IsOfDesk o → Moved session log log (GivesBy origin log session o)
given_alone origin log session o of = moved_none session log log (GivesBy origin log session o) refl (gives_none origin log session o of)

module _ (sizes : Sizes) (begin : Begin) (log : List Entry) (session : ℕ) (started : Started) (w : Awaits sizes begin log session started) where
  bound_begun : (all : Option Bool) → reorganizes started.bound.value ≡ all → reorganizes w.begun.bound ≡ all
  bound_begun all is = let same = w.hands.bound in sym (ap reorganizes same) ∙ is

  -- it ends its statement
  pub done_alone : (o : Outcome) → ((begun : Begun) → Hands begun started → MayWork begun → GivesOn (sizes_of started.terms.value) begun o) → (o ≡ outcome.Nothing → reorganizes started.bound.value ≡ None)
      → IsDone begin sizes log session o
  done_alone o g none = record {
    begun = w.begun;
    started = w.is;
    gives = subst (λ z. GivesOn z w.begun o) w.sized (g w.begun w.hands w.works);
    over = over_of w.begun.bound o (λ nothing. bound_begun None (none nothing));
  }

  -- ---- its moves

  work_other : (e : Entry) → IsOwnWork session e → (is_turn e && (actor_of e == session)) ≡ false
  work_other (Start s b short) own = absurd own
  work_other (Finish s r) own = absurd own
  work_other (End s) own = absurd own
  work_other (Mover by work) own = refl

  started_moves : (before moves : List Entry) → All (IsOwnWork session) moves → IsStarted begin before session w.begun → IsStarted begin (before ++ moves) session w.begun
  started_moves before [] own is = subst (λ es. IsStarted begin es session w.begun) (sym (append-nil before)) is
  started_moves before (e ∷ moves) own is =
      subst (λ es. IsStarted begin es session w.begun) (append_assoc before (e ∷ []) moves)
      (started_moves (before ++ e ∷ []) moves (All-tail (IsOwnWork session) e moves own)
      (started_on begin before e session w.begun (work_other e (All-head (IsOwnWork session) e moves own)) is))

  module _ (new : List Entry) (P : List Entry → Type 0) (x : Moved session log new P) where
    begun_still : IsStarted begin new session w.begun
    begun_still = subst (λ es. IsStarted begin es session w.begun) (sym x.is) (started_moves log x.moves x.own w.is)

    pub done_left : (all : Bool) (groups : List (ℕ × Actor)) → reorganizes started.bound.value ≡ Some all → IsDone begin sizes new session (outcome.Left groups)
    done_left all groups is = record { begun = w.begun; started = begun_still; gives = subst (λ o. IsSome o) (sym (bound_begun (Some all) is)) refl; over = tt }

    pub done_short : IsDone begin sizes new session outcome.Short
    done_short = record { begun = w.begun; started = begun_still; gives = tt; over = tt }

-- ---- its Finish

module _ (origin : Ground) (before : List Entry) (session : ℕ) where
  pub left_by : (now : Ground) (log : List Entry) (o : Outcome) → now ≡ origin → Moved session before log (GivesBy origin before session o) → LeavesBy now log session o
  left_by now log outcome.Nothing same x = tt
  left_by now log (outcome.Answer r) same x = tt
  left_by now log (outcome.Writes list present affected parcel) same x = tt
  left_by now log (outcome.Load keys parcel) same x = tt
  left_by now log (outcome.Commit parcel) same x = tt
  left_by now log (outcome.Left groups) same x =
      let both = x.holds in subst (λ g. LeavesBy g log session (outcome.Left groups)) (sym same) (subst (λ es. LeavesBy origin es session (outcome.Left groups)) (sym x.is) both.1)
  left_by now log outcome.Short same x = tt

  pub none_tells : (moves : List Entry) (r : Reply) → moves ≡ [] → IsNoneLeft r → TellsOf origin before session moves r
  none_tells moves reply.Done none told = none
  none_tells moves (reply.Affected count) none told = none
  none_tells moves (reply.Rows rows segments) none told = none
  none_tells moves (reply.Groups lines buffered) none told = none
  none_tells moves (reply.Segments lines) none told = none
  none_tells moves (reply.Left groups) none told = absurd told
  none_tells moves (reply.Refused refusal) none told = inl none

  tells_by : (moves : List Entry) (o : Outcome) (r : Reply) → GivesBy origin before session o moves → IsToldBy o r → TellsOf origin before session moves r
  tells_by moves outcome.Nothing r x told = none_tells moves r x told
  tells_by moves (outcome.Answer given) r x told = none_tells moves r x told
  tells_by moves (outcome.Writes list present affected parcel) r x told = none_tells moves r x told
  tells_by moves (outcome.Load keys parcel) r x told = none_tells moves r x told
  tells_by moves (outcome.Commit parcel) r x told = none_tells moves r x told
  tells_by moves (outcome.Left groups) r x told = subst (TellsOf origin before session moves) (sym told) x.0
  tells_by moves outcome.Short r x told = subst (TellsOf origin before session moves) (sym told) x

  pub finishing : (log new : List Entry) (o : Outcome) → Moved session before log (GivesBy origin before session o) → (r : Reply) × (new ≡ log ++ Finish session r ∷ []) × IsToldBy o r
      → Goes before new (IsFinishing origin before session)
  finishing log new o x y = (
    x.moves ++ Finish session y.0 ∷ [],
    y.1 ∙ ap (λ es. es ++ Finish session y.0 ∷ []) x.is ∙ append_assoc before x.moves (Finish session y.0 ∷ []),
    (x.moves, Finish session y.0, refl, record { own = x.own; told = tells_by x.moves o y.0 x.holds y.2 }, refl),
  )
