-- The log of a pool that has come to rest is a history of its script.
use Rattle.std.proofs.Common.{◌≡◌, ◌≤◌, ◌+◌, ◌==◌, ◌⊎◌, inl, inr, ⊎_elim, ℕ, Bool, true, false, List, [], ◌∷◌, ◌++◌, refl, sym, ap, ◌∙◌, subst, cond, arith, ne_eqb, length, All, Contains}
use mathlib.Core.Logic.{dite}
use native.Mathlib.Decide.{dec_le, dec_lt}
use Rattle.std.specs.Prelude.{◌&&◌, None}
use Rattle.std.proofs.lemmas.List.Elements.{All-nil, All-cons, All-head, All-tail}
use Rattle.cs_types.specs.declared.Schema.{Schema}
use Rattle.cs_model.specs.Actors.{actor_of, entries_of, is_turn, number_of, turns_of}
use Rattle.cs_model.specs.declared.entry.Entry.{Entry}
use Rattle.cs_model.specs.declared.entry.Entry.TheVariants.{Start, Finish, End, Mover}
use Rattle.cs_model.specs.declared.work.Actor.{Actor}
use Rattle.cs_model.specs.declared.work.Actor.TheVariants as actor
use Rattle.cs_model.specs.State.{State}
use Rattle.group_book.specs.Book.{Book}
use Rattle.group_book.specs.Commits.{Sizes}
use Rattle.group_directory.specs.Installing.{held_by}
use Rattle.group_log.specs.Counted.{IsCounted}
use Rattle.group_log.specs.Followed.{ground_of, Followed}
use Rattle.group_log.specs.Reorganizing.{IsReorganized}
use Rattle.group_view.specs.declared.claim.Claim.{Claim}
use Rattle.script_reader.specs.declared.script.Script.{Script}
use Rattle.script_reader.specs.declared.script.Step.{Step}
use Rattle.script_turns.specs.Turns.{texts_of, AreTurns}
use Rattle.statement_core.specs.CoreValue.{CoreValue}
use Rattle.statement_core.specs.Turns.{HasAllClaims}
use Rattle.session_pool.specs.declared.event.Event.{Event}
use Rattle.session_pool.specs.Events.{entries_in, events_by, held_in, number_in, IsNumbered, AreLent}
use Rattle.session_pool.specs.Pools.{IsPool}
use Rattle.session_pool.specs.Rests.{IsScriptOf, AreAtRest}
use Rattle.session_pool.specs.Runs.{IsByMover, IsTurnAmong, IsSessionRun, IsFreeAt, IsLast, IsRunOf, IsFrontRunOf}
use Rattle.session_pool.proofs.Claims.{lent_free}
use Rattle.session_pool.proofs.Events.{entries_by}
use Rattle.session_pool.proofs.Statements.{some_turns}

-- ---- claims

-- an actor has a number of its own, or holds nothing
numbered_or_not : (by : Actor) → IsNumbered by ⊎ (IsNumbered by → ⊥)
numbered_or_not (actor.Session s) = dite (dec_lt s 65) inl inr
numbered_or_not (actor.Mover m) = dite (dec_le 1 m) inl inr

-- where no number's events leave a claim, no actor holds one
free_claims : (claims : List (Actor × Claim)) (events : List Event) → AreLent claims events → ((n : ℕ) → held_in (events_by n events) ≡ None) → (by : Actor) → held_by by claims ≡ None
free_claims claims events are free by = ⊎_elim
    (λ (there : IsNumbered by). lent_free (held_by by claims) (held_in (events_by (number_of by) events)) (are.lent by there) (free (number_of by)))
    (λ (none : IsNumbered by → ⊥). are.others by none) (numbered_or_not by)

-- ---- movers

by_movers : (movers : ℕ) (entry : Entry) → IsByMover 8 entry → actor_of entry ≤ 64 + movers → IsByMover movers entry
by_movers movers (Start s b short) by within = tt
by_movers movers (Finish s r) by within = tt
by_movers movers (End s) by within = tt
by_movers movers (Mover (actor.Session s) work) by within = tt
by_movers movers (Mover (actor.Mover m) work) by within = (by.0, omega (arith, within))

all_by_movers : (movers : ℕ) (events : List Event) → All (IsByMover 8) (entries_in events) → All (λ event. number_in event ≤ 64 + movers) events → All (IsByMover movers) (entries_in events)
all_by_movers movers [] by within = All-nil (IsByMover movers)
all_by_movers movers (e ∷ events) by within = All-cons (IsByMover movers) e.entry (entries_in events)
    (by_movers movers e.entry (All-head (IsByMover 8) e.entry (entries_in events) by) (All-head (λ event. number_in event ≤ 64 + movers) e events within))
    (all_by_movers movers events (All-tail (IsByMover 8) e.entry (entries_in events) by) (All-tail (λ event. number_in event ≤ 64 + movers) e events within))

-- ---- turns

-- a session's turns are among the entries with its number
turns_are : (session : ℕ) (log : List Entry) → turns_of session (entries_of session log) ≡ turns_of session log
turns_are session [] = refl
turns_are session (e ∷ log) = at (actor_of e == session) refl (turns_are session log)
  where
    more : Bool → List Entry → List Entry
    more t turns = cond (is_turn e && t) (e ∷ turns) turns

    none : (u : Bool) (turns : List Entry) → cond (u && false) (e ∷ turns) turns ≡ turns
    none true turns = refl
    none false turns = refl

    at : (t : Bool) → (actor_of e == session) ≡ t → turns_of session (entries_of session log) ≡ turns_of session log
        → turns_of session (cond t (e ∷ entries_of session log) (entries_of session log)) ≡ turns_of session (e ∷ log)
    at true is rest = λ i. more (actor_of e == session) (rest i)
    at false is rest = rest ∙ (sym (none (is_turn e) (turns_of session log)) ∙ ap (λ t. more t (turns_of session log)) (sym is))

-- a log in which a session has its turns, or the first of them
abbrev HasTurns : List Step → Bool → ℕ → List Entry → Type 0
HasTurns lines true session log = AreTurns session (length (texts_of session lines)) (turns_of session log)
HasTurns lines false session log = (rest : List Entry) × AreTurns session (length (texts_of session lines)) (turns_of session log ++ rest)

its_turns : (lines : List Step) (done : Bool) (session : ℕ) (log : List Entry) → IsSessionRun session lines done (entries_of session log) → HasTurns lines done session log
its_turns lines true session log run = subst (AreTurns session (length (texts_of session lines))) (turns_are session log) run
its_turns lines false session log run = (run.0, subst (λ ts. AreTurns session (length (texts_of session lines)) (ts ++ run.0)) (turns_are session log) run.1)

-- another session has no turn
none_of : (sessions : List ℕ) (session : ℕ) (log : List Entry) → (Contains sessions session → ⊥) → All (IsTurnAmong sessions) log → turns_of session log ≡ []
none_of sessions session [] has_not among = refl
none_of sessions session (e ∷ log) has_not among =
    ap (λ b. cond b (e ∷ turns_of session log) (turns_of session log)) (no_turn e (All-head (IsTurnAmong sessions) e log among)) ∙ none_of sessions session log has_not (All-tail (IsTurnAmong sessions) e log among)
  where
    apart : (s : ℕ) → Contains sessions s → (s == session) ≡ false
    apart s has = ne_eqb s session (λ e. has_not (subst (Contains sessions) e has))

    no_turn : (e : Entry) → IsTurnAmong sessions e → (is_turn e && (actor_of e == session)) ≡ false
    no_turn (Start s b short) among = apart s among
    no_turn (Finish s r) among = apart s among
    no_turn (End s) among = apart s among
    no_turn (Mover by work) among = refl

-- before its first event, each session has a prefix of its turns
pub rests_first : (sessions : List ℕ) (lines : List Step) (movers : ℕ) → AreAtRest sessions lines movers false []
rests_first sessions lines movers = record {
  free = λ n. refl;
  numbers = λ k d lt. absurd (omega (arith, lt));
  runs = λ session has. some_turns session (length (texts_of session lines));
}

-- ---- the log

module _ (sizes : Sizes) (script : Script) (movers : ℕ) (core : CoreValue) (events : List Event)
    (pool : IsPool script.schema sizes script.sessions script.lines core events) (log : core.log ≡ entries_in events)
    (followed : (m : State) × (book : Book) × Followed (ground_of script.schema sizes) core.log m book) (counted : IsCounted (ground_of script.schema sizes) core.log) (reorganized : IsReorganized (ground_of script.schema sizes) core.log)
    (all_claims : HasAllClaims (ground_of script.schema sizes) core.log core.claims) where
  -- a session's turns are what its events are
  its_run : (done : Bool) (session : ℕ) → AreAtRest script.sessions script.lines movers done events → Contains script.sessions session → HasTurns script.lines done session core.log
  its_run done session rests has =
      let by : entries_in (events_by session events) ≡ entries_of session core.log = sym (ap (entries_of session) log ∙ entries_by session events) in
      its_turns script.lines done session core.log (subst (IsSessionRun session script.lines done) by (rests.runs session has))

  no_turns : (session : ℕ) → (Contains script.sessions session → ⊥) → turns_of session core.log ≡ []
  no_turns session has_not = none_of script.sessions session core.log has_not pool.turns

  only_movers : (done : Bool) → AreAtRest script.sessions script.lines movers done events → All (IsByMover movers) core.log
  only_movers done rests = subst (All (IsByMover movers)) (sym log) (all_by_movers movers events (subst (All (IsByMover 8)) log pool.movers) rests.numbers)

  free_at : (done : Bool) → AreAtRest script.sessions script.lines movers done events → IsFreeAt (ground_of script.schema sizes) core.log
  free_at done rests = record { moment = all_claims.moment; holds = λ by. all_claims.holds by (free_claims core.claims events pool.claims rests.free by) }

  pub whole_run : AreAtRest script.sessions script.lines movers true events → (1 ≤ movers → IsLast (ground_of script.schema sizes) 1 (entries_in events)) → IsRunOf (ground_of script.schema sizes) script movers core.log
  whole_run rests last = record {
    history = record {
      state = followed.0;
      book = followed.1;
      followed = followed.2;
      counted = counted;
      reorganized = reorganized;
      turns = record { each = λ session has. its_run true session rests has; none = no_turns; meant = pool.meant };
    };
    movers_are = only_movers true rests;
    free = free_at true rests;
    last = λ some. subst (IsLast (ground_of script.schema sizes) 1) (sym log) (last some);
  }

  pub front_run : AreAtRest script.sessions script.lines movers false events → IsFrontRunOf (ground_of script.schema sizes) script movers core.log
  front_run rests = record {
    history = record {
      state = followed.0;
      book = followed.1;
      followed = followed.2;
      counted = counted;
      reorganized = reorganized;
      turns = record { each = λ session has. its_run false session rests has; none = no_turns; meant = pool.meant };
    };
    movers_are = only_movers false rests;
    free = free_at false rests;
  }

-- the same for a core that was made with what the script says
module _ (schema : Schema) (sizes : Sizes) (sessions : List ℕ) (lines : List Step) (script : Script) (of : IsScriptOf schema sessions lines script) (core : CoreValue) (events : List Event)
    (pool : IsPool schema sizes sessions lines core events) (log : core.log ≡ entries_in events)
    (followed : (m : State) × (book : Book) × Followed (ground_of core.schema core.sizes) core.log m book) (counted : IsCounted (ground_of core.schema core.sizes) core.log) (reorganized : IsReorganized (ground_of core.schema core.sizes) core.log)
    (all_claims : HasAllClaims (ground_of core.schema core.sizes) core.log core.claims) where
  ground : ground_of core.schema core.sizes ≡ ground_of script.schema sizes
  ground = λ i. ground_of ((pool.schema_is ∙ of.schema_is) i) (pool.sizes_are i)

  same_pool : IsPool script.schema sizes script.sessions script.lines core events
  same_pool = subst (λ (z : Schema × List ℕ × List Step). IsPool z.0 sizes z.1 z.2 core events) (λ i. (of.schema_is i, of.sessions_are i, of.lines_are i)) pool

  same_rest : (movers : ℕ) (done : Bool) → AreAtRest sessions lines movers done events → AreAtRest script.sessions script.lines movers done events
  same_rest movers done rests = subst (λ (z : List ℕ × List Step). AreAtRest z.0 z.1 movers done events) (λ i. (of.sessions_are i, of.lines_are i)) rests

  same_followed : (m : State) × (book : Book) × Followed (ground_of script.schema sizes) core.log m book
  same_followed = subst (λ origin. (m : State) × (book : Book) × Followed origin core.log m book) ground followed

  pub whole_run_of : (movers : ℕ) → AreAtRest sessions lines movers true events → (1 ≤ movers → IsLast (ground_of schema sizes) 1 (entries_in events)) → IsRunOf (ground_of schema sizes) script movers core.log
  whole_run_of movers rests last =
      subst (λ s. IsRunOf (ground_of s sizes) script movers core.log) (sym of.schema_is)
      (whole_run sizes script movers core events same_pool log same_followed (subst (λ origin. IsCounted origin core.log) ground counted) (subst (λ origin. IsReorganized origin core.log) ground reorganized) (subst (λ origin. HasAllClaims origin core.log core.claims) ground all_claims) (same_rest movers true rests)
      (λ some. subst (λ s. IsLast (ground_of s sizes) 1 (entries_in events)) of.schema_is (last some)))

  pub front_run_of : (movers : ℕ) → AreAtRest sessions lines movers false events → IsFrontRunOf (ground_of schema sizes) script movers core.log
  front_run_of movers rests =
      subst (λ s. IsFrontRunOf (ground_of s sizes) script movers core.log) (sym of.schema_is)
      (front_run sizes script movers core events same_pool log same_followed (subst (λ origin. IsCounted origin core.log) ground counted) (subst (λ origin. IsReorganized origin core.log) ground reorganized) (subst (λ origin. HasAllClaims origin core.log core.claims) ground all_claims) (same_rest movers false rests))
