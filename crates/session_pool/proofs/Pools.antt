-- What the type of a core after a gate keeps, one event more, and the events of sessions.
use Rattle.std.proofs.Common.{◌≡◌, ℕ, ◌<◌, List, [], ◌∷◌, ◌++◌, length, slice_get, refl, sym, ap, subst, ◌∙◌, Bool, All, Contains, Result, Ok, Err, IfOk, OnErr}
use Rattle.std.specs.Prelude.{None, Some}
use Rattle.std.proofs.lemmas.List.Elements.{All-contains, All-push}
use Rattle.cs_types.specs.declared.Schema.{Schema}
use Rattle.cs_model.specs.declared.entry.Bound.{Bound}
use Rattle.cs_model.specs.declared.entry.Entry.{Entry}
use Rattle.cs_model.specs.declared.entry.Entry.TheVariants.{Start, Finish, End, Mover}
use Rattle.cs_model.specs.declared.entry.Reply.{Reply}
use Rattle.cs_model.specs.declared.work.Actor.{Actor}
use Rattle.cs_model.specs.declared.work.Actor.TheVariants as actor
use Rattle.cs_model.specs.declared.work.Work.{Work}
use Rattle.cs_model.specs.Actors.{actor_of, number_of}
use Rattle.cs_model.specs.State.{begin_of}
use Rattle.cs_model.specs.Text.{statements_of}
use Rattle.group_book.specs.Commits.{Sizes}
use Rattle.group_directory.specs.Installing.{held_by}
use Rattle.group_log.specs.Followed.{ground_of, Ground}
use Rattle.group_view.specs.declared.claim.Claim.{Claim}
use Rattle.log_laws.specs.Started.{Begun, IsStarted, IsStartEntry}
use Rattle.script_reader.specs.declared.script.Step.{Step}
use Rattle.statement_core.specs.Awaiting.{Awaits}
use Rattle.script_turns.specs.Turns.{texts_of, IsBound, IsMeant, AreMeant}
use Rattle.script_turns.proofs.Entries.{start_of_does}
use Rattle.script_turns.proofs.Meanings.{meant_append}
use Rattle.statement_core.specs.declared.started.Started.{Started}
use Rattle.statement_core.specs.Begun.{Hands, MayWork}
use Rattle.statement_core.specs.CoreValue.{CoreValue}
use Rattle.statement_core.specs.Counted.{HasStartCounts}
use Rattle.statement_core.specs.Reorganizes.{reorganizes, HasLedger}
use Rattle.statement_core.specs.Terms.{sizes_of, AreTerms}
use Rattle.session_pool.specs.declared.event.Event.{Event}
use Rattle.session_pool.specs.declared.event.Note.{Note}
use Rattle.session_pool.specs.Events.{events_by, events_of, held_in, IsNumbered, AreLent}
use Rattle.session_pool.specs.Pools.{IsOneOf, IsPool, AreNoted}
use Rattle.session_pool.specs.Runs.{IsByMover, IsTurnAmong}
use Rattle.session_pool.proofs.Claims.{lent_alone, lent_free}
use Rattle.session_pool.proofs.Events.{event_of, before_more, before_noted, events_more, events_noted}

-- ---- what a Start stands on

module _ {M : Type 0} (schema : Schema) (sizes : Sizes) (new : CoreValue) (log : List Entry) (session : ℕ) (of_schema : new.schema ≡ schema) (of_sizes : new.sizes ≡ sizes) (is : new.log ≡ log) where
  pub start_awaits : (r : Result Started M) → IfOk r (λ started. AreTerms started.terms.value × (sizes_of started.terms.value ≡ new.sizes))
      → IfOk r (λ started. (begun : Begun) × Hands begun started × MayWork begun × IsStarted (begin_of new.schema) new.log session begun) → IfOk r (HasStartCounts (ground_of new.schema new.sizes) new.log session)
      → IfOk r (λ started. HasLedger (ground_of new.schema new.sizes) new.log session (reorganizes started.bound.value) started.ledger)
      → IfOk r (Awaits sizes (begin_of schema) log session)
  start_awaits (Err m) terms started counts ledger = tt
  start_awaits (Ok s) terms started counts ledger =
      subst (λ (z : Schema × Sizes × List Entry). Awaits z.1 (begin_of z.0) z.2 session s) (λ i. (of_schema i, of_sizes i, is i))
      (record { terms = terms.0; sized = terms.1; begun = started.0; hands = started.1; works = started.2; is = started.3; counts = counts; ledger = ledger })

-- ---- an entry more

-- the core is as before, but for this entry and the claims
pub record Adds (old new : CoreValue) (e : Entry) : Type 0 where
  pub log : new.log ≡ old.log ++ e ∷ []
  pub schema : new.schema ≡ old.schema
  pub sizes : new.sizes ≡ old.sizes
  pub sessions : new.sessions ≡ old.sessions

meant_start : (schema : Schema) (lines : List Step) (log : List Entry) (session : ℕ) (bound : Bound) (short : Bool) (e : Entry) → IsStartEntry session bound short e
    → (text : List ℕ) × (slice_get (texts_of session lines) (statements_of session log) ≡ Some text) × IsBound schema text bound → IsMeant (begin_of schema) lines log e
meant_start schema lines log session bound short (Start s b why) is meant = (
  meant.0,
  subst (λ n. slice_get (texts_of n lines) (statements_of n log) ≡ Some meant.0) (sym is.0) meant.1,
  λ m l. subst (IsBound schema meant.0) (sym is.1) meant.2,
)
meant_start schema lines log session bound short (Finish s r) is meant = absurd is
meant_start schema lines log session bound short (End s) is meant = absurd is
meant_start schema lines log session bound short (Mover by w) is meant = absurd is

start_among : (sessions : List ℕ) (session : ℕ) (bound : Bound) (short : Bool) (e : Entry) → IsStartEntry session bound short e → Contains sessions session → IsTurnAmong sessions e × IsByMover 8 e
start_among sessions session bound short (Start s b why) is has = (subst (Contains sessions) (sym is.0) has, tt)
start_among sessions session bound short (Finish s r) is has = absurd is
start_among sessions session bound short (End s) is has = absurd is
start_among sessions session bound short (Mover by w) is has = absurd is

-- what the type keeps
abbrev pub Keeps : Schema → Sizes → List ℕ → List Step → List Note → CoreValue → Type 0
Keeps schema sizes sessions lines notes core = AreNoted notes core × IsPool schema sizes sessions lines core (events_of notes core.log)

module _ (schema : Schema) (sizes : Sizes) (sessions : List ℕ) (lines : List Step) (notes : List Note) (old : CoreValue) (keeps : Keeps schema sizes sessions lines notes old) where
  pool_next : (new : CoreValue) (e : Entry) (events : List Event) → Adds old new e → AreLent new.claims events → IsTurnAmong sessions e → IsByMover 8 e → IsMeant (begin_of schema) lines old.log e → IsPool schema sizes sessions lines new events
  pool_next new e events adds lent among by meant =
      let pool = keeps.1 in record {
        schema_is = adds.schema ∙ pool.schema_is;
        sizes_are = adds.sizes ∙ pool.sizes_are;
        sessions_are = adds.sessions ∙ pool.sessions_are;
        numbers = pool.numbers;
        claims = lent;
        turns = subst (All (IsTurnAmong sessions)) (sym adds.log) (All-push (IsTurnAmong sessions) old.log e pool.turns among);
        movers = subst (All (IsByMover 8)) (sym adds.log) (All-push (IsByMover 8) old.log e pool.movers by);
        meant = subst (AreMeant (begin_of schema) lines []) (sym adds.log) (meant_append (begin_of schema) lines [] old.log (e ∷ []) pool.meant (meant, tt));
      }

  events_next : (new : CoreValue) (e : Entry) → Adds old new e → events_of notes new.log ≡ events_of notes old.log ++ event_of e None ∷ []
  events_next new e adds = events_more notes old.log new.log e adds.log keeps.0

  -- without a note, where the movers hold what the events lent to them
  pub keeps_plain : (new : CoreValue) (e : Entry) → Adds old new e → AreLent new.claims (events_of notes old.log ++ event_of e None ∷ []) → IsTurnAmong sessions e → IsByMover 8 e → IsMeant (begin_of schema) lines old.log e → Keeps schema sizes sessions lines notes new
  keeps_plain new e adds lent among by meant = (
    before_more notes old.log new.log e adds.log keeps.0,
    pool_next new e (events_of notes new.log) adds (subst (AreLent new.claims) (sym (events_next new e adds)) lent) among by meant,
  )

  -- with a note
  pub keeps_noted : (new : CoreValue) (e : Entry) (note : Note) → note.place ≡ length old.log → Adds old new e → AreLent new.claims (events_of notes old.log ++ event_of e (Some note.claim.value) ∷ []) → IsTurnAmong sessions e → IsByMover 8 e
      → IsMeant (begin_of schema) lines old.log e → Keeps schema sizes sessions lines (notes ++ note ∷ []) new
  keeps_noted new e note at adds lent among by meant = (
    before_noted notes note old.log new.log e adds.log at keeps.0,
    pool_next new e (events_of (notes ++ note ∷ []) new.log) adds (subst (AreLent new.claims) (sym (events_noted notes note old.log new.log e adds.log at keeps.0)) lent) among by meant,
  )

  -- nothing has changed
  pub keeps_same : (new : CoreValue) → new.log ≡ old.log → new.schema ≡ old.schema → new.sizes ≡ old.sizes → new.sessions ≡ old.sessions → new.claims ≡ old.claims → Keeps schema sizes sessions lines notes new
  keeps_same new log schema_same sizes_same sessions_same claims = let pool = keeps.1 in (
    subst (λ (l : List Entry). All (λ (note : Note). note.place < length l) notes) (sym log) keeps.0,
    record {
      schema_is = schema_same ∙ pool.schema_is;
      sizes_are = sizes_same ∙ pool.sizes_are;
      sessions_are = sessions_same ∙ pool.sessions_are;
      numbers = pool.numbers;
      claims = subst (λ (z : List (Actor × Claim) × List Entry). AreLent z.0 (events_of notes z.1)) (λ i. (sym claims i, sym log i)) pool.claims;
      turns = subst (All (IsTurnAmong sessions)) (sym log) pool.turns;
      movers = subst (All (IsByMover 8)) (sym log) pool.movers;
      meant = subst (AreMeant (begin_of schema) lines []) (sym log) pool.meant;
    },
  )

  -- ---- actors

  known : (session : ℕ) → Contains sessions session → session < 65
  known session has = let pool = keeps.1 in All-contains (λ s. s < 65) sessions session pool.numbers has

  pub numbered : (by : Actor) → IsOneOf sessions by → IsNumbered by
  numbered (actor.Session session) has = known session has
  numbered (actor.Mover mover) range = range.0

  pub by_one : (by : Actor) (w : Work) → IsOneOf sessions by → IsByMover 8 (Mover by w)
  by_one (actor.Session session) w has = tt
  by_one (actor.Mover mover) w range = range

  -- who was lent nothing holds nothing
  pub holds_none : (by : Actor) → IsOneOf sessions by → (now : List Event) → events_of notes old.log ≡ now → held_in (events_by (number_of by) now) ≡ None → held_by by old.claims ≡ None
  holds_none by one now view free =
      let pool = keeps.1 in
      let are = pool.claims in
      lent_free (held_by by old.claims) (held_in (events_by (number_of by) (events_of notes old.log))) (are.lent by (numbered by one)) (ap (λ es. held_in (events_by (number_of by) es)) view ∙ free)

  -- ---- sessions

  -- an entry of a session that is lent nothing
  module _ (new : CoreValue) (session : ℕ) (has : Contains sessions session) (now : List Event) (view : events_of notes old.log ≡ now) (free : held_in (events_by session now) ≡ None) (claims : new.claims ≡ old.claims) where
    pub keeps_session : (e : Entry) → actor_of e ≡ session → Adds old new e → IsTurnAmong sessions e × IsByMover 8 e → IsMeant (begin_of schema) lines old.log e → Keeps schema sizes sessions lines notes new
    keeps_session e by adds among meant =
        let pool = keeps.1 in
        keeps_plain new e adds (subst (λ cs. AreLent cs (events_of notes old.log ++ event_of e None ∷ [])) (sym claims)
        (lent_alone old.claims (events_of notes old.log) (event_of e None) pool.claims (actor.Session session) (known session has) by refl (ap (λ es. held_in (events_by session es)) view ∙ free))) among.0 among.1 meant

    pub keeps_finish : (reply : Reply) → Adds old new (Finish session reply) → Keeps schema sizes sessions lines notes new
    keeps_finish reply adds = keeps_session (Finish session reply) refl adds (has, tt) tt

    pub keeps_end : Adds old new (End session) → Keeps schema sizes sessions lines notes new
    keeps_end adds = keeps_session (End session) refl adds (has, tt) tt

  -- an entry more is an event more
  pub grown : (new : List Entry) (now : List Event) (e : Entry) → events_of notes old.log ≡ now → new ≡ old.log ++ e ∷ [] → events_of notes new ≡ now ++ event_of e None ∷ []
  grown new now e view is = events_more notes old.log new e is keeps.0 ∙ ap (λ es. es ++ event_of e None ∷ []) view

  module _ {M : Type 0} (new : CoreValue) (session : ℕ) (bound : Bound) where
    abbrev pub StartsTo : Result Started M → Type 0
    StartsTo r = IfOk r (λ started. (e : Entry) × (new.log ≡ old.log ++ e ∷ []) × IsStartEntry session bound started.short e)

    pub keeps_start : (r : Result Started M) → Contains sessions session → (now : List Event) → events_of notes old.log ≡ now → held_in (events_by session now) ≡ None
        → (text : List ℕ) × (slice_get (texts_of session lines) (statements_of session old.log) ≡ Some text) × IsBound schema text bound
        → StartsTo r → OnErr r (new.log ≡ old.log) → new.schema ≡ old.schema → new.sizes ≡ old.sizes → new.sessions ≡ old.sessions → new.claims ≡ old.claims → Keeps schema sizes sessions lines notes new
    keeps_start (Ok s) has now view free meant ok err sc si se cl =
        let does = start_of_does session bound s.short ok.0 ok.2 in
        keeps_session new session has now view free cl ok.0 does.actor (record { log = ok.1; schema = sc; sizes = si; sessions = se }) (start_among sessions session bound s.short ok.0 ok.2 has)
        (meant_start schema lines old.log session bound s.short ok.0 ok.2 meant)
    keeps_start (Err m) has now view free meant ok err sc si se cl = keeps_same new err sc si se cl

    pub start_events : (r : Result Started M) (now : List Event) → events_of notes old.log ≡ now → StartsTo r
        → IfOk r (λ started. (e : Event) × (events_of notes new.log ≡ now ++ e ∷ []) × IsStartEntry session bound started.short e.entry × (e.lent ≡ None))
    start_events (Ok s) now view ok = (event_of ok.0 None, grown new.log now ok.0 view ok.1, ok.2, refl)
    start_events (Err m) now view ok = tt

-- ---- as the history says it

-- what is so of the core and its log is so of the history
pub seen_as : (P : Ground → List Entry → Type 0) (of origin : Ground) (log seen : List Entry) → of ≡ origin → seen ≡ log → P of log → P origin seen
seen_as P of origin log seen is same holds = subst (λ (z : Ground × List Entry). P z.0 z.1) (λ i. (is i, sym same i)) holds

pub seen_from : (P : Ground → List Entry → List Entry → Type 0) (of origin : Ground) (log new before after : List Entry) → of ≡ origin → before ≡ log → after ≡ new → P of log new → P origin before after
seen_from P of origin log new before after is same then holds = subst (λ (z : Ground × List Entry × List Entry). P z.0 z.1 z.2) (λ i. (is i, sym same i, sym then i)) holds
