-- The events of turns, and what the type of a core after a gate keeps by them.
use Rattle.std.proofs.Common.{◌≡◌, ℕ, List, [], ◌∷◌, ◌++◌, length, refl, sym, ap, subst, ◌∙◌, true, Result, Ok, Err, IfOk, OnErr}
use Rattle.std.specs.Prelude.{Option, None, Some, IsSome}
use Rattle.std.proofs.lemmas.List.{append-nil}
use Rattle.cs_types.specs.declared.Schema.{Schema}
use Rattle.cs_model.specs.declared.entry.Entry.{Entry}
use Rattle.cs_model.specs.declared.entry.Entry.TheVariants as entry
use Rattle.cs_model.specs.declared.work.Actor.{Actor}
use Rattle.cs_model.specs.declared.work.Actor.TheVariants.{Session, Mover}
use Rattle.cs_model.specs.declared.work.Work.{Work}
use Rattle.cs_model.specs.declared.work.Work.TheVariants as work
use Rattle.cs_model.specs.Actors.{number_of}
use Rattle.group_book.specs.Book as book
use Rattle.group_book.specs.Book.Choice.{Compress, Flush, Rebuild, Merge, Settle, Clear, Idle}
use Rattle.group_book.specs.Choices.{id_in, release_work}
use Rattle.group_book.specs.Commits.{Sizes}
use Rattle.group_directory.specs.declared.ledger.Ledger.{Ledger}
use Rattle.group_log.specs.Followed.{Ground}
use Rattle.cs_model.specs.Works.{lacks_memory}
use Rattle.script_reader.specs.declared.script.Step.{Step}
use Rattle.statement_core.specs.declared.movers.Turned.{Turned}
use Rattle.statement_core.specs.declared.movers.Turned.TheVariants as turned
use Rattle.statement_core.specs.CoreValue.{CoreValue}
use Rattle.statement_core.specs.Movers.{GivesTurn}
use Rattle.statement_core.specs.Reorganizes.{IsClosing, IsLedgerAt}
use Rattle.statement_core.specs.Turns.{BeginsTurn, TurnsTo, entry_of}
use Rattle.statement_core.proofs.Turns.{turn_begun}
use Rattle.statement_core.proofs.Courses.{idle_seen, never_alone}
use Rattle.session_pool.specs.declared.attempt.Attempt.TheVariants as attempt
use Rattle.session_pool.specs.declared.event.Event.{Event}
use Rattle.session_pool.specs.declared.event.Note.{Note}
use Rattle.session_pool.specs.Events.{events_by, events_of, held_in, AreLent}
use Rattle.session_pool.specs.Pools.{IsNoted, IsOneOf}
use Rattle.session_pool.specs.Runs.{EndsShort}
use Rattle.session_pool.specs.Sections.{BegunBy, EndedBy, IsGrown, GrowsBy, StandsLast}
use Rattle.session_pool.specs.Works.{Attempts, ClosesBy}
use Rattle.session_pool.proofs.Claims.{lent_alone, lent_new, lent_over}
use Rattle.session_pool.proofs.Events.{event_of, events_noted}
use Rattle.session_pool.proofs.Pools.{Adds, Keeps, by_one, grown, keeps_noted, keeps_plain, keeps_same, keeps_session, numbered}
use Rattle.statement_core.proofs.Holding.{without}

-- ---- what the log's end says

-- a release is for want of memory
release_short : (made : book.Choice) (claim : book.Claim) (w : Work) → release_work made claim ≡ Some w → lacks_memory w ≡ true
release_short (Compress source) claim w e = let same : work.ReleaseCompress source (id_in claim.fresh) ≡ w = cc e in ap lacks_memory (sym same)
release_short Flush claim w e = let same : work.ReleaseFlush (length claim.entries) ≡ w = cc e in ap lacks_memory (sym same)
release_short (Rebuild source) claim w e = let same : work.ReleaseRebuild source (id_in claim.fresh) ≡ w = cc e in ap lacks_memory (sym same)
release_short (Merge first second) claim w e = let same : work.ReleaseMerge first second (id_in claim.fresh) ≡ w = cc e in ap lacks_memory (sym same)
release_short Settle claim w e = absurd (cc e)
release_short Clear claim w e = absurd (cc e)
release_short Idle claim w e = absurd (cc e)

pub release_last : (origin : Ground) (before after : List Entry) (mover : ℕ) → EndedBy release_work origin (Mover mover) before after → EndsShort mover after
release_last origin before after mover x =
    let ends = x.2 in
    let claim = ends.claim in record { before = before; work = ends.work; last = x.1 ∙ ap (λ piece. before ++ piece) ends.entry; short = release_short claim.choice claim ends.work ends.of_claim }

pub last_stands : (origin : Ground) (before after : List Entry) (mover : ℕ) (given : Turned) → BegunBy origin (Mover mover) given before after → StandsLast origin mover given after
last_stands origin before after mover (turned.Lent claim) x = tt
last_stands origin before after mover turned.Alone x = tt
last_stands origin before after mover turned.Short x =
    let turns = x.2 in
    let first = turns.first in record { before = before; work = work.Memory; last = x.1 ∙ ap (λ piece. before ++ piece) (turns.entry ∙ ap (entry_of (Mover mover)) first.1); short = refl }
last_stands origin before after mover turned.Idle x =
    let turns = x.2 in
    let first = turns.first in
    let none : x.0 ≡ [] = turns.entry ∙ ap (entry_of (Mover mover)) first.1 in
    let same : after ≡ before = x.1 ∙ (ap (λ piece. before ++ piece) none ∙ append-nil before) in
    subst (λ (z : List Entry × List Entry). BeginsTurn origin z.0 (Mover mover) z.1) (λ i. (sym same i, none i)) (turn_begun origin before (Mover mover) turned.Idle x.0 turns)

-- ---- events

module _ (schema : Schema) (sizes : Sizes) (sessions : List ℕ) (lines : List Step) (notes : List Note) (old : CoreValue) (keeps : Keeps schema sizes sessions lines notes old) (by : Actor) (one : IsOneOf sessions by) (new : CoreValue)
    (of_schema : new.schema ≡ old.schema) (of_sizes : new.sizes ≡ old.sizes) (of_sessions : new.sessions ≡ old.sessions) where
  -- this work is the entry more
  adds : (w : Work) → new.log ≡ old.log ++ entry.Mover by w ∷ [] → Adds old new (entry.Mover by w)
  adds w is = record { log = is; schema = of_schema; sizes = of_sizes; sessions = of_sessions }

  lent_now : AreLent old.claims (events_of notes old.log)
  lent_now = let pool = keeps.1 in pool.claims

  event_grows : (now : List Event) (w : Work) → events_of notes old.log ≡ now → new.log ≡ old.log ++ entry.Mover by w ∷ [] → IsGrown (number_of by) None now (events_of notes new.log)
  event_grows now w view is = record { event = event_of (entry.Mover by w) None; by = refl; lends = refl; works = refl; events = grown schema sizes sessions lines notes old keeps new.log now (entry.Mover by w) view is }

  -- ---- the last event of a turn

  module _ (ends : book.Choice → book.Claim → Option Work) (origin : Ground) (x : EndedBy ends origin by old.log new.log) where
    last_work : (w : Work) × (new.log ≡ old.log ++ entry.Mover by w ∷ [])
    last_work = let e = x.2 in (e.work, x.1 ∙ ap (λ piece. old.log ++ piece) e.entry)

    pub keeps_over : new.claims ≡ without by old.claims → Keeps schema sizes sessions lines notes new
    keeps_over over =
        let w = last_work in
        keeps_plain schema sizes sessions lines notes old keeps new (entry.Mover by w.0) (adds w.0 w.1)
        (lent_over old.claims (events_of notes old.log) (event_of (entry.Mover by w.0) None) lent_now by (numbered schema sizes sessions lines notes old keeps by one) refl new.claims refl over)
        tt (by_one schema sizes sessions lines notes old keeps by w.0 one) tt

    pub over_events : (now : List Event) → events_of notes old.log ≡ now → IsGrown (number_of by) None now (events_of notes new.log)
    over_events now view = let w = last_work in event_grows now w.0 view w.1

  -- ---- the first event of a turn

  module _ (origin : Ground) (piece : List Entry) (is : new.log ≡ old.log ++ piece) where
    some_work : (o : Option Work) → IsSome o → piece ≡ entry_of by o → (w : Work) × (new.log ≡ old.log ++ entry.Mover by w ∷ [])
    some_work None some e = absurd (cc some)
    some_work (Some w) some e = (w, is ∙ ap (λ p. old.log ++ p) e)

    short_work : (o : Option Work) → o ≡ Some work.Memory → piece ≡ entry_of by o → new.log ≡ old.log ++ entry.Mover by work.Memory ∷ []
    short_work o memory e = is ∙ ap (λ p. old.log ++ p) (e ∙ ap (entry_of by) memory)

    no_work : (o : Option Work) → o ≡ None → piece ≡ entry_of by o → new.log ≡ old.log
    no_work o none e = is ∙ (ap (λ p. old.log ++ p) (e ∙ ap (entry_of by) none) ∙ append-nil old.log)

    -- a turn that is one event
    module _ (now : List Event) (view : events_of notes old.log ≡ now) (free : held_in (events_by (number_of by) now) ≡ None) where
      keeps_alone : (notes' : List Note) (w : Work) → new.log ≡ old.log ++ entry.Mover by w ∷ [] → new.claims ≡ old.claims → notes' ≡ notes → Keeps schema sizes sessions lines notes' new
      keeps_alone notes' w log claims noted =
          subst (λ ns. Keeps schema sizes sessions lines ns new) (sym noted)
          (keeps_plain schema sizes sessions lines notes old keeps new (entry.Mover by w) (adds w log)
          (subst (λ cs. AreLent cs (events_of notes old.log ++ event_of (entry.Mover by w) None ∷ [])) (sym claims)
          (lent_alone old.claims (events_of notes old.log) (event_of (entry.Mover by w) None) lent_now by (numbered schema sizes sessions lines notes old keeps by one) refl refl
          (ap (λ es. held_in (events_by (number_of by) es)) view ∙ free)))
          tt (by_one schema sizes sessions lines notes old keeps by w one) tt)

      alone_events : (notes' : List Note) (w : Work) → new.log ≡ old.log ++ entry.Mover by w ∷ [] → notes' ≡ notes → IsGrown (number_of by) None now (events_of notes' new.log)
      alone_events notes' w log noted = subst (λ ns. IsGrown (number_of by) None now (events_of ns new.log)) (sym noted) (event_grows now w view log)

      pub keeps_turn : (given : Turned) → TurnsTo origin old.log by given piece → GivesTurn by old.claims new.claims given → (notes' : List Note) → IsNoted given (length old.log) notes notes'
          → Keeps schema sizes sessions lines notes' new
      keeps_turn (turned.Lent claim) x gives notes' noted =
          let first = x.first in
          let w = some_work x.work first.2 x.entry in
          let e : Entry = entry.Mover by w.0 in
          let note = noted.0 in
          subst (λ ns. Keeps schema sizes sessions lines ns new) (sym noted.1)
          (keeps_noted schema sizes sessions lines notes old keeps new e note noted.2 (adds w.0 w.1)
          (lent_new old.claims (events_of notes old.log) (event_of e (Some note.claim.value)) lent_now by (numbered schema sizes sessions lines notes old keeps by one) refl new.claims gives.0 claim
          (ap (λ c. Some c) noted.3) gives.1 gives.2)
          tt (by_one schema sizes sessions lines notes old keeps by w.0 one) tt)
      keeps_turn turned.Alone x gives notes' noted = let first = x.first in let w = some_work x.work first.1 x.entry in keeps_alone notes' w.0 w.1 gives noted
      keeps_turn turned.Short x gives notes' noted = let first = x.first in keeps_alone notes' work.Memory (short_work x.work first.1 x.entry) gives noted
      keeps_turn turned.Idle x gives notes' noted =
          let first = x.first in
          subst (λ ns. Keeps schema sizes sessions lines ns new) (sym noted)
          (keeps_same schema sizes sessions lines notes old keeps new (no_work x.work first.1 x.entry) of_schema of_sizes of_sessions gives)

      pub turn_events : (given : Turned) → TurnsTo origin old.log by given piece → GivesTurn by old.claims new.claims given → (notes' : List Note) → IsNoted given (length old.log) notes notes'
          → GrowsBy (number_of by) given now (events_of notes' new.log)
      turn_events (turned.Lent claim) x gives notes' noted =
          let first = x.first in
          let w = some_work x.work first.2 x.entry in
          let e : Entry = entry.Mover by w.0 in
          let note = noted.0 in (
            record {
              event = event_of e (Some note.claim.value);
              by = refl;
              lends = ap (λ c. Some c) noted.3;
              works = refl;
              events = ap (λ ns. events_of ns new.log) noted.1 ∙ (events_noted notes note old.log new.log e w.1 noted.2 keeps.0 ∙ ap (λ es. es ++ event_of e (Some note.claim.value) ∷ []) view);
            },
            gives.3,
          )
      turn_events turned.Alone x gives notes' noted = let first = x.first in let w = some_work x.work first.1 x.entry in alone_events notes' w.0 w.1 noted
      turn_events turned.Short x gives notes' noted = let first = x.first in alone_events notes' work.Memory (short_work x.work first.1 x.entry) noted
      turn_events turned.Idle x gives notes' noted =
          let first = x.first in ap (λ ns. events_of ns new.log) noted ∙ (ap (events_of notes) (no_work x.work first.1 x.entry) ∙ view)

-- ---- a session's close

module _ {M : Type 0} (schema : Schema) (sizes : Sizes) (sessions : List ℕ) (lines : List Step) (notes : List Note) (old : CoreValue) (keeps : Keeps schema sizes sessions lines notes old) (session : ℕ) (has : IsOneOf sessions (Session session)) (new : CoreValue)
    (of_schema : new.schema ≡ old.schema) (of_sizes : new.sizes ≡ old.sizes) (of_sessions : new.sessions ≡ old.sessions) (claims : new.claims ≡ old.claims) (origin : Ground) (now : List Event) (view : events_of notes old.log ≡ now) where
  pub keeps_close : held_in (events_by session now) ≡ None → (r : Result (Option ℕ) M) → IfOk r (λ closed. IsClosing origin old.log (Session session) closed new.log) → OnErr r (new ≡ old) → Keeps schema sizes sessions lines notes new
  keeps_close free (Ok None) ok err = keeps_same schema sizes sessions lines notes old keeps new ok.0 of_schema of_sizes of_sessions claims
  keeps_close free (Ok (Some id)) ok err =
      keeps_session schema sizes sessions lines notes old keeps new session has now view free claims (entry.Mover (Session session) (work.Close id)) refl
      (record { log = ok; schema = of_schema; sizes = of_sizes; sessions = of_sessions }) (tt, tt) tt
  keeps_close free (Err m) ok err = subst (Keeps schema sizes sessions lines notes) (sym err) keeps

  pub close_events : (r : Result (Option ℕ) M) → IfOk r (λ closed. IsClosing origin old.log (Session session) closed new.log) → IfOk r (λ closed. ClosesBy session closed now (events_of notes new.log))
  close_events (Ok None) ok = ap (events_of notes) ok.0 ∙ view
  close_events (Ok (Some id)) ok = event_grows schema sizes sessions lines notes old keeps (Session session) has new of_schema of_sizes of_sessions now (work.Close id) view ok
  close_events (Err m) ok = tt

-- ---- a session's attempt at a turn

-- there is none that is one event
pub not_alone : (origin : Ground) (before after : List Entry) (session : ℕ) → BegunBy origin (Session session) turned.Alone before after → ⊥
not_alone origin before after session x = never_alone origin before session x.0 x.2

-- one that finds nothing left sees it at that moment
pub attempt_idle : (origin : Ground) (before after : List Entry) (session : ℕ) (ledger : Ledger) → after ≡ before → BegunBy origin (Session session) turned.Idle before after → IsLedgerAt origin after ledger
    → Attempts origin session (attempt.Idle ledger) before after
attempt_idle origin before after session ledger same x at = (same, idle_seen origin before session x.0 x.2, subst (λ log. IsLedgerAt origin log ledger) same at)
