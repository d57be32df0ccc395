-- What was begun, and the reply that a statement's work gives.
use Rattle.std.proofs.Common.{◌≡◌, ℕ, List, [], map, refl, sym, ap, subst, ◌∙◌, Bool, true, false, Option, None, Some, Result, Ok, Err}
use Rattle.std.specs.Map.{values_of}
use Rattle.cs_types.specs.declared.Loose.{Loose}
use Rattle.cs_types.specs.declared.Schema.{Schema}
use Rattle.cs_model.specs.declared.entry.Bound.{Bound}
use Rattle.cs_model.specs.declared.entry.Bound.TheVariants as bound
use Rattle.cs_model.specs.declared.entry.Refusal.{Refusal}
use Rattle.cs_model.specs.declared.entry.Reply.{Reply}
use Rattle.cs_model.specs.declared.entry.Reply.TheVariants as reply
use Rattle.cs_model.specs.declared.kind.Kind.{Kind}
use Rattle.cs_model.specs.declared.kind.Kind.TheVariants as kind
use Rattle.cs_model.specs.declared.plan.Query.{Query}
use Rattle.cs_model.specs.Answers.{writes}
use Rattle.cs_model.specs.Changes.{Edit, Table, Change, laid, table}
use Rattle.cs_model.specs.Floors.{snapshot_of}
use Rattle.cs_model.specs.Kinds.{kind_of, kind_is_write, kind_is_of_table, is_of_table, is_write}
use Rattle.cs_model.specs.Queries.{answer}
use Rattle.cs_model.specs.State.{State, Txn, seen, seen_at}
use Rattle.cs_model.specs.Steps.{IsReplyTo, IsWriteReply, IsWriteReplyOf, IsAnswerIn, IsAnswer, writes_in, replied, accepted, wrote}
use Rattle.log_laws.specs.Frames.{IsPinnedAt, IsPinned}
use Rattle.log_laws.specs.Started.{Begun, own_in, seen_by, snapshot_table, Sees}
use Rattle.statement_core.specs.Outcomes.{IsValued, IsDecided, told}
use Rattle.statement_core.specs.Settled.{wrote_or}

-- ---- what was begun

-- what a session's transaction sees
abbrev pub seen_in : List Change → Option Txn → Table
seen_in changes None = []
seen_in changes (Some txn) = seen changes txn

pub snapshot_is : (m : State) (s : ℕ) (begun : Begun) → Sees m s begun → snapshot_table begun ≡ table m.changes begun.snapshot
snapshot_is m s begun k = ap (λ (cs : List Change). laid [] (map (λ (change : Change). change.edit) cs)) (sym k.changes)

pub begun_seen : (m : State) (s : ℕ) (begun : Begun) → begun.own ≡ own_in (m.txns s) → Sees m s begun → seen_by begun ≡ seen_in m.changes (m.txns s)
begun_seen m s begun own k = at (m.txns s) own k.snapshot
  where
    at : (o : Option Txn) → begun.own ≡ own_in o → snapshot_of o ≡ Some begun.snapshot → seen_by begun ≡ seen_in m.changes o
    at None own snap = absurd (cc snap)
    at (Some txn) own snap =
        ap (λ (t : Table). laid t begun.own) (snapshot_is m s begun k) ∙ ap (laid (table m.changes begun.snapshot)) own
        ∙ ap (λ (x : Option ℕ). seen_at m.changes x txn.own) (sym snap)

pub begun_pinned : (m : State) (s : ℕ) (begun : Begun) → Sees m s begun → IsPinned (m.txns s) m.clock
begun_pinned m s begun k = at (m.txns s) k.snapshot
  where
    at : (o : Option Txn) → snapshot_of o ≡ Some begun.snapshot → IsPinned o m.clock
    at None snap = absurd (cc snap)
    at (Some txn) snap = subst (λ (x : Option ℕ). IsPinnedAt x m.clock) (sym snap) k.taken

-- ---- a reply that was given

valued_of : (m : State) (session : ℕ) (snapshot : Option ℕ) (table : Table) (b : Bound) (w : Result (List Edit) Refusal) (r : Reply) (on : Bool) → IsValued w r → IsWriteReplyOf m session snapshot table b w (told on r)
valued_of m session snapshot table b (Ok edits) r on h = absurd h
valued_of m session snapshot table b (Err refusal) r on h = ap (told on) h

-- an answer with its counts, as a session is told it
told_answer : (on : Bool) (answered : Result (List (List Loose)) (ℕ × ℕ)) (r : Reply) → IsAnswer true answered r → IsAnswer on answered (told on r)
told_answer on (Err place) r h = ap (told on) h
told_answer on (Ok rows) reply.Done h = absurd h
told_answer on (Ok rows) (reply.Affected count) h = absurd h
told_answer true (Ok rows) (reply.Rows list segments) h = h
told_answer false (Ok rows) (reply.Rows list segments) h = (h.0, refl)
told_answer on (Ok rows) (reply.Groups lines buffered) h = absurd h
told_answer on (Ok rows) (reply.Segments lines) h = absurd h
told_answer on (Ok rows) (reply.Left groups) h = absurd h
told_answer on (Ok rows) (reply.Refused refusal) h = absurd h

module _ (schema : Schema) (m : State) (session : ℕ) where
  valued_in : (txn : Option Txn) (clock : ℕ) (b : Bound) (r : Reply) → IsPinned txn clock → IsValued (writes schema (seen_in m.changes txn) b) r → IsWriteReply schema m session txn b (told (m.statistics session) r)
  valued_in None clock b r p h = absurd p
  valued_in (Some txn) clock b r p h = valued_of m session txn.snapshot (seen m.changes txn) b (writes schema (seen m.changes txn) b) r (m.statistics session) h

  answer_in : (txn : Option Txn) (clock : ℕ) (r : Reply) (query : Query) → IsPinned txn clock → IsAnswer true (answer schema query (values_of (seen_in m.changes txn))) r
      → IsAnswerIn schema m session txn query (told (m.statistics session) r)
  answer_in None clock r query p h = absurd p
  answer_in (Some txn) clock r query p h = told_answer (m.statistics session) (answer schema query (values_of (seen m.changes txn))) r h

  -- the reply that the work decides is the defined one, as the session is told it
  pub decided_reply : (note : ℕ) (b : Bound) (r : Reply) → (is_of_table b ≡ true → IsPinned (m.txns session) m.clock) → IsDecided schema b (seen_in m.changes (m.txns session)) r → IsReplyTo schema m session note b (told (m.statistics session) r)
  decided_reply note bound.Begin r p h = absurd h
  decided_reply note bound.Commit r p h = absurd h
  decided_reply note bound.Rollback r p h = absurd h
  decided_reply note bound.Nothing r p h = absurd h
  decided_reply note (bound.Statistics on) r p h = absurd h
  decided_reply note (bound.Insert plan) r p h = valued_in (m.txns session) m.clock (bound.Insert plan) r (p refl) h
  decided_reply note (bound.Update plan) r p h = valued_in (m.txns session) m.clock (bound.Update plan) r (p refl) h
  decided_reply note (bound.Delete condition) r p h = valued_in (m.txns session) m.clock (bound.Delete condition) r (p refl) h
  decided_reply note (bound.Select query) r p h = answer_in (m.txns session) m.clock r query (p refl) h
  decided_reply note bound.GroupReport r p h = absurd h
  decided_reply note bound.SegmentReport r p h = absurd h
  decided_reply note (bound.Reorganize all) r p h = absurd h
  decided_reply note (bound.Refused refusal) r p h = absurd h

  valued_same : (w : Result (List Edit) Refusal) (b : Bound) (r : Reply) → IsValued w r → wrote_or m session [] r ≡ replied schema m session b r
  valued_same (Ok edits) b r h = absurd h
  valued_same (Err refusal) b r h = subst (λ x. wrote_or m session [] x ≡ replied schema m session b x) (sym h) refl

  select_same : (query : Query) (r : Reply) → wrote_or m session [] r ≡ replied schema m session (bound.Select query) r
  select_same query reply.Done = refl
  select_same query (reply.Affected count) = refl
  select_same query (reply.Rows rows segments) = refl
  select_same query (reply.Groups lines buffered) = refl
  select_same query (reply.Segments lines) = refl
  select_same query (reply.Left groups) = refl
  select_same query (reply.Refused refusal) = refl

  -- counts make no state another
  pub told_state : (b : Bound) (on : Bool) (r : Reply) → replied schema m session b r ≡ replied schema m session b (told on r)
  told_state b on reply.Done = refl
  told_state b on (reply.Affected count) = refl
  told_state b on (reply.Rows rows segments) = refl
  told_state b on (reply.Groups lines buffered) = refl
  told_state b on (reply.Segments lines) = refl
  told_state b on (reply.Left groups) = refl
  told_state b on (reply.Refused refusal) = refl

  pub decided_state : (b : Bound) (t : Table) (r : Reply) → IsDecided schema b t r → wrote_or m session [] r ≡ replied schema m session b r
  decided_state bound.Begin t r h = absurd h
  decided_state bound.Commit t r h = absurd h
  decided_state bound.Rollback t r h = absurd h
  decided_state bound.Nothing t r h = absurd h
  decided_state (bound.Statistics on) t r h = absurd h
  decided_state (bound.Insert plan) t r h = valued_same (writes schema t (bound.Insert plan)) (bound.Insert plan) r h
  decided_state (bound.Update plan) t r h = valued_same (writes schema t (bound.Update plan)) (bound.Update plan) r h
  decided_state (bound.Delete condition) t r h = valued_same (writes schema t (bound.Delete condition)) (bound.Delete condition) r h
  decided_state (bound.Select query) t r h = select_same query r
  decided_state bound.GroupReport t r h = absurd h
  decided_state bound.SegmentReport t r h = absurd h
  decided_state (bound.Reorganize all) t r h = absurd h
  decided_state (bound.Refused refusal) t r h = absurd h

  -- what is decided of a write is a refusal, and of another statement it writes nothing
  valued_refused : (w : Result (List Edit) Refusal) (r : Reply) → IsValued w r → (found : Refusal) × (r ≡ reply.Refused found)
  valued_refused (Ok edits) r h = absurd h
  valued_refused (Err refusal) r h = (refusal, h)

  pub decided_refused : (b : Bound) (t : Table) (r : Reply) → is_write b ≡ true → IsDecided schema b t r → (found : Refusal) × (r ≡ reply.Refused found)
  decided_refused bound.Begin t r w h = absurd h
  decided_refused bound.Commit t r w h = absurd h
  decided_refused bound.Rollback t r w h = absurd h
  decided_refused bound.Nothing t r w h = absurd h
  decided_refused (bound.Statistics on) t r w h = absurd h
  decided_refused (bound.Insert plan) t r w h = valued_refused (writes schema t (bound.Insert plan)) r h
  decided_refused (bound.Update plan) t r w h = valued_refused (writes schema t (bound.Update plan)) r h
  decided_refused (bound.Delete condition) t r w h = valued_refused (writes schema t (bound.Delete condition)) r h
  decided_refused (bound.Select query) t r w h = absurd (cc w)
  decided_refused bound.GroupReport t r w h = absurd h
  decided_refused bound.SegmentReport t r w h = absurd h
  decided_refused (bound.Reorganize all) t r w h = absurd h
  decided_refused (bound.Refused refusal) t r w h = absurd h

-- ---- a write

kind_of_table : (k : Kind) → kind_is_write k ≡ true → kind_is_of_table k ≡ true
kind_of_table kind.Control e = absurd (cc e)
kind_of_table kind.Insert e = refl
kind_of_table kind.Change e = refl
kind_of_table kind.Query e = absurd (cc e)
kind_of_table kind.Report e = absurd (cc e)
kind_of_table kind.Reorganize e = absurd (cc e)
kind_of_table kind.Refused e = absurd (cc e)

pub write_of_table : (b : Bound) → is_write b ≡ true → is_of_table b ≡ true
write_of_table b e = kind_of_table (kind_of b) e

-- the reply and the state of a write, by what its transaction sees
pub write_reply : (schema : Schema) (m : State) (session note : ℕ) (b : Bound) (r : Reply) → is_write b ≡ true → IsWriteReply schema m session (m.txns session) b r → IsReplyTo schema m session note b r
write_reply schema m session note bound.Begin r w h = absurd (cc w)
write_reply schema m session note bound.Commit r w h = absurd (cc w)
write_reply schema m session note bound.Rollback r w h = absurd (cc w)
write_reply schema m session note bound.Nothing r w h = absurd (cc w)
write_reply schema m session note (bound.Statistics on) r w h = absurd (cc w)
write_reply schema m session note (bound.Insert plan) r w h = h
write_reply schema m session note (bound.Update plan) r w h = h
write_reply schema m session note (bound.Delete condition) r w h = h
write_reply schema m session note (bound.Select query) r w h = absurd (cc w)
write_reply schema m session note bound.GroupReport r w h = absurd (cc w)
write_reply schema m session note bound.SegmentReport r w h = absurd (cc w)
write_reply schema m session note (bound.Reorganize all) r w h = absurd (cc w)
write_reply schema m session note (bound.Refused refusal) r w h = absurd (cc w)

pub write_accepted : (schema : Schema) (m : State) (session : ℕ) (b : Bound) → is_write b ≡ true → accepted schema m session b ≡ wrote m session (m.txns session) (writes_in schema m.changes (m.txns session) b)
write_accepted schema m session bound.Begin w = absurd (cc w)
write_accepted schema m session bound.Commit w = absurd (cc w)
write_accepted schema m session bound.Rollback w = absurd (cc w)
write_accepted schema m session bound.Nothing w = absurd (cc w)
write_accepted schema m session (bound.Statistics on) w = absurd (cc w)
write_accepted schema m session (bound.Insert plan) w = refl
write_accepted schema m session (bound.Update plan) w = refl
write_accepted schema m session (bound.Delete condition) w = refl
write_accepted schema m session (bound.Select query) w = absurd (cc w)
write_accepted schema m session bound.GroupReport w = absurd (cc w)
write_accepted schema m session bound.SegmentReport w = absurd (cc w)
write_accepted schema m session (bound.Reorganize all) w = absurd (cc w)
write_accepted schema m session (bound.Refused refusal) w = absurd (cc w)

-- another statement writes nothing
pub no_writes : (schema : Schema) (changes : List Change) (o : Option Txn) (b : Bound) → is_write b ≡ false → writes_in schema changes o b ≡ []
no_writes schema changes None b w = refl
no_writes schema changes (Some txn) bound.Begin w = refl
no_writes schema changes (Some txn) bound.Commit w = refl
no_writes schema changes (Some txn) bound.Rollback w = refl
no_writes schema changes (Some txn) bound.Nothing w = refl
no_writes schema changes (Some txn) (bound.Statistics on) w = refl
no_writes schema changes (Some txn) (bound.Insert plan) w = absurd (cc w)
no_writes schema changes (Some txn) (bound.Update plan) w = absurd (cc w)
no_writes schema changes (Some txn) (bound.Delete condition) w = absurd (cc w)
no_writes schema changes (Some txn) (bound.Select query) w = refl
no_writes schema changes (Some txn) bound.GroupReport w = refl
no_writes schema changes (Some txn) bound.SegmentReport w = refl
no_writes schema changes (Some txn) (bound.Reorganize all) w = refl
no_writes schema changes (Some txn) (bound.Refused refusal) w = refl
