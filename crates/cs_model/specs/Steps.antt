-- What an event does to the state: a relation by cases of the event.
use Rattle.std.specs.Prelude.{◌≡◌, ◌⊎◌, ℕ, ◌+◌, ◌<◌, List, [], ◌∷◌, ◌++◌, length, map, fold, Bool, true, false, ◌==◌, ◌||◌, nat_lt, nat_le, ◌-◌, if◌then◌else◌, is_some, Option, None, Some, Result, Ok, Err}
use Rattle.std.specs.BTreeMap.{insert_entry}
use Rattle.std.specs.Map.{values_of}
use Rattle.cs_types.specs.declared.Loose.{Loose}
use Rattle.cs_types.specs.declared.Schema.{Schema}
use Rattle.cs_model.specs.declared.plan.Query.{Query}
use Rattle.cs_model.specs.declared.entry.Bound.{Bound}
use Rattle.cs_model.specs.declared.entry.Bound.TheVariants as bound
use Rattle.cs_model.specs.declared.entry.Refusal.{Refusal}
use Rattle.cs_model.specs.declared.entry.Refusal.TheVariants.{Reading, Valued, Locked, Changed, Duplicate, NoTxn, Memory}
use Rattle.cs_model.specs.declared.entry.Reply.{Reply}
use Rattle.cs_model.specs.declared.entry.Reply.TheVariants as reply
use Rattle.cs_model.specs.declared.entry.Entry.{Entry}
use Rattle.cs_model.specs.declared.entry.Entry.TheVariants.{Start, Finish, End, Mover}
use Rattle.cs_types.specs.Keys.{key_cmp}
use Rattle.cs_model.specs.Changes.{Edit, Table, Change}
use Rattle.cs_model.specs.State.{Txn, Half, State, Begin, schema_now, with, txn_set, half_set, statistics_set, seen}
use Rattle.cs_model.specs.Queries.{answer}
use Rattle.cs_model.specs.Kinds.{is_of_table}
use Rattle.cs_model.specs.Answers.{writes}
use Rattle.cs_model.specs.Obstacles.{keys_of, is_present, IsObstacle, IsJudged}

-- ---- Start

-- the transaction that a statement of the table begins in: the session's, or an implicit one
abbrev pub txn_opened : Option Txn → ℕ → Txn
txn_opened (Some txn) next = txn
txn_opened None next = record { number = next; depth = 0; snapshot = None; own = [] }

-- an implicit transaction draws a number
abbrev pub next_opened : Option Txn → ℕ → ℕ
next_opened (Some txn) next = next
next_opened None next = next + 1

abbrev pub or_clock : Option ℕ → ℕ → ℕ
or_clock (Some s) clock = s
or_clock None clock = clock

-- a transaction without a snapshot takes the clock, unless the Start found no memory
abbrev pub fixed : Txn → Bool → ℕ → Txn
fixed txn short clock = record txn { snapshot = if short then txn.snapshot else Some (or_clock txn.snapshot clock) }

abbrev pub pinned : State → ℕ → Bool → State
pinned m session short = record m {
  txns = with m.txns session (Some (fixed (txn_opened (m.txns session) m.next) short m.clock));
  next = next_opened (m.txns session) m.next;
}

-- what the Start of a statement notes: 0, as no form has anything to note
abbrev pub noted : Bound → State → ℕ
noted b m = 0

-- the half-done statement that a Start in this state makes
abbrev pub half_of : State → Bound → Bool → Half
half_of m b short = record { bound = b; short = short; note = noted b m }

-- the state after a Start
abbrev pub started : State → ℕ → Bound → Bool → State
started m session b short = half_set (if is_of_table b then pinned m session short else m) session (Some (half_of m b short))

-- ---- the reply of a Finish

-- an answer of rows; it has counts of segments exactly where the session's setting is on
abbrev pub IsRows : Bool → List (List Loose) → Reply → Type 0
IsRows on rows reply.Done = ⊥
IsRows on rows (reply.Rows list segments) = (list ≡ rows) × (is_some segments ≡ on)
IsRows on rows (reply.Affected count) = ⊥
IsRows on rows (reply.Groups lines buffered) = ⊥
IsRows on rows (reply.Segments lines) = ⊥
IsRows on rows (reply.Left groups) = ⊥
IsRows on rows (reply.Refused refusal) = ⊥

-- the reply to a query: its rows, or 8115 with the row and the item whose whole count or sum is out of its range
abbrev pub IsAnswer : Bool → Result (List (List Loose)) (ℕ × ℕ) → Reply → Type 0
IsAnswer on (Ok rows) r = IsRows on rows r
IsAnswer on (Err place) r = r ≡ reply.Refused (Valued 8115 place.0 place.1)

-- the reply to a write of these edits: the obstacle, or how many edits there are
abbrev pub IsWritten : (Option Refusal → Type 0) → List Edit → Reply → Type 0
IsWritten Judged edits reply.Done = ⊥
IsWritten Judged edits (reply.Affected count) = Judged None × (count ≡ length edits)
IsWritten Judged edits (reply.Refused refusal) = Judged (Some refusal)
IsWritten Judged edits (reply.Rows list segments) = ⊥
IsWritten Judged edits (reply.Groups lines buffered) = ⊥
IsWritten Judged edits (reply.Segments lines) = ⊥
IsWritten Judged edits (reply.Left groups) = ⊥

-- the reply to a write of these edits, or their first value refusal, over what its transaction sees
abbrev pub IsWriteReplyOf : State → ℕ → Option ℕ → Table → Bound → Result (List Edit) Refusal → Reply → Type 0
IsWriteReplyOf m session snapshot table b (Err refusal) r = r ≡ reply.Refused refusal
IsWriteReplyOf m session snapshot table b (Ok edits) r =
    IsWritten (IsJudged (IsObstacle m session snapshot (is_present b edits table)) (keys_of edits)) edits r

-- the reply to a write in the session's transaction; it has none without one
abbrev pub IsWriteReply : Schema → State → ℕ → Option Txn → Bound → Reply → Type 0
IsWriteReply schema m session None b r = ⊥
IsWriteReply schema m session (Some txn) b r =
    IsWriteReplyOf m session txn.snapshot (seen m.changes txn) b (writes schema (seen m.changes txn) b) r

-- the reply to a query in the session's transaction; it has none without one
abbrev pub IsAnswerIn : Schema → State → ℕ → Option Txn → Query → Reply → Type 0
IsAnswerIn schema m session None query r = ⊥
IsAnswerIn schema m session (Some txn) query r = IsAnswer (m.statistics session) (answer schema query (values_of (seen m.changes txn))) r

-- any report on groups, any on segments, and any list of what a REORGANIZE left: what stands in them is said by the book of groups
abbrev pub IsGroups : Reply → Type 0
IsGroups reply.Done = ⊥
IsGroups (reply.Affected count) = ⊥
IsGroups (reply.Rows rows segments) = ⊥
IsGroups (reply.Groups lines buffered) = Unit {0}
IsGroups (reply.Segments lines) = ⊥
IsGroups (reply.Left groups) = ⊥
IsGroups (reply.Refused refusal) = ⊥

abbrev pub IsSegments : Reply → Type 0
IsSegments reply.Done = ⊥
IsSegments (reply.Affected count) = ⊥
IsSegments (reply.Rows rows segments) = ⊥
IsSegments (reply.Groups lines buffered) = ⊥
IsSegments (reply.Segments lines) = Unit {0}
IsSegments (reply.Left groups) = ⊥
IsSegments (reply.Refused refusal) = ⊥

abbrev pub IsLeft : Reply → Type 0
IsLeft reply.Done = ⊥
IsLeft (reply.Affected count) = ⊥
IsLeft (reply.Rows rows segments) = ⊥
IsLeft (reply.Groups lines buffered) = ⊥
IsLeft (reply.Segments lines) = ⊥
IsLeft (reply.Left groups) = Unit {0}
IsLeft (reply.Refused refusal) = ⊥

-- BEGIN is done, but in a transaction that is 32 deep
abbrev pub begin_reply : Option Txn → Reply
begin_reply None = reply.Done
begin_reply (Some txn) = if nat_lt txn.depth 32 then reply.Done else reply.Refused (Reading 50001 1)

-- COMMIT and ROLLBACK are done, but without a transaction
abbrev pub done_in : Option Txn → ℕ → Reply
done_in None number = reply.Refused (NoTxn number)
done_in (Some txn) number = reply.Done

-- the reply that a statement is defined to have whose Start noted this
abbrev pub IsReplyTo : Schema → State → ℕ → ℕ → Bound → Reply → Type 0
IsReplyTo schema m session note bound.Begin r = r ≡ begin_reply (m.txns session)
IsReplyTo schema m session note bound.Commit r = r ≡ done_in (m.txns session) 3902
IsReplyTo schema m session note bound.Rollback r = r ≡ done_in (m.txns session) 3903
IsReplyTo schema m session note bound.Nothing r = r ≡ reply.Done
IsReplyTo schema m session note (bound.Statistics on) r = r ≡ reply.Done
IsReplyTo schema m session note (bound.Insert plan) r = IsWriteReply schema m session (m.txns session) (bound.Insert plan) r
IsReplyTo schema m session note (bound.Update plan) r = IsWriteReply schema m session (m.txns session) (bound.Update plan) r
IsReplyTo schema m session note (bound.Delete condition) r = IsWriteReply schema m session (m.txns session) (bound.Delete condition) r
IsReplyTo schema m session note (bound.Select query) r = IsAnswerIn schema m session (m.txns session) query r
IsReplyTo schema m session note bound.GroupReport r = IsGroups r
IsReplyTo schema m session note bound.SegmentReport r = IsSegments r
IsReplyTo schema m session note (bound.Reorganize all) r = IsLeft r
IsReplyTo schema m session note (bound.Refused refusal) r = r ≡ reply.Refused refusal

-- the reply that a half-done statement is defined to have
abbrev pub IsReply : Schema → State → ℕ → Half → Reply → Type 0
IsReply schema m session half r = IsReplyTo schema m session half.note half.bound r

-- ---- the state after a Finish

-- the own writes, by key, with more laid over them; the last for a key stands
abbrev pub staged : List Edit → List Edit → List Edit
staged own edits = fold (λ list (edit : Edit). insert_entry key_cmp list edit.0 edit.1) own edits

abbrev pub is_empty : List Edit → Bool
is_empty [] = true
is_empty (edit ∷ edits) = false

-- edits as the changes of a commit of a transaction
abbrev pub numbered : ℕ → ℕ → List Edit → List Change
numbered commit txn edits = map (λ edit. record { commit = commit; txn = txn; edit = edit }) edits

-- the changes of a transaction's commit
abbrev pub committed : ℕ → Txn → List Change
committed commit txn = numbered commit txn.number txn.own

abbrev pub gone : State → ℕ → State
gone m session = txn_set m session None

-- the transaction's own writes are committed under the next number, if it has any, and it is gone
abbrev pub commits : State → ℕ → Txn → State
commits m session txn =
    if is_empty txn.own then gone m session
    else record (gone m session) { changes = m.changes ++ committed (m.clock + 1) txn; clock = m.clock + 1 }

-- an implicit transaction commits after its statement, and another stays open
abbrev pub settled : State → ℕ → Txn → State
settled m session txn = if txn.depth == 0 then commits m session txn else txn_set m session (Some txn)

-- after these writes of the session's transaction
abbrev pub wrote : State → ℕ → Option Txn → List Edit → State
wrote m session None edits = m
wrote m session (Some txn) edits = settled m session (record txn { own = staged txn.own edits })

-- after BEGIN: a transaction opens, or is a level deeper
abbrev pub began : State → ℕ → Option Txn → State
began m session None = record m {
  txns = with m.txns session (Some (record { number = m.next; depth = 1; snapshot = None; own = [] }));
  next = m.next + 1;
}
began m session (Some txn) = txn_set m session (Some (record txn { depth = txn.depth + 1 }))

-- after COMMIT: the transaction is committed, or is a level less deep
abbrev pub unwound : State → ℕ → Option Txn → State
unwound m session None = m
unwound m session (Some txn) = if nat_le txn.depth 1 then commits m session txn else txn_set m session (Some (record txn { depth = txn.depth - 1 }))

-- the edits of a write that was not refused
abbrev pub edits_in : Result (List Edit) Refusal → List Edit
edits_in (Ok edits) = edits
edits_in (Err refusal) = []

-- what a statement writes in the session's transaction
abbrev pub writes_in : Schema → List Change → Option Txn → Bound → List Edit
writes_in schema changes None b = []
writes_in schema changes (Some txn) b = edits_in (writes schema (seen changes txn) b)

-- after a statement that was not refused
abbrev pub accepted : Schema → State → ℕ → Bound → State
accepted schema m session bound.Begin = began m session (m.txns session)
accepted schema m session bound.Commit = unwound m session (m.txns session)
accepted schema m session bound.Rollback = gone m session
accepted schema m session bound.Nothing = m
accepted schema m session (bound.Statistics on) = statistics_set m session on
accepted schema m session (bound.Insert plan) = wrote m session (m.txns session) (writes_in schema m.changes (m.txns session) (bound.Insert plan))
accepted schema m session (bound.Update plan) = wrote m session (m.txns session) (writes_in schema m.changes (m.txns session) (bound.Update plan))
accepted schema m session (bound.Delete condition) = wrote m session (m.txns session) (writes_in schema m.changes (m.txns session) (bound.Delete condition))
accepted schema m session (bound.Select query) = wrote m session (m.txns session) []
accepted schema m session bound.GroupReport = m
accepted schema m session bound.SegmentReport = m
accepted schema m session (bound.Reorganize all) = m
accepted schema m session (bound.Refused refusal) = m

-- 3960 alone ends every transaction
abbrev pub is_changed : Refusal → Bool
is_changed (Reading number at) = false
is_changed (Valued number row column) = false
is_changed (Locked key txn) = false
is_changed (Changed key txn commit) = true
is_changed (Duplicate key) = false
is_changed (NoTxn number) = false
is_changed Memory = false

-- whether a refusal ends the transaction: every one ends an implicit one, and 3960 ends any
abbrev pub ends_txn : Option Txn → Refusal → Bool
ends_txn None refusal = false
ends_txn (Some txn) refusal = txn.depth == 0 || is_changed refusal

-- after a refusal the transaction is gone, or as it was
abbrev pub refused : State → ℕ → Refusal → State
refused m session refusal = if ends_txn (m.txns session) refusal then gone m session else m

abbrev pub replied : Schema → State → ℕ → Bound → Reply → State
replied schema m session b reply.Done = accepted schema m session b
replied schema m session b (reply.Affected count) = accepted schema m session b
replied schema m session b (reply.Rows list segments) = accepted schema m session b
replied schema m session b (reply.Groups lines buffered) = accepted schema m session b
replied schema m session b (reply.Segments lines) = accepted schema m session b
replied schema m session b (reply.Left groups) = accepted schema m session b
replied schema m session b (reply.Refused refusal) = refused m session refusal

-- the statement is no longer half done
abbrev pub rested : State → ℕ → State
rested m session = half_set m session None

-- the state after a Finish: the statement is no longer half done, and then its reply takes effect
abbrev pub finished : Schema → State → ℕ → Bound → Reply → State
finished schema m session b r = replied schema (rested m session) session b r

-- for want of a group id: in the place of a reply after which something is committed, error 50001 at 1
pub record IsOutOfIds (schema : Schema) (m : State) (session : ℕ) (half : Half) (r : Reply) : Type 0 where
  pub given : Reply
  pub is_reply : IsReply schema m session half given
  pub commits : m.clock < (finished schema m session half.bound given).clock
  pub refuses : r ≡ reply.Refused (Reading 50001 1)

-- a Finish of the half-done statement: with the defined reply, or with want of a group id in its place; or, whatever was
-- started, with want of memory
abbrev pub IsFinish : Schema → State → ℕ → Option Half → Reply → State → Type 0
IsFinish schema m session None r after = ⊥
IsFinish schema m session (Some half) r after =
    ((r ≡ reply.Refused Memory) ⊎ ((half.short ≡ false) × (IsReply schema m session half r ⊎ IsOutOfIds schema m session half r)))
    × (after ≡ finished schema m session half.bound r)

-- ---- the step

-- the entry leads from the state m to the state after; work on row groups leaves the state as it is
abbrev pub IsStep : Begin → State → Entry → State → Type 0
IsStep begin m (Start session b short) after = (m.half session ≡ None) × (short ≡ true → is_of_table b.value ≡ true) × (after ≡ started m session b.value short)
IsStep begin m (Finish session r) after = IsFinish (schema_now begin m) m session (m.half session) r after
IsStep begin m (End session) after = (m.half session ≡ None) × (after ≡ gone m session)
IsStep begin m (Mover actor work) after = after ≡ m

-- the entries lead from m to the state after, one by one
abbrev pub Leads : Begin → State → List Entry → State → Type 0
Leads begin m [] after = after ≡ m
Leads begin m (entry ∷ entries) after = (mid : State) × IsStep begin m entry mid × Leads begin mid entries after

-- the log leads from what it begins with to this state
abbrev pub Legal : Begin → List Entry → State → Type 0
Legal begin log after = Leads begin begin.state log after
