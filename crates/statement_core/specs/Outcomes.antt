-- What the work of a statement gives on what was started.
use Rattle.std.specs.Prelude.{◌≡◌, ◌≢◌, ℕ, List, [], filter, length, Bool, true, false, All, Contains, Result, Ok, Err, Option, None, Some, IsSome, if◌then◌else◌}
use Rattle.std.specs.Map.{values_of}
use Rattle.cs_types.specs.declared.Key.{Key}
use Rattle.cs_types.specs.declared.Schema.{Schema}
use Rattle.write_set.specs.declared.write.Write.{Write}
use Rattle.write_set.specs.Writes.{write_keys, Ascend}
use Rattle.cs_model.specs.Queries.{answer}
use Rattle.cs_model.specs.declared.entry.Bound.{Bound}
use Rattle.cs_model.specs.declared.entry.Bound.TheVariants as bound
use Rattle.cs_model.specs.declared.entry.Refusal.{Refusal}
use Rattle.cs_model.specs.declared.entry.Reply.{Reply}
use Rattle.cs_model.specs.declared.entry.Reply.TheVariants as reply
use Rattle.cs_model.specs.Changes.{Edit, Table}
use Rattle.cs_model.specs.Kinds.{is_write}
use Rattle.cs_model.specs.Answers.{writes}
use Rattle.cs_model.specs.Held.{IsFit, IsWhole}
use Rattle.cs_model.specs.Obstacles.{has_row, is_present}
use Rattle.cs_model.specs.Steps.{IsAnswer}
use Rattle.cs_model.specs.Text.{IsPrintableReply}
use Rattle.log_laws.specs.Started.{Begun, snapshot_table, seen_by}
use Rattle.group_book.specs.Commits.{Sizes}
use Rattle.group_view.specs.declared.claim.Parcel.{Parcel}
use Rattle.group_view.specs.Parcels.{IsParcelFor}
use Rattle.edit_laws.specs.Edits.{edits_of}
use Rattle.statement_core.specs.declared.started.Outcome.{Outcome}
use Rattle.statement_core.specs.declared.started.Outcome.TheVariants as outcome
use Rattle.statement_core.specs.Reorganizes.{reorganizes}

-- ---- replies

-- the reply is a write's first value refusal
abbrev pub IsValued : Result (List Edit) Refusal → Reply → Type 0
IsValued (Ok edits) r = ⊥
IsValued (Err refusal) r = r ≡ reply.Refused refusal

-- the reply that a statement has by what it reads alone: a query's answer, with counts of segments, or a write's first value refusal
abbrev pub IsDecided : Schema → Bound → Table → Reply → Type 0
IsDecided schema bound.Begin table r = ⊥
IsDecided schema bound.Commit table r = ⊥
IsDecided schema bound.Rollback table r = ⊥
IsDecided schema bound.Nothing table r = ⊥
IsDecided schema (bound.Statistics on) table r = ⊥
IsDecided schema (bound.Insert plan) table r = IsValued (writes schema table (bound.Insert plan)) r
IsDecided schema (bound.Update plan) table r = IsValued (writes schema table (bound.Update plan)) r
IsDecided schema (bound.Delete condition) table r = IsValued (writes schema table (bound.Delete condition)) r
IsDecided schema (bound.Select query) table r = IsAnswer true (answer schema query (values_of table)) r
IsDecided schema bound.GroupReport table r = ⊥
IsDecided schema bound.SegmentReport table r = ⊥
IsDecided schema (bound.Reorganize all) table r = ⊥
IsDecided schema (bound.Refused refusal) table r = ⊥

-- a reply as its session is told it: without counts of segments where the setting is off
abbrev pub told : Bool → Reply → Reply
told on reply.Done = reply.Done
told on (reply.Affected count) = reply.Affected count
told on (reply.Rows rows segments) = reply.Rows rows (if on then segments else None)
told on (reply.Groups lines buffered) = reply.Groups lines buffered
told on (reply.Segments lines) = reply.Segments lines
told on (reply.Left groups) = reply.Left groups
told on (reply.Refused refusal) = reply.Refused refusal

-- ---- writes

-- the cells of a row
abbrev pub width_of : Begun → ℕ
width_of begun = length begun.schema.columns

-- there is a parcel of the writes exactly where the transaction ends with the statement and no key is there twice
abbrev pub IsParcelled : Sizes → Begun → List Write → List Key → Option Parcel → Type 0
IsParcelled sizes begun list present None = begun.implicit ≡ true → present ≢ []
IsParcelled sizes begun list present (Some parcel) = (begun.implicit ≡ true) × (present ≡ []) × IsParcelFor begun.schema sizes (edits_of list) parcel

-- edits as writes by key, one for each: each is one of the edits, and says whether its key is in the table of the snapshot. Present
-- are the keys that an INSERT would make stand twice
pub record AreWritesOf (sizes : Sizes) (begun : Begun) (edits : List Edit) (list : List Write) (present : List Key) (affected : ℕ) (parcel : Option Parcel) : Type 0 where
  pub order : Ascend list
  pub each : All (Contains edits) (edits_of list)
  pub every : All (λ (edit : Edit). Contains (write_keys list) edit.0) edits
  pub replaces : All (λ (write : Write). write.replaces ≡ has_row (snapshot_table begun) write.key) list
  pub twice : present ≡ filter (is_present begun.bound edits (seen_by begun)) (write_keys list)
  pub count : affected ≡ length edits
  pub parcelled : IsParcelled sizes begun list present parcel

-- the outcome of a write of these edits
pub record GivesWrites (sizes : Sizes) (begun : Begun) (list : List Write) (present : List Key) (affected : ℕ) (parcel : Option Parcel) : Type 0 where
  pub edits : List Edit
  pub defined : writes begun.schema (seen_by begun) begun.bound ≡ Ok edits
  pub fit : All (IsFit begun.schema) edits
  pub whole : All (IsWhole begun.schema) edits
  pub are : AreWritesOf sizes begun edits list present affected parcel

-- the writes of a load: they have these keys, and none of them replaces a row
pub record AreLoaded (written : List Key) (list : List Write) : Type 0 where
  pub keys : written ≡ write_keys list
  pub fresh : All (λ (write : Write). write.replaces ≡ false) list

-- ---- outcomes

-- the statement needs no work of a desk before its Finish
abbrev pub needs_none : Bound → Bool
needs_none bound.Begin = true
needs_none bound.Commit = false
needs_none bound.Rollback = true
needs_none bound.Nothing = true
needs_none (bound.Statistics on) = true
needs_none (bound.Insert plan) = false
needs_none (bound.Update plan) = false
needs_none (bound.Delete condition) = false
needs_none (bound.Select query) = false
needs_none bound.GroupReport = true
needs_none bound.SegmentReport = true
needs_none (bound.Reorganize all) = true
needs_none (bound.Refused refusal) = true

-- a desk's outcome: it tells of no REORGANIZE what that left
abbrev pub IsOfDesk : Outcome → Type 0
IsOfDesk outcome.Nothing = Unit {0}
IsOfDesk (outcome.Answer r) = Unit {0}
IsOfDesk (outcome.Writes list present affected parcel) = Unit {0}
IsOfDesk (outcome.Load keys parcel) = Unit {0}
IsOfDesk (outcome.Commit parcel) = Unit {0}
IsOfDesk (outcome.Left groups) = ⊥
IsOfDesk outcome.Short = Unit {0}

-- the outcome is what the definitions give of a statement on what was begun, or Short
abbrev pub GivesOn : Sizes → Begun → Outcome → Type 0
GivesOn sizes begun outcome.Short = Unit {0}
GivesOn sizes begun outcome.Nothing = needs_none begun.bound ≡ true
GivesOn sizes begun (outcome.Answer r) = (begun.short ≡ false) × IsDecided begun.schema begun.bound (seen_by begun) r × IsPrintableReply begun.schema r
GivesOn sizes begun (outcome.Writes list present affected parcel) =
    (begun.short ≡ false) × (is_write begun.bound ≡ true) × GivesWrites sizes begun list.items present.items affected parcel
GivesOn sizes begun (outcome.Load keys parcel) =
    (begun.short ≡ false) × (is_write begun.bound ≡ true) × (list : List Write) × AreLoaded keys.items list × GivesWrites sizes begun list [] (length keys.items) (Some parcel)
GivesOn sizes begun (outcome.Commit parcel) = (begun.bound ≡ bound.Commit) × IsParcelFor begun.schema sizes begun.own parcel
GivesOn sizes begun (outcome.Left groups) = IsSome (reorganizes begun.bound)
