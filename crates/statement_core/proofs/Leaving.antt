-- A reply tells what a REORGANIZE left where that was its outcome.
use Rattle.std.proofs.Common.{◌≡◌, ◌⊎◌, inl, inr, ℕ, List, refl, subst, cond, Bool, true, false, Option, None, Some, Result, Ok, Err, nat_lt}
use Rattle.std.specs.Map.{values_of}
use Rattle.cs_types.specs.declared.Loose.{Loose}
use Rattle.cs_types.specs.declared.Schema.{Schema}
use Rattle.cs_model.specs.declared.entry.Bound.{Bound}
use Rattle.cs_model.specs.declared.entry.Bound.TheVariants as bound
use Rattle.cs_model.specs.declared.entry.Entry.{Entry}
use Rattle.cs_model.specs.declared.entry.Refusal.{Refusal}
use Rattle.cs_model.specs.declared.entry.Refusal.TheVariants.{Reading, Memory}
use Rattle.cs_model.specs.declared.entry.Reply.{Reply}
use Rattle.cs_model.specs.declared.entry.Reply.TheVariants as reply
use Rattle.cs_model.specs.declared.plan.Query.{Query}
use Rattle.cs_model.specs.declared.work.Actor.{Actor}
use Rattle.cs_model.specs.Answers.{writes}
use Rattle.cs_model.specs.Changes.{Edit, Change}
use Rattle.cs_model.specs.Queries.{answer}
use Rattle.cs_model.specs.State.{Txn, Half, State, seen}
use Rattle.cs_model.specs.Steps.{IsReply, IsReplyTo, IsWriteReply, IsWriteReplyOf, IsAnswer, IsAnswerIn, begin_reply, done_in}
use Rattle.group_log.specs.Followed.{Ground}
use Rattle.group_log.specs.Reorganizing.{IsLeaving}
use Rattle.statement_core.specs.declared.core_state.CoreState.{CoreState}
use Rattle.statement_core.specs.declared.started.Outcome.{Outcome}
use Rattle.statement_core.specs.declared.started.Outcome.TheVariants as outcome
use Rattle.statement_core.specs.Reorganizes.{reorganizes, LeavesBy, IsNoneLeft, IsToldBy}
use Rattle.statement_core.specs.CoreState.{state_of}
use Rattle.statement_core.specs.Settled.{WantsIds, Ends}

-- ---- another statement than a REORGANIZE

module _ (groups : List (ℕ × Actor)) where
  begin_never : (o : Option Txn) → reply.Left groups ≡ begin_reply o → ⊥
  begin_never None e = cc e
  begin_never (Some txn) e = at (nat_lt txn.depth 32) e
    where
      at : (t : Bool) → reply.Left groups ≡ cond t reply.Done (reply.Refused (Reading 50001 1)) → ⊥
      at true e = cc e
      at false e = cc e

  done_never : (o : Option Txn) (number : ℕ) → reply.Left groups ≡ done_in o number → ⊥
  done_never None number e = cc e
  done_never (Some txn) number e = cc e

  write_never : (schema : Schema) (m : State) (session : ℕ) (o : Option Txn) (b : Bound) → IsWriteReply schema m session o b (reply.Left groups) → ⊥
  write_never schema m session None b h = h
  write_never schema m session (Some txn) b h = at (writes schema (seen m.changes txn) b) h
    where
      at : (w : Result (List Edit) Refusal) → IsWriteReplyOf m session txn.snapshot (seen m.changes txn) b w (reply.Left groups) → ⊥
      at (Ok edits) h = h
      at (Err refusal) h = cc h

  query_never : (schema : Schema) (m : State) (session : ℕ) (o : Option Txn) (query : Query) → IsAnswerIn schema m session o query (reply.Left groups) → ⊥
  query_never schema m session None query h = h
  query_never schema m session (Some txn) query h = at (answer schema query (values_of (seen m.changes txn))) h
    where
      at : (answered : Result (List (List Loose)) (ℕ × ℕ)) → IsAnswer (m.statistics session) answered (reply.Left groups) → ⊥
      at (Ok rows) h = h
      at (Err place) h = cc h

  reply_never : (schema : Schema) (m : State) (session note : ℕ) (b : Bound) → reorganizes b ≡ None → IsReplyTo schema m session note b (reply.Left groups) → ⊥
  reply_never schema m session note bound.Begin e h = begin_never (m.txns session) h
  reply_never schema m session note bound.Commit e h = done_never (m.txns session) 3902 h
  reply_never schema m session note bound.Rollback e h = done_never (m.txns session) 3903 h
  reply_never schema m session note bound.Nothing e h = cc h
  reply_never schema m session note (bound.Statistics on) e h = cc h
  reply_never schema m session note (bound.Insert plan) e h = write_never schema m session (m.txns session) (bound.Insert plan) h
  reply_never schema m session note (bound.Update plan) e h = write_never schema m session (m.txns session) (bound.Update plan) h
  reply_never schema m session note (bound.Delete condition) e h = write_never schema m session (m.txns session) (bound.Delete condition) h
  reply_never schema m session note (bound.Select query) e h = query_never schema m session (m.txns session) query h
  reply_never schema m session note bound.GroupReport e h = h
  reply_never schema m session note bound.SegmentReport e h = h
  reply_never schema m session note (bound.Reorganize all) e h = cc e
  reply_never schema m session note (bound.Refused refusal) e h = cc h

  memory_never : (r : Reply) → r ≡ reply.Refused Memory → r ≡ reply.Left groups → ⊥
  memory_never r e f = cc (e, f)

  -- has no reply that tells what was left
  pub settled_never : (schema : Schema) (m : State) (session : ℕ) (half : Half) (r : Reply) → reorganizes half.bound ≡ None → (r ≡ reply.Refused Memory) ⊎ IsReply schema m session half r → r ≡ reply.Left groups → ⊥
  settled_never schema m session half r other (inl e) is = memory_never r e is
  settled_never schema m session half r other (inr h) is = reply_never schema m session half.note half.bound other (subst (IsReply schema m session half) is h)

  pub never_left : (schema : Schema) (changes : List Change) (old : CoreState) (session : ℕ) (half : Half) (r : Reply) (new : CoreState) → Ends schema changes old session half r new → reorganizes half.bound ≡ None
      → r ≡ reply.Left groups → ⊥
  never_left schema changes old session half r new ends other is = let said = ends.said in at said.reply
    where
      wants : r ≡ reply.Refused (Reading 50001 1) → r ≡ reply.Left groups → ⊥
      wants e f = cc (e, f)

      among : IsReply schema (state_of changes old) session half r ⊎ WantsIds schema (state_of changes old) session half r → ⊥
      among (inl h) = reply_never schema (state_of changes old) session half.note half.bound other (subst (IsReply schema (state_of changes old) session half) is h)
      among (inr w) = wants w.refuses is

      at : (r ≡ reply.Refused Memory) ⊎ ((half.short ≡ false) × (IsReply schema (state_of changes old) session half r ⊎ WantsIds schema (state_of changes old) session half r)) → ⊥
      at (inl e) = memory_never r e is
      at (inr h) = among h.1

-- ---- a Finish

-- what a reply tells was left is what its REORGANIZE leaves
pub leaving : (origin : Ground) (log : List Entry) (session : ℕ) (o : Outcome) (r : Reply) → ((groups : List (ℕ × Actor)) → r ≡ reply.Left groups → o ≡ outcome.Left groups) → LeavesBy origin log session o → IsLeaving origin log session r
leaving origin log session o reply.Done from left = tt
leaving origin log session o (reply.Affected count) from left = tt
leaving origin log session o (reply.Rows rows segments) from left = tt
leaving origin log session o (reply.Groups lines buffered) from left = tt
leaving origin log session o (reply.Segments lines) from left = tt
leaving origin log session o (reply.Left groups) from left = subst (LeavesBy origin log session) (from groups refl) left
leaving origin log session o (reply.Refused refusal) from left = tt

none_left : (r : Reply) → ((groups : List (ℕ × Actor)) → r ≡ reply.Left groups → ⊥) → IsNoneLeft r
none_left reply.Done not = tt
none_left (reply.Affected count) not = tt
none_left (reply.Rows rows segments) not = tt
none_left (reply.Groups lines buffered) not = tt
none_left (reply.Segments lines) not = tt
none_left (reply.Left groups) not = absurd (not groups refl)
none_left (reply.Refused refusal) not = tt

-- the reply is the outcome's
pub told_by : (o : Outcome) (r : Reply) → ((groups : List (ℕ × Actor)) → r ≡ reply.Left groups → o ≡ outcome.Left groups) → ((groups : List (ℕ × Actor)) → o ≡ outcome.Left groups → r ≡ reply.Left groups)
    → (o ≡ outcome.Short → r ≡ reply.Refused Memory) → IsToldBy o r
told_by outcome.Nothing r from tells short = none_left r (λ groups is. let e = from groups is in cc e)
told_by (outcome.Answer given) r from tells short = none_left r (λ groups is. let e = from groups is in cc e)
told_by (outcome.Writes list present affected parcel) r from tells short = none_left r (λ groups is. let e = from groups is in cc e)
told_by (outcome.Load keys parcel) r from tells short = none_left r (λ groups is. let e = from groups is in cc e)
told_by (outcome.Commit parcel) r from tells short = none_left r (λ groups is. let e = from groups is in cc e)
told_by (outcome.Left groups) r from tells short = tells groups refl
told_by outcome.Short r from tells short = short refl
