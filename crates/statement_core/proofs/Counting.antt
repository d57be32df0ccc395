-- The counts of segments that a reply tells.
use Rattle.std.proofs.Common.{◌≡◌, ℕ, List, [], ◌∷◌, ◌++◌, refl, sym, ap, subst, ◌∙◌, inl, inr, ◌⊎◌, Bool, true, false, Option, None, Some, Result, Ok, Err, nat_lt, cond}
use Rattle.std.specs.Prelude.{IfSome, IsSome, ◌==◌, ◌&&◌}
use Rattle.cs_types.specs.declared.Schema.{Schema}
use Rattle.cs_model.specs.declared.entry.Bound.{Bound}
use Rattle.cs_model.specs.declared.entry.Bound.TheVariants as bound
use Rattle.cs_model.specs.declared.entry.Entry.{Entry}
use Rattle.cs_model.specs.declared.entry.Refusal.{Refusal}
use Rattle.cs_model.specs.declared.entry.Refusal.TheVariants.{Reading, Memory}
use Rattle.cs_model.specs.declared.entry.Reply.{Reply}
use Rattle.cs_model.specs.declared.entry.Reply.TheVariants as reply
use Rattle.cs_model.specs.declared.plan.Query.{Query}
use Rattle.cs_model.specs.declared.pred.Pred.{Pred}
use Rattle.cs_model.specs.Actors.{actor_of, is_turn}
use Rattle.cs_model.specs.Answers.{writes}
use Rattle.cs_model.specs.Changes.{Edit, Table, Change}
use Rattle.cs_model.specs.Kinds.{is_of_table, is_write}
use Rattle.cs_model.specs.State.{State, Begin, Half, Txn, seen}
use Rattle.cs_model.specs.Steps.{IsReply, IsReplyTo, IsFinish, IsOutOfIds, IsWriteReply, IsWriteReplyOf, IsGroups, IsSegments, IsLeft, begin_reply, done_in}
use Rattle.log_laws.specs.Started.{Begun, seen_by}
use Rattle.group_book.specs.Book.{Book}
use Rattle.group_book.specs.Commits.{Sizes}
use Rattle.group_log.specs.Counted.{told_counts, AreCounts, AreCountsAt, IsBegunAt}
use Rattle.group_log.specs.Followed.{Ground}
use Rattle.group_log.proofs.Counting.{begun_on}
use Rattle.group_view.specs.declared.view.Pinned.{Pinned}
use Rattle.statement_core.specs.declared.core_state.CoreState.{CoreState}
use Rattle.statement_core.specs.declared.started.Outcome.{Outcome}
use Rattle.statement_core.specs.declared.started.Outcome.TheVariants as outcome
use Rattle.statement_core.specs.declared.started.Started.{Started}
use Rattle.statement_core.specs.Begun.{Hands}
use Rattle.statement_core.specs.CoreState.{state_of, settings_of}
use Rattle.statement_core.specs.Counted.{outcome_counts, condition_of, ArePinnedCounts, AreCountsOf, HasCounts, HasStartCounts}
use Rattle.statement_core.specs.Outcomes.{needs_none, told, IsDecided, IsValued, GivesOn}
use Rattle.statement_core.specs.Reorganizes.{reorganizes}
use Rattle.statement_core.specs.Settled.{IsDoneAt}
use Rattle.statement_core.proofs.Reorganizes.{is_reorganize}

-- ---- a reply to another statement than a query tells none

abbrev IsNoQuery : Bound → Type 0
IsNoQuery b = (query : Query) → b ≡ bound.Select query → ⊥

begin_tells : (o : Option Txn) → told_counts (begin_reply o) ≡ None
begin_tells None = refl
begin_tells (Some txn) = at (nat_lt txn.depth 32)
  where
    at : (t : Bool) → told_counts (cond t reply.Done (reply.Refused (Reading 50001 1))) ≡ None
    at true = refl
    at false = refl

done_tells : (o : Option Txn) (number : ℕ) → told_counts (done_in o number) ≡ None
done_tells None number = refl
done_tells (Some txn) number = refl

write_tells : (schema : Schema) (m : State) (session : ℕ) (o : Option Txn) (b : Bound) (r : Reply) → IsWriteReply schema m session o b r → told_counts r ≡ None
write_tells schema m session None b r h = absurd h
write_tells schema m session (Some txn) b r h = at (writes schema (seen m.changes txn) b) r h
  where
    at : (w : Result (List Edit) Refusal) (r : Reply) → IsWriteReplyOf m session txn.snapshot (seen m.changes txn) b w r → told_counts r ≡ None
    at (Err refusal) r h = ap told_counts h
    at (Ok edits) reply.Done h = refl
    at (Ok edits) (reply.Affected count) h = refl
    at (Ok edits) (reply.Rows rows segments) h = absurd h
    at (Ok edits) (reply.Groups lines buffered) h = refl
    at (Ok edits) (reply.Segments lines) h = refl
    at (Ok edits) (reply.Left groups) h = refl
    at (Ok edits) (reply.Refused refusal) h = refl

groups_tell : (r : Reply) → IsGroups r → told_counts r ≡ None
groups_tell reply.Done h = refl
groups_tell (reply.Affected count) h = refl
groups_tell (reply.Rows rows segments) h = absurd h
groups_tell (reply.Groups lines buffered) h = refl
groups_tell (reply.Segments lines) h = refl
groups_tell (reply.Left groups) h = refl
groups_tell (reply.Refused refusal) h = refl

segments_tell : (r : Reply) → IsSegments r → told_counts r ≡ None
segments_tell reply.Done h = refl
segments_tell (reply.Affected count) h = refl
segments_tell (reply.Rows rows segments) h = absurd h
segments_tell (reply.Groups lines buffered) h = refl
segments_tell (reply.Segments lines) h = refl
segments_tell (reply.Left groups) h = refl
segments_tell (reply.Refused refusal) h = refl

left_tells : (r : Reply) → IsLeft r → told_counts r ≡ None
left_tells reply.Done h = refl
left_tells (reply.Affected count) h = refl
left_tells (reply.Rows rows segments) h = absurd h
left_tells (reply.Groups lines buffered) h = refl
left_tells (reply.Segments lines) h = refl
left_tells (reply.Left groups) h = refl
left_tells (reply.Refused refusal) h = refl

reply_tells : (schema : Schema) (m : State) (session note : ℕ) (b : Bound) (r : Reply) → IsNoQuery b → IsReplyTo schema m session note b r → told_counts r ≡ None
reply_tells schema m session note bound.Begin r not h = ap told_counts h ∙ begin_tells (m.txns session)
reply_tells schema m session note bound.Commit r not h = ap told_counts h ∙ done_tells (m.txns session) 3902
reply_tells schema m session note bound.Rollback r not h = ap told_counts h ∙ done_tells (m.txns session) 3903
reply_tells schema m session note bound.Nothing r not h = ap told_counts h
reply_tells schema m session note (bound.Statistics on) r not h = ap told_counts h
reply_tells schema m session note (bound.Insert plan) r not h = write_tells schema m session (m.txns session) (bound.Insert plan) r h
reply_tells schema m session note (bound.Update plan) r not h = write_tells schema m session (m.txns session) (bound.Update plan) r h
reply_tells schema m session note (bound.Delete condition) r not h = write_tells schema m session (m.txns session) (bound.Delete condition) r h
reply_tells schema m session note (bound.Select query) r not h = absurd (not query refl)
reply_tells schema m session note bound.GroupReport r not h = groups_tell r h
reply_tells schema m session note bound.SegmentReport r not h = segments_tell r h
reply_tells schema m session note (bound.Reorganize all) r not h = left_tells r h
reply_tells schema m session note (bound.Refused refusal) r not h = ap told_counts h

no_query : {A : Type 0} (f : Bound → A) (value : A) (b : Bound) → f b ≡ value → ((query : Query) → f (bound.Select query) ≡ value → ⊥) → IsNoQuery b
no_query f value b is not query e = not query (sym (ap f e) ∙ is)

pub none_asks : (b : Bound) → needs_none b ≡ true → IsNoQuery b
none_asks b is = no_query needs_none true b is (λ query e. cc e)

pub write_asks : (b : Bound) → is_write b ≡ true → IsNoQuery b
write_asks b is = no_query is_write true b is (λ query e. cc e)

commit_asks : (b : Bound) → b ≡ bound.Commit → IsNoQuery b
commit_asks b is = λ query e. cc (is, e)

reorganize_asks : (b : Bound) → IsSome (reorganizes b) → IsNoQuery b
reorganize_asks b some = let is = is_reorganize b some in λ query e. cc (is.1, e)

-- ---- a Finish

-- what a session is told of counts are those that were given
told_kept : (P : ℕ × ℕ → Type 0) (on : Bool) (g : Reply) → IfSome (told_counts g) P → IfSome (told_counts (told on g)) P
told_kept P on reply.Done h = tt
told_kept P on (reply.Affected count) h = tt
told_kept P true (reply.Rows rows segments) h = h
told_kept P false (reply.Rows rows segments) h = tt
told_kept P on (reply.Groups lines buffered) h = tt
told_kept P on (reply.Segments lines) h = tt
told_kept P on (reply.Left groups) h = tt
told_kept P on (reply.Refused refusal) h = tt

module _ (begin : Begin) (changes : List Change) (old : CoreState) (session : ℕ) (half : Half) (r : Reply) (P : ℕ × ℕ → Type 0) where
  tells_none : told_counts r ≡ None → IfSome (told_counts r) P
  tells_none e = subst (λ o. IfSome o P) (sym e) tt

  refusal_tells : (refusal : Refusal) → r ≡ reply.Refused refusal → IfSome (told_counts r) P
  refusal_tells refusal e = tells_none (ap told_counts e)

  module _ (o : Outcome) (d : IsDoneAt begin changes old session half o) (short : o ≡ outcome.Short → r ≡ reply.Refused Memory)
      (given : (g : Reply) → o ≡ outcome.Answer g → r ≡ told (settings_of old.settings session) g) (counts : IfSome (outcome_counts o) P) where
    tells_at : (x : Outcome) → o ≡ x → IsDoneAt begin changes old session half x → IsReply begin.schema (state_of changes old) session half r → IfSome (told_counts r) P
    tells_at outcome.Nothing e x h = tells_none (reply_tells begin.schema (state_of changes old) session half.note half.bound r (none_asks half.bound (ap needs_none (sym x.bound) ∙ x.gives)) h)
    tells_at (outcome.Answer g) e x h =
        subst (λ z. IfSome (told_counts z) P) (sym (given g e)) (told_kept P (settings_of old.settings session) g (subst (λ z. IfSome (outcome_counts z) P) e counts))
    tells_at (outcome.Writes writes present affected parcel) e x h =
        let g = x.gives in tells_none (reply_tells begin.schema (state_of changes old) session half.note half.bound r (write_asks half.bound (ap is_write (sym x.bound) ∙ g.1)) h)
    tells_at (outcome.Load keys parcel) e x h = let g = x.gives in tells_none (reply_tells begin.schema (state_of changes old) session half.note half.bound r (write_asks half.bound (ap is_write (sym x.bound) ∙ g.1)) h)
    tells_at (outcome.Commit parcel) e x h = let g = x.gives in tells_none (reply_tells begin.schema (state_of changes old) session half.note half.bound r (commit_asks half.bound (sym x.bound ∙ g.0)) h)
    tells_at (outcome.Left groups) e x h =
        tells_none (reply_tells begin.schema (state_of changes old) session half.note half.bound r (reorganize_asks half.bound (subst (λ (y : Bound). IsSome (reorganizes y)) x.bound x.gives)) h)
    tells_at outcome.Short e x h = refusal_tells Memory (short e)

    pub tells_after : (after : State) → IsFinish begin.schema (state_of changes old) session (Some half) r after → IfSome (told_counts r) P
    tells_after after x = at x.0
      where
        among : IsReply begin.schema (state_of changes old) session half r ⊎ IsOutOfIds begin.schema (state_of changes old) session half r → IfSome (told_counts r) P
        among (inl h) = tells_at o refl d h
        among (inr out) = refusal_tells (Reading 50001 1) out.refuses

        at : (r ≡ reply.Refused Memory) ⊎ ((half.short ≡ false) × (IsReply begin.schema (state_of changes old) session half r ⊎ IsOutOfIds begin.schema (state_of changes old) session half r)) → IfSome (told_counts r) P
        at (inl e) = refusal_tells Memory e
        at (inr h) = among h.1

-- ---- the work of a desk

valued_tells : (w : Result (List Edit) Refusal) (r : Reply) → IsValued w r → told_counts r ≡ None
valued_tells (Ok edits) r h = absurd h
valued_tells (Err refusal) r h = ap told_counts h

-- what tells counts is a query
asked : (schema : Schema) (b : Bound) (t : Table) (r : Reply) (counts : ℕ × ℕ) → IsDecided schema b t r → told_counts r ≡ Some counts → (query : Query) × (b ≡ bound.Select query)
asked schema bound.Begin t r counts h e = absurd h
asked schema bound.Commit t r counts h e = absurd h
asked schema bound.Rollback t r counts h e = absurd h
asked schema bound.Nothing t r counts h e = absurd h
asked schema (bound.Statistics on) t r counts h e = absurd h
asked schema (bound.Insert plan) t r counts h e = absurd (cc (valued_tells (writes schema t (bound.Insert plan)) r h, e))
asked schema (bound.Update plan) t r counts h e = absurd (cc (valued_tells (writes schema t (bound.Update plan)) r h, e))
asked schema (bound.Delete condition) t r counts h e = absurd (cc (valued_tells (writes schema t (bound.Delete condition)) r h, e))
asked schema (bound.Select query) t r counts h e = (query, refl)
asked schema bound.GroupReport t r counts h e = absurd h
asked schema bound.SegmentReport t r counts h e = absurd h
asked schema (bound.Reorganize all) t r counts h e = absurd h
asked schema (bound.Refused refusal) t r counts h e = absurd h

-- an outcome of another statement tells none
pub others_tell : (sizes : Sizes) (begun : Begun) (o : Outcome) → GivesOn sizes begun o → IsNoQuery begun.bound → (P : ℕ × ℕ → Type 0) → IfSome (outcome_counts o) P
others_tell sizes begun outcome.Nothing g not P = tt
others_tell sizes begun (outcome.Answer r) g not P = at (told_counts r) refl
  where
    at : (o : Option (ℕ × ℕ)) → told_counts r ≡ o → IfSome o P
    at None e = tt
    at (Some counts) e = let is = asked begun.schema begun.bound (seen_by begun) r counts g.1 e in absurd (not is.0 is.1)
others_tell sizes begun (outcome.Writes list present affected parcel) g not P = tt
others_tell sizes begun (outcome.Load keys parcel) g not P = tt
others_tell sizes begun (outcome.Commit parcel) g not P = tt
others_tell sizes begun (outcome.Left groups) g not P = tt
others_tell sizes begun outcome.Short g not P = tt

-- counts over what is pinned are those of the groups at the Start
module _ (origin : Ground) (log : List Entry) (session : ℕ) (started : Started) (sizes : Sizes) (begun : Begun) (hands : Hands begun started) (has : HasStartCounts origin log session started) where
  pinned_are : (schema : Schema) (changes : List Change) (book : Book) (condition : Option Pred) (pinned : Option Pinned) (counts : ℕ × ℕ) → HasCounts schema changes book pinned → ArePinnedCounts schema condition pinned counts
      → AreCounts schema changes book condition counts
  pinned_are schema changes book condition None counts h e = absurd h
  pinned_are schema changes book condition (Some pinned) counts h e = subst (AreCounts schema changes book condition) (sym e) (h condition)

  answer_counts : (r : Reply) → GivesOn sizes begun (outcome.Answer r) → (o : Option (ℕ × ℕ)) → told_counts r ≡ o
      → IfSome o (ArePinnedCounts started.terms.value.schema.value (condition_of started.bound.value) started.pinned) → IfSome o (AreCountsAt origin log session)
  answer_counts r g None e of = tt
  answer_counts r g (Some counts) e of =
      let asks = asked begun.schema begun.bound (seen_by begun) r counts g.1 e in
      let is : started.bound.value ≡ bound.Select asks.0 = hands.bound ∙ asks.1 in
      let shown = has.has (ap is_of_table is) (hands.short ∙ g.0) in
      let begin = origin.begin in
      record {
        query = asks.0;
        state = has.state;
        book = has.book;
        begun = subst (λ b. IsBegunAt origin log session b has.state has.book) is has.begun;
        are = pinned_are begin.schema has.state.changes has.book asks.0.filter started.pinned counts shown
            (subst (λ b. ArePinnedCounts begin.schema (condition_of b) started.pinned counts) is
            (subst (λ (s : Schema). ArePinnedCounts s (condition_of started.bound.value) started.pinned counts) has.schema of));
      }

  pub start_counts : (o : Outcome) → GivesOn sizes begun o → AreCountsOf started o → IfSome (outcome_counts o) (AreCountsAt origin log session)
  start_counts outcome.Nothing g of = tt
  start_counts (outcome.Answer r) g of = answer_counts r g (told_counts r) refl of
  start_counts (outcome.Writes list present affected parcel) g of = tt
  start_counts (outcome.Load keys parcel) g of = tt
  start_counts (outcome.Commit parcel) g of = tt
  start_counts (outcome.Left groups) g of = tt
  start_counts outcome.Short g of = tt

-- what was started has them while others make entries
pub start_counts_on : (origin : Ground) (log : List Entry) (entry : Entry) (session : ℕ) (started : Started) → (is_turn entry && (actor_of entry == session)) ≡ false → HasStartCounts origin log session started
    → HasStartCounts origin (log ++ entry ∷ []) session started
start_counts_on origin log entry session started other has = record {
  schema = has.schema;
  state = has.state;
  book = has.book;
  begun = begun_on origin log entry session started.bound.value has.state has.book other has.begun;
  has = has.has;
}
