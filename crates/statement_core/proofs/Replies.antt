-- What is said of a reply: what it shows, and that no defined one stands in the place of another.
use Rattle.std.proofs.Common.{◌≡◌, ◌<◌, ℕ, List, refl, sym, ap, subst, ◌∙◌, cond, inl, inr, ◌⊎◌, arith, Bool, true, false, Option, None, Some, Result, Ok, Err, nat_lt}
use Rattle.std.specs.Map.{values_of}
use Rattle.cs_types.specs.declared.Loose.{Loose}
use Rattle.cs_types.specs.declared.Schema.{Schema}
use Rattle.cs_model.specs.declared.entry.Bound.{Bound}
use Rattle.cs_model.specs.declared.entry.Bound.TheVariants as bound
use Rattle.cs_model.specs.declared.entry.Refusal.{Refusal}
use Rattle.cs_model.specs.declared.entry.Refusal.TheVariants.{Reading, Valued, Memory}
use Rattle.cs_model.specs.declared.entry.Reply.{Reply}
use Rattle.cs_model.specs.declared.entry.Reply.TheVariants as reply
use Rattle.cs_model.specs.declared.plan.Query.{Query}
use Rattle.cs_model.specs.Answers.{writes}
use Rattle.cs_model.specs.declared.kind.Kind.TheVariants as kind
use Rattle.cs_model.specs.Changes.{Edit, Change}
use Rattle.cs_model.specs.Kinds.{kind_of}
use Rattle.cs_model.specs.Queries.{answer}
use Rattle.cs_model.specs.State.{Txn, Half, State, seen}
use Rattle.cs_model.specs.Steps.{IsReply, IsReplyTo, IsWriteReply, IsWriteReplyOf, IsAnswer, IsAnswerIn, IsLeft, began, gone, ends_txn, refused, replied, begin_reply, done_in}
use Rattle.group_book.specs.Book.{Book}
use Rattle.group_log.specs.Followed.{ShowsBook}
use Rattle.statement_core.specs.Settled.{WantsIds}

-- ---- what a reply shows

module _ (now : Schema) (changes : List Change) (book : Book) where
  pub refused_shows : (r : Reply) (refusal : Refusal) → r ≡ reply.Refused refusal → ShowsBook now changes book r
  refused_shows r refusal e = subst (ShowsBook now changes book) (sym e) tt

  begin_shows : (o : Option Txn) → ShowsBook now changes book (begin_reply o)
  begin_shows None = tt
  begin_shows (Some txn) = at (nat_lt txn.depth 32)
    where
      at : (t : Bool) → ShowsBook now changes book (cond t reply.Done (reply.Refused (Reading 50001 1)))
      at true = tt
      at false = tt

  done_shows : (o : Option Txn) (number : ℕ) → ShowsBook now changes book (done_in o number)
  done_shows None number = tt
  done_shows (Some txn) number = tt

  write_shows : (schema : Schema) (m : State) (session : ℕ) (b : Bound) (o : Option Txn) (r : Reply) → IsWriteReply schema m session o b r → ShowsBook now changes book r
  write_shows schema m session b None r h = absurd h
  write_shows schema m session b (Some txn) r h = at (writes schema (seen m.changes txn) b) r h
    where
      at : (w : Result (List Edit) Refusal) (r : Reply) → IsWriteReplyOf m session txn.snapshot (seen m.changes txn) b w r → ShowsBook now changes book r
      at (Err refusal) r h = refused_shows r refusal h
      at (Ok edits) reply.Done h = tt
      at (Ok edits) (reply.Affected count) h = tt
      at (Ok edits) (reply.Rows rows segments) h = tt
      at (Ok edits) (reply.Groups lines buffered) h = absurd h
      at (Ok edits) (reply.Segments lines) h = absurd h
      at (Ok edits) (reply.Left groups) h = absurd h
      at (Ok edits) (reply.Refused refusal) h = tt

  answer_shows : (on : Bool) (answered : Result (List (List Loose)) (ℕ × ℕ)) (r : Reply) → IsAnswer on answered r → ShowsBook now changes book r
  answer_shows on (Err place) r h = refused_shows r (Valued 8115 place.0 place.1) h
  answer_shows on (Ok rows) reply.Done h = tt
  answer_shows on (Ok rows) (reply.Affected count) h = tt
  answer_shows on (Ok rows) (reply.Rows list segments) h = tt
  answer_shows on (Ok rows) (reply.Groups lines buffered) h = absurd h
  answer_shows on (Ok rows) (reply.Segments lines) h = absurd h
  answer_shows on (Ok rows) (reply.Left groups) h = absurd h
  answer_shows on (Ok rows) (reply.Refused refusal) h = tt

  select_shows : (schema : Schema) (m : State) (session : ℕ) (o : Option Txn) (query : Query) (r : Reply) → IsAnswerIn schema m session o query r → ShowsBook now changes book r
  select_shows schema m session None query r h = absurd h
  select_shows schema m session (Some txn) query r h = answer_shows (m.statistics session) (answer schema query (values_of (seen m.changes txn))) r h

  left_shows : (r : Reply) → IsLeft r → ShowsBook now changes book r
  left_shows reply.Done h = tt
  left_shows (reply.Affected count) h = tt
  left_shows (reply.Rows rows segments) h = tt
  left_shows (reply.Groups lines buffered) h = absurd h
  left_shows (reply.Segments lines) h = absurd h
  left_shows (reply.Left groups) h = tt
  left_shows (reply.Refused refusal) h = tt

  -- a reply that is the defined one shows the book, where a report does
  pub reply_shows : (schema : Schema) (m : State) (session note : ℕ) (b : Bound) (r : Reply) → IsReplyTo schema m session note b r → (kind_of b ≡ kind.Report → ShowsBook now changes book r) → ShowsBook now changes book r
  reply_shows schema m session note bound.Begin r h k = subst (ShowsBook now changes book) (sym h) (begin_shows (m.txns session))
  reply_shows schema m session note bound.Commit r h k = subst (ShowsBook now changes book) (sym h) (done_shows (m.txns session) 3902)
  reply_shows schema m session note bound.Rollback r h k = subst (ShowsBook now changes book) (sym h) (done_shows (m.txns session) 3903)
  reply_shows schema m session note bound.Nothing r h k = subst (ShowsBook now changes book) (sym h) tt
  reply_shows schema m session note (bound.Statistics on) r h k = subst (ShowsBook now changes book) (sym h) tt
  reply_shows schema m session note (bound.Insert plan) r h k = write_shows schema m session (bound.Insert plan) (m.txns session) r h
  reply_shows schema m session note (bound.Update plan) r h k = write_shows schema m session (bound.Update plan) (m.txns session) r h
  reply_shows schema m session note (bound.Delete condition) r h k = write_shows schema m session (bound.Delete condition) (m.txns session) r h
  reply_shows schema m session note (bound.Select query) r h k = select_shows schema m session (m.txns session) query r h
  reply_shows schema m session note bound.GroupReport r h k = k refl
  reply_shows schema m session note bound.SegmentReport r h k = k refl
  reply_shows schema m session note (bound.Reorganize all) r h k = left_shows r h
  reply_shows schema m session note (bound.Refused refusal) r h k = refused_shows r refusal h

-- ---- no defined reply stands in the place of one after which something is committed

-- a refusal commits nothing
pub refused_clock : (m : State) (session : ℕ) (refusal : Refusal) → (refused m session refusal).clock ≡ m.clock
refused_clock m session refusal = at (ends_txn (m.txns session) refusal)
  where
    at : (t : Bool) → (cond t (gone m session) m).clock ≡ m.clock
    at true = refl
    at false = refl

pub not_above : (a b : ℕ) → b ≡ a → a < b → ⊥
not_above a b e lt = omega (arith, e, lt)

module _ (schema : Schema) (m : State) (session : ℕ) where
  -- what is given is a refusal
  no_commit : (b : Bound) (given : Reply) (refusal : Refusal) → given ≡ reply.Refused refusal → m.clock < (replied schema m session b given).clock → ⊥
  no_commit b given refusal e lt = not_above m.clock (replied schema m session b given).clock (ap (λ x. (replied schema m session b x).clock) e ∙ refused_clock m session refusal) lt

  began_clock : (o : Option Txn) → (began m session o).clock ≡ m.clock
  began_clock None = refl
  began_clock (Some txn) = refl

  begin_keeps : (given : Reply) (o : Option Txn) → given ≡ begin_reply o → m.clock < (replied schema m session bound.Begin given).clock → ⊥
  begin_keeps given None e lt = not_above m.clock (replied schema m session bound.Begin given).clock (ap (λ x. (replied schema m session bound.Begin x).clock) e ∙ began_clock (m.txns session)) lt
  begin_keeps given (Some txn) e lt = at (nat_lt txn.depth 32) e
    where
      at : (t : Bool) → given ≡ cond t reply.Done (reply.Refused (Reading 50001 1)) → ⊥
      at true e = not_above m.clock (replied schema m session bound.Begin given).clock (ap (λ x. (replied schema m session bound.Begin x).clock) e ∙ began_clock (m.txns session)) lt
      at false e = no_commit bound.Begin given (Reading 50001 1) e lt

  -- a reply that reads as want of an id is none of these
  done_never : (o : Option Txn) (number : ℕ) → done_in o number ≡ reply.Refused (Reading 50001 1) → ⊥
  done_never None number e = cc e
  done_never (Some txn) number e = cc e

  write_never : (b : Bound) (o : Option Txn) (r given : Reply) → IsWriteReply schema m session o b r → r ≡ reply.Refused (Reading 50001 1) → IsWriteReply schema m session o b given → m.clock < (replied schema m session b given).clock → ⊥
  write_never b None r given h e g lt = absurd h
  write_never b (Some txn) r given h e g lt = at (writes schema (seen m.changes txn) b) (subst (λ x. IsWriteReply schema m session (Some txn) b x) e h) g
    where
      at : (w : Result (List Edit) Refusal) → IsWriteReplyOf m session txn.snapshot (seen m.changes txn) b w (reply.Refused (Reading 50001 1)) → IsWriteReplyOf m session txn.snapshot (seen m.changes txn) b w given → ⊥
      at (Err refusal) h g = no_commit b given refusal g lt
      at (Ok edits) h g = h.is

  answer_never : (o : Option Txn) (query : Query) → IsAnswerIn schema m session o query (reply.Refused (Reading 50001 1)) → ⊥
  answer_never None query h = h
  answer_never (Some txn) query h = at (answer schema query (values_of (seen m.changes txn))) h
    where
      at : (answered : Result (List (List Loose)) (ℕ × ℕ)) → IsAnswer (m.statistics session) answered (reply.Refused (Reading 50001 1)) → ⊥
      at (Ok rows) h = h
      at (Err place) h = cc h

  defined_never : (note : ℕ) (b : Bound) (r given : Reply) → IsReplyTo schema m session note b given → m.clock < (replied schema m session b given).clock → r ≡ reply.Refused (Reading 50001 1) → IsReplyTo schema m session note b r → ⊥
  defined_never note bound.Begin r given g lt e h = begin_keeps given (m.txns session) g lt
  defined_never note bound.Commit r given g lt e h = done_never (m.txns session) 3902 (sym h ∙ e)
  defined_never note bound.Rollback r given g lt e h = done_never (m.txns session) 3903 (sym h ∙ e)
  defined_never note bound.Nothing r given g lt e h = cc (h, e)
  defined_never note (bound.Statistics on) r given g lt e h = cc (h, e)
  defined_never note (bound.Insert plan) r given g lt e h = write_never (bound.Insert plan) (m.txns session) r given h e g lt
  defined_never note (bound.Update plan) r given g lt e h = write_never (bound.Update plan) (m.txns session) r given h e g lt
  defined_never note (bound.Delete condition) r given g lt e h = write_never (bound.Delete condition) (m.txns session) r given h e g lt
  defined_never note (bound.Select query) r given g lt e h = answer_never (m.txns session) query (subst (λ x. IsAnswerIn schema m session (m.txns session) query x) e h)
  defined_never note bound.GroupReport r given g lt e h = subst (IsReplyTo schema m session note bound.GroupReport) e h
  defined_never note bound.SegmentReport r given g lt e h = subst (IsReplyTo schema m session note bound.SegmentReport) e h
  defined_never note (bound.Reorganize all) r given g lt e h = subst (IsReplyTo schema m session note (bound.Reorganize all)) e h
  defined_never note (bound.Refused refusal) r given g lt e h = no_commit (bound.Refused refusal) given refusal g lt

  -- nor is want of memory
  pub never_wants : (half : Half) (r : Reply) → (r ≡ reply.Refused Memory) ⊎ IsReply schema m session half r → WantsIds schema m session half r → ⊥
  never_wants half r (inl e) w = wants_memory e w.refuses
    where
      wants_memory : r ≡ reply.Refused Memory → r ≡ reply.Refused (Reading 50001 1) → ⊥
      wants_memory e f = cc (e, f)
  never_wants half r (inr h) w = defined_never half.note half.bound r w.given w.is_reply w.commits w.refuses h
