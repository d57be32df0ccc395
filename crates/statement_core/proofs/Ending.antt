-- How a Finish ends: what is said of its reply, and what is left.
use Rattle.std.proofs.Common.{◌≡◌, ◌<◌, ℕ, List, refl, sym, ap, subst, ◌∙◌, inl, inr, ◌⊎◌, true, false, Option, None, Some}
use Rattle.cs_types.specs.declared.Schema.{Schema}
use Rattle.cs_model.specs.declared.entry.Bound.{Bound}
use Rattle.cs_model.specs.declared.entry.Bound.TheVariants as bound
use Rattle.cs_model.specs.declared.entry.Refusal.{Refusal}
use Rattle.cs_model.specs.declared.entry.Refusal.TheVariants.{Reading, Memory}
use Rattle.cs_model.specs.declared.entry.Reply.{Reply}
use Rattle.cs_model.specs.declared.entry.Reply.TheVariants as reply
use Rattle.cs_model.specs.declared.kind.Kind.TheVariants as kind
use Rattle.cs_model.specs.Changes.{Edit, Change}
use Rattle.cs_model.specs.Kinds.{kind_of}
use Rattle.cs_model.specs.State.{State, Half, Begin, half_set}
use Rattle.cs_model.specs.Steps.{IsReply, IsReplyTo, IsFinish, IsOutOfIds, accepted, refused, replied, rested, finished}
use Rattle.group_book.specs.Book.{Book}
use Rattle.group_book.specs.Commits.{Sizes, draws_past}
use Rattle.group_log.specs.Followed.{book_with, committed_edits, Commits, ShowsBook, IsFull}
use Rattle.group_directory.specs.Laws.{sizes_of}
use Rattle.group_directory.specs.Stands.{Stands}
use Rattle.statement_core.specs.declared.core_state.CoreState.{CoreState}
use Rattle.statement_core.specs.CoreState.{state_of, groups_of, IsSame}
use Rattle.statement_core.specs.Leaves.{Leaves}
use Rattle.statement_core.specs.Settled.{Settles, WantsIds, IsSaid, Ends, IsFinished}
use Rattle.statement_core.proofs.Replies.{refused_shows, reply_shows, refused_clock, not_above, never_wants}
use Rattle.statement_core.proofs.Stills.{sizes_same, same_leaves, commits_alike}

-- ---- what is said

module _ (schema : Schema) (sizes : Sizes) (m : State) (book : Book) (session : ℕ) (half : Half) where
  -- what is accepted in the place of want of an id
  wants_accepts : (given : Reply) → m.clock < (replied schema m session half.bound given).clock → replied schema m session half.bound given ≡ accepted schema m session half.bound
  wants_accepts reply.Done lt = refl
  wants_accepts (reply.Affected count) lt = refl
  wants_accepts (reply.Rows rows segments) lt = refl
  wants_accepts (reply.Groups lines buffered) lt = refl
  wants_accepts (reply.Segments lines) lt = refl
  wants_accepts (reply.Left groups) lt = refl
  wants_accepts (reply.Refused refusal) lt = absurd (not_above m.clock (refused m session refusal).clock (refused_clock m session refusal) lt)

  -- of the defined reply, or of want of memory
  pub said_plain : (r : Reply) → (r ≡ reply.Refused Memory) ⊎ ((half.short ≡ false) × IsReply schema m session half r) → (kind_of half.bound ≡ kind.Report → ShowsBook schema m.changes book r) → IsSaid schema sizes m book session half r
  said_plain r (inl e) k = record {
    reply = inl e;
    full = λ wants. absurd (never_wants schema m session half r (inl e) wants);
    shows = refused_shows schema m.changes book r Memory e;
  }
  said_plain r (inr h) k = record {
    reply = inr (h.0, inl h.1);
    full = λ wants. absurd (never_wants schema m session half r (inr h.1) wants);
    shows = reply_shows schema m.changes book schema m session half.note half.bound r h.1 k;
  }

  -- of want of an id: what would be committed draws one above 2^62
  pub said_full : (r given : Reply) (own : List Edit) → r ≡ reply.Refused (Reading 50001 1) → half.short ≡ false → IsReply schema m session half given → m.clock < (replied schema m session half.bound given).clock
      → committed_edits m (accepted schema m session half.bound) ≡ own → draws_past book (book_with sizes m own book) ≡ true → IsSaid schema sizes m book session half r
  said_full r given own e found is lt edits past = record {
    reply = inr (found, inr (record { given = given; is_reply = is; commits = lt; refuses = e }));
    full = λ wants. ap (λ (es : List Edit). draws_past book (book_with sizes m es book)) (ap (committed_edits m) (wants_accepts wants.given wants.commits) ∙ edits) ∙ past;
    shows = refused_shows schema m.changes book r (Reading 50001 1) e;
  }

-- ---- how it ends

module _ (schema : Schema) (changes : List Change) (old new : CoreState) (session : ℕ) (half : Half) (r : Reply) where
  pub ends_settled : Stands new.directory changes → IsSame old new → half.short ≡ false → (kind_of half.bound ≡ kind.Report → ShowsBook schema changes (groups_of old) r) → Settles schema (state_of changes old) session half r (state_of changes new)
      → Ends schema changes old session half r new
  ends_settled j same found k s = record {
    said = said_plain schema (sizes_of old.directory) (state_of changes old) (groups_of old) session half r (at s.reply) k;
    leaves = same_leaves changes old new (replied schema (state_of changes old) session half.bound r) j same s.state;
  }
    where
      at : (r ≡ reply.Refused Memory) ⊎ IsReply schema (state_of changes old) session half r → (r ≡ reply.Refused Memory) ⊎ ((half.short ≡ false) × IsReply schema (state_of changes old) session half r)
      at (inl e) = inl e
      at (inr h) = inr (found, h)

  -- for want of memory
  pub ends_short : Stands new.directory changes → IsSame old new → r ≡ reply.Refused Memory → state_of changes new ≡ refused (state_of changes old) session Memory → Ends schema changes old session half r new
  ends_short j same e state = record {
    said = said_plain schema (sizes_of old.directory) (state_of changes old) (groups_of old) session half r (inl e) (λ k. refused_shows schema changes (groups_of old) r Memory e);
    leaves = same_leaves changes old new (replied schema (state_of changes old) session half.bound r) j same (state ∙ ap (replied schema (state_of changes old) session half.bound) (sym e));
  }

  -- with the defined refusal
  pub ends_refused : (refusal : Refusal) → Stands new.directory changes → IsSame old new → half.short ≡ false → r ≡ reply.Refused refusal → IsReply schema (state_of changes old) session half (reply.Refused refusal)
      → state_of changes new ≡ refused (state_of changes old) session refusal → Ends schema changes old session half r new
  ends_refused refusal j same found e is state =
      ends_settled j same found (λ k. refused_shows schema changes (groups_of old) r refusal e)
      (record { reply = inr (subst (IsReply schema (state_of changes old) session half) (sym e) is); state = state ∙ ap (replied schema (state_of changes old) session half.bound) (sym e) })

-- ---- a statement that was half done

reply_rested : (schema : Schema) (m : State) (session note : ℕ) (b : Bound) (r : Reply) → IsReplyTo schema (rested m session) session note b r → IsReplyTo schema m session note b r
reply_rested schema m session note bound.Begin r h = h
reply_rested schema m session note bound.Commit r h = h
reply_rested schema m session note bound.Rollback r h = h
reply_rested schema m session note bound.Nothing r h = h
reply_rested schema m session note (bound.Statistics on) r h = h
reply_rested schema m session note (bound.Insert plan) r h = h
reply_rested schema m session note (bound.Update plan) r h = h
reply_rested schema m session note (bound.Delete condition) r h = h
reply_rested schema m session note (bound.Select query) r h = h
reply_rested schema m session note bound.GroupReport r h = h
reply_rested schema m session note bound.SegmentReport r h = h
reply_rested schema m session note (bound.Reorganize all) r h = h
reply_rested schema m session note (bound.Refused refusal) r h = h

rested_reply : (schema : Schema) (m : State) (session note : ℕ) (b : Bound) (r : Reply) → IsReplyTo schema m session note b r → IsReplyTo schema (rested m session) session note b r
rested_reply schema m session note bound.Begin r h = h
rested_reply schema m session note bound.Commit r h = h
rested_reply schema m session note bound.Rollback r h = h
rested_reply schema m session note bound.Nothing r h = h
rested_reply schema m session note (bound.Statistics on) r h = h
rested_reply schema m session note (bound.Insert plan) r h = h
rested_reply schema m session note (bound.Update plan) r h = h
rested_reply schema m session note (bound.Delete condition) r h = h
rested_reply schema m session note (bound.Select query) r h = h
rested_reply schema m session note bound.GroupReport r h = h
rested_reply schema m session note bound.SegmentReport r h = h
rested_reply schema m session note (bound.Reorganize all) r h = h
rested_reply schema m session note (bound.Refused refusal) r h = h

module _ (begin : Begin) (changes : List Change) (old mid new : CoreState) (session : ℕ) (half : Half) (r : Reply) (is : (state_of changes old).half session ≡ Some half)
    (same : IsSame old mid) (state : state_of changes mid ≡ half_set (state_of changes old) session None) (ends : Ends begin.schema changes mid session half r new) where
  m : State
  m = state_of changes old

  -- what is said, in the state that rests
  said : IsSaid begin.schema (sizes_of old.directory) (rested (state_of changes old) session) (groups_of old) session half r
  said =
      subst (λ (sizes : Sizes). IsSaid begin.schema sizes (rested (state_of changes old) session) (groups_of old) session half r) (sizes_same old mid same)
      (subst (λ (book : Book). IsSaid begin.schema (sizes_of mid.directory) (rested (state_of changes old) session) book session half r) same.groups
      (subst (λ (x : State). IsSaid begin.schema (sizes_of mid.directory) x (groups_of mid) session half r) state ends.said))

  leaves : Leaves changes mid new (replied begin.schema (state_of changes mid) session half.bound r)
  leaves = ends.leaves

  after_is : state_of leaves.later new ≡ finished begin.schema (state_of changes old) session half.bound r
  after_is = leaves.state ∙ ap (λ (x : State). replied begin.schema x session half.bound r) state

  abbrev wants_out : WantsIds begin.schema (rested (state_of changes old) session) session half r → IsOutOfIds begin.schema (state_of changes old) session half r
  wants_out w = record { given = w.given; is_reply = reply_rested begin.schema (state_of changes old) session half.note half.bound w.given w.is_reply; commits = w.commits; refuses = w.refuses }

  abbrev out_wants : IsOutOfIds begin.schema (state_of changes old) session half r → WantsIds begin.schema (rested (state_of changes old) session) session half r
  out_wants w = record { given = w.given; is_reply = rested_reply begin.schema (state_of changes old) session half.note half.bound w.given w.is_reply; commits = w.commits; refuses = w.refuses }

  replies : (r ≡ reply.Refused Memory) ⊎ ((half.short ≡ false) × (IsReply begin.schema (state_of changes old) session half r ⊎ IsOutOfIds begin.schema (state_of changes old) session half r))
  replies = at said.reply
    where
      among : IsReply begin.schema (rested (state_of changes old) session) session half r ⊎ WantsIds begin.schema (rested (state_of changes old) session) session half r
          → IsReply begin.schema (state_of changes old) session half r ⊎ IsOutOfIds begin.schema (state_of changes old) session half r
      among (inl given) = inl (reply_rested begin.schema (state_of changes old) session half.note half.bound r given)
      among (inr wants) = inr (wants_out wants)

      at : (r ≡ reply.Refused Memory) ⊎ ((half.short ≡ false) × (IsReply begin.schema (rested (state_of changes old) session) session half r ⊎ WantsIds begin.schema (rested (state_of changes old) session) session half r))
          → (r ≡ reply.Refused Memory) ⊎ ((half.short ≡ false) × (IsReply begin.schema (state_of changes old) session half r ⊎ IsOutOfIds begin.schema (state_of changes old) session half r))
      at (inl e) = inl e
      at (inr h) = inr (h.0, among h.1)

  full : (book : Book) → IsFull (record { begin = begin; sizes = sizes_of old.directory; book = book }) (state_of changes old) (groups_of old) session (Some half) r
  full book = λ out. let s = said in s.full (out_wants out)

  moved : Commits (sizes_of old.directory) (state_of changes old) (committed_edits (state_of changes old) (state_of leaves.later new)) (groups_of old) (groups_of new)
  moved =
      subst (λ (after : State). Commits (sizes_of old.directory) (state_of changes old) (committed_edits (state_of changes old) after) (groups_of old) (groups_of new)) (sym leaves.state)
      (subst (λ (sizes : Sizes). Commits sizes (state_of changes old) (committed_edits (state_of changes old) (replied begin.schema (state_of changes mid) session half.bound r)) (groups_of old) (groups_of new)) (sizes_same old mid same)
      (subst (λ (book : Book). Commits (sizes_of mid.directory) (state_of changes old) (committed_edits (state_of changes old) (replied begin.schema (state_of changes mid) session half.bound r)) book (groups_of new)) same.groups
      (commits_alike (sizes_of mid.directory) (state_of changes mid) (state_of changes old) (committed_edits (state_of changes mid) (replied begin.schema (state_of changes mid) session half.bound r)) (groups_of mid) (groups_of new) refl same.clock leaves.commits)))

  pub finishes : IsFinished begin changes old session r new
  finishes = record {
    later = leaves.later;
    stands = leaves.stands;
    step = subst (λ (h : Option Half). IsFinish begin.schema (state_of changes old) session h r (state_of leaves.later new)) (sym is) (replies, after_is);
    moves = λ book free. record {
      commits = moved;
      full = subst (λ (h : Option Half). IsFull (record { begin = begin; sizes = sizes_of old.directory; book = book }) (state_of changes old) (groups_of old) session h r) (sym is) (full book);
      shows = let s = said in s.shows;
      free = free;
    };
    claims = leaves.claims ∙ same.claims;
    sizes = leaves.sizes ∙ same.sizes;
    schema = leaves.schema ∙ same.schema;
  }
