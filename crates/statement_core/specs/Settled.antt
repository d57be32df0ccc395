-- What a Finish replies and leaves, once the statement is no longer half done.
use Rattle.std.specs.Prelude.{◌≡◌, ◌≢◌, ◌⊎◌, ◌<◌, ℕ, List, [], length, true, false, Option, None, Some}
use Rattle.cs_types.specs.declared.Key.{Key}
use Rattle.cs_types.specs.declared.Schema.{Schema}
use Rattle.write_set.specs.declared.write.Write.{Write}
use Rattle.cs_model.specs.declared.entry.Entry.TheVariants.{Finish}
use Rattle.cs_model.specs.declared.entry.Refusal.{Refusal}
use Rattle.cs_model.specs.declared.entry.Refusal.TheVariants.{Reading, Memory}
use Rattle.cs_model.specs.declared.entry.Reply.{Reply}
use Rattle.cs_model.specs.declared.entry.Reply.TheVariants as reply
use Rattle.cs_model.specs.declared.work.Actor.TheVariants.{Session}
use Rattle.cs_model.specs.Changes.{Edit, Change}
use Rattle.cs_model.specs.Kinds.{is_of_table, is_write}
use Rattle.cs_model.specs.State.{Half, State, Begin}
use Rattle.cs_model.specs.Steps.{IsReply, IsStep, refused, replied, wrote}
use Rattle.log_laws.specs.Laws.{IsByKey}
use Rattle.log_laws.specs.Started.{Begun, own_in, is_implicit, Sees, Shows}
use Rattle.edit_laws.specs.Edits.{edits_of}
use Rattle.txn_table.specs.Txns.{txn_of, own_of}
use Rattle.group_book.specs.Book.{Book}
use Rattle.group_book.specs.Commits.{Sizes, draws_past}
use Rattle.group_book.specs.Turns.{claim_by}
use Rattle.group_log.specs.Followed.{book_with, committed_edits, ShowsBook, Finishes}
use Rattle.group_view.specs.declared.claim.Parcel.{Parcel}
use Rattle.group_directory.specs.declared.committing.CommitRefusal.{CommitRefusal}
use Rattle.group_directory.specs.declared.committing.CommitRefusal.TheVariants as cause
use Rattle.group_directory.specs.Laws.{sizes_of}
use Rattle.group_directory.specs.Stands.{Stands}
use Rattle.statement_core.specs.declared.core_state.CoreState.{CoreState}
use Rattle.statement_core.specs.declared.started.Outcome.{Outcome}
use Rattle.statement_core.specs.CoreState.{state_of, groups_of, IsStill, IsBare, claims_of}
use Rattle.statement_core.specs.Leaves.{committed_in, Leaves}
use Rattle.statement_core.specs.Outcomes.{AreLoaded, GivesWrites, GivesOn}
use Rattle.statement_core.specs.Reorganizes.{IsOver}

-- ---- replies

-- the reply is the defined one or want of memory, and the state after is what it leaves
pub record Settles (schema : Schema) (m : State) (session : ℕ) (half : Half) (r : Reply) (after : State) : Type 0 where
  pub reply : (r ≡ reply.Refused Memory) ⊎ IsReply schema m session half r
  pub state : after ≡ replied schema m session half.bound r

-- after writes of the session's transaction, or a refusal
abbrev pub wrote_or : State → ℕ → List Edit → Reply → State
wrote_or m session edits reply.Done = wrote m session (m.txns session) edits
wrote_or m session edits (reply.Affected count) = wrote m session (m.txns session) edits
wrote_or m session edits (reply.Rows rows segments) = wrote m session (m.txns session) edits
wrote_or m session edits (reply.Groups lines buffered) = wrote m session (m.txns session) edits
wrote_or m session edits (reply.Segments lines) = wrote m session (m.txns session) edits
wrote_or m session edits (reply.Left groups) = wrote m session (m.txns session) edits
wrote_or m session edits (reply.Refused refusal) = refused m session refusal

-- in the place of a reply after which something would be committed, error 50001 at 1
pub record WantsIds (schema : Schema) (m : State) (session : ℕ) (half : Half) (r : Reply) : Type 0 where
  pub given : Reply
  pub is_reply : IsReply schema m session half given
  pub commits : m.clock < (replied schema m session half.bound given).clock
  pub refuses : r ≡ reply.Refused (Reading 50001 1)

-- what is said of a reply: it is the defined one, or want of memory or of a group id; want of an id has its cause; and a report shows
-- the book
pub record IsSaid (schema : Schema) (sizes : Sizes) (m : State) (book : Book) (session : ℕ) (half : Half) (r : Reply) : Type 0 where
  pub reply : (r ≡ reply.Refused Memory) ⊎ ((half.short ≡ false) × (IsReply schema m session half r ⊎ WantsIds schema m session half r))
  pub full : (wants : WantsIds schema m session half r) → draws_past book (book_with sizes m (committed_edits m (replied schema m session half.bound wants.given)) book) ≡ true
  pub shows : ShowsBook schema m.changes book r

-- the reply, and what the core leaves after it
pub record Ends (schema : Schema) (changes : List Change) (old : CoreState) (session : ℕ) (half : Half) (r : Reply) (new : CoreState) : Type 0 where
  pub said : IsSaid schema (sizes_of old.directory) (state_of changes old) (groups_of old) session half r
  pub leaves : Leaves changes old new (replied schema (state_of changes old) session half.bound r)

-- ---- what was begun

-- what the session's statement stands on, in this state
pub record Holds (begin : Begin) (m : State) (session : ℕ) (begun : Begun) : Type 0 where
  pub schema : begun.schema ≡ begin.schema
  pub implicit : begun.implicit ≡ is_implicit (m.txns session)
  pub own : begun.own ≡ own_in (m.txns session)
  pub sees : is_of_table begun.bound ≡ true → begun.short ≡ false → Sees m session begun

-- the outcome of what was begun, over changes that the core stands for: the statement is no longer half done
pub record IsDoneAt (begin : Begin) (changes : List Change) (held : CoreState) (session : ℕ) (half : Half) (outcome : Outcome) : Type 0 where
  pub stands : Stands held.directory changes
  pub schema : held.directory.schema.value ≡ begin.schema
  pub bare : IsBare ((state_of changes held).txns session)
  pub by_key : IsByKey ((state_of changes held).txns session)
  pub begun : Begun
  pub bound : begun.bound ≡ half.bound
  pub short_is : begun.short ≡ half.short
  pub note_is : begun.note ≡ half.note
  pub why : half.short ≡ true → is_of_table half.bound ≡ true
  pub holds : Holds begin (state_of changes held) session begun
  pub gives : GivesOn (sizes_of held.directory) begun outcome
  pub over : IsOver begun.bound outcome

-- the same where the statement is still half done
pub record IsReadyAt (begin : Begin) (changes : List Change) (held : CoreState) (session : ℕ) (outcome : Outcome) : Type 0 where
  pub stands : Stands held.directory changes
  pub schema : held.directory.schema.value ≡ begin.schema
  pub bare : IsBare ((state_of changes held).txns session)
  pub by_key : IsByKey ((state_of changes held).txns session)
  pub begun : Begun
  pub why : begun.short ≡ true → is_of_table begun.bound ≡ true
  pub shows : Shows begin (state_of changes held) session begun
  pub gives : GivesOn (sizes_of held.directory) begun outcome
  pub over : IsOver begun.bound outcome

-- a Finish from the changes that the core stood for: it stands for later ones, by the steps of the row model and, where the session
-- holds no claim, of the book
pub record IsFinished (begin : Begin) (changes : List Change) (old : CoreState) (session : ℕ) (r : Reply) (new : CoreState) : Type 0 where
  pub later : List Change
  pub stands : Stands new.directory later
  pub step : IsStep begin (state_of changes old) (Finish session r) (state_of later new)
  pub moves : (book : Book) → claim_by (Session session) (groups_of old) ≡ None → Finishes (record { begin = begin; sizes = sizes_of old.directory; book = book }) (state_of changes old) (groups_of old) session r (state_of later new) (groups_of new)
  pub claims : claims_of new ≡ claims_of old
  pub sizes : new.directory.sizes ≡ old.directory.sizes
  pub schema : new.directory.schema ≡ old.directory.schema

-- ---- writes

-- the writes that a statement gave, over changes that the core stands for
pub record IsWritingAt (begin : Begin) (changes : List Change) (held : CoreState) (session : ℕ) (half : Half) (list : List Write) (present : List Key) (affected : ℕ) (parcel : Option Parcel) : Type 0 where
  pub stands : Stands held.directory changes
  pub schema : held.directory.schema.value ≡ begin.schema
  pub bare : IsBare ((state_of changes held).txns session)
  pub by_key : IsByKey ((state_of changes held).txns session)
  pub begun : Begun
  pub bound : begun.bound ≡ half.bound
  pub short_is : begun.short ≡ half.short
  pub found : half.short ≡ false
  pub writes : is_write half.bound ≡ true
  pub holds : Holds begin (state_of changes held) session begun
  pub gives : GivesWrites (sizes_of held.directory) begun list present affected parcel

-- the keys and the parcel of the writes that it gave, where it loads them
pub record IsLoadingAt (begin : Begin) (changes : List Change) (held : CoreState) (session : ℕ) (half : Half) (keys : List Key) (parcel : Parcel) : Type 0 where
  pub list : List Write
  pub are : AreLoaded keys list
  pub is : IsWritingAt begin changes held session half list [] (length keys) (Some parcel)

-- there are such changes
pub record MayWrite (held : CoreState) (session : ℕ) (list : List Write) (present : List Key) (affected : ℕ) (parcel : Option Parcel) : Type 0 where
  pub begin : Begin
  pub changes : List Change
  pub half : Half
  pub is : IsWritingAt begin changes held session half list present affected parcel

-- ---- commits

-- the refusal of a statement whose commit is refused
abbrev pub refusal_of : CommitRefusal → Refusal
refusal_of cause.Full = Reading 50001 1
refusal_of cause.Memory = Memory

-- the refusal is replied, and leaves what it leaves
pub record IsRefusedFor (changes : List Change) (old : CoreState) (session : ℕ) (refusal : Refusal) (r : Reply) (new : CoreState) : Type 0 where
  pub reply : r ≡ reply.Refused refusal
  pub state : state_of changes new ≡ refused (state_of changes old) session refusal
  pub still : IsStill old new

-- the commit is made, with the given reply
pub record IsCommittedFor (changes : List Change) (old : CoreState) (session : ℕ) (given r : Reply) (new : CoreState) : Type 0 where
  pub reply : r ≡ given
  pub leaves : Leaves changes old new (committed_in (state_of changes old) session)

-- there are own writes, and their commit would draw a group id above 2^62
pub record IsPast (changes : List Change) (held : CoreState) (session : ℕ) : Type 0 where
  pub some : own_of (txn_of held.directory.txns session) ≢ []
  pub past : draws_past (groups_of held) (book_with (sizes_of held.directory) (state_of changes held) (edits_of (own_of (txn_of held.directory.txns session))) (groups_of held)) ≡ true

-- the commit is made, or want of memory or of an id stands in the place of its reply
abbrev pub CommitGives : List Change → CoreState → ℕ → Reply → Reply → CoreState → Type 0
CommitGives changes old session given r new =
    IsCommittedFor changes old session given r new
    ⊎ (IsRefusedFor changes old session Memory r new ⊎ (IsRefusedFor changes old session (Reading 50001 1) r new × IsPast changes old session))
