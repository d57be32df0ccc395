-- How a log moves the book of row groups, beside the state of the row model.
use Rattle.std.specs.Prelude.{◌≡◌, ℕ, ◌+◌, List, [], ◌∷◌, length, map, drop, Bool, true, false, Option, None, Some}
use Rattle.cs_types.specs.declared.Schema.{Schema}
use Rattle.cs_model.specs.declared.entry.Entry.{Entry}
use Rattle.cs_model.specs.declared.entry.Entry.TheVariants.{Start, Finish, End, Mover}
use Rattle.cs_model.specs.declared.entry.Reply.{Reply}
use Rattle.cs_model.specs.declared.entry.Reply.TheVariants as reply
use Rattle.cs_model.specs.declared.work.Actor.{Actor}
use Rattle.cs_model.specs.declared.work.Actor.TheVariants as actor
use Rattle.cs_model.specs.declared.work.Work.{Work}
use Rattle.cs_model.specs.declared.work.Work.TheVariants as work
use Rattle.cs_model.specs.Changes.{Edit, Change}
use Rattle.cs_model.specs.Floors.{IsFloor, snapshots}
use Rattle.cs_model.specs.State.{Half, State, Begin, begin_of, schema_now}
use Rattle.cs_model.specs.Steps.{IsStep, IsOutOfIds, finished}
use Rattle.group_book.specs.Book.{Group, Claim, Book, empty, is_opened}
use Rattle.group_book.specs.Choices.{choice, after_choice, choice_work, install_work, release_work, lowest}
use Rattle.group_book.specs.Commits.{Sizes, replaced_by, inserted_by, after_commit, draws_past}
use Rattle.group_book.specs.Orders.{IsReordered}
use Rattle.group_book.specs.Turns.{claim_by, after_close, after_work, after_release}
use Rattle.group_log.specs.Reports.{line_of}
use Rattle.group_log.specs.Segments.{ShowsSegments}

-- what a log begins from: the schema and the state; how large groups are; and the book
pub record Ground : Type 0 where
  pub begin : Begin
  pub sizes : Sizes
  pub book : Book

-- a new table
abbrev pub ground_of : Schema → Sizes → Ground
ground_of schema sizes = record { begin = begin_of schema; sizes = sizes; book = empty }

-- ---- a Finish

-- the edits that are committed from one state to the next
abbrev pub committed_edits : State → State → List Edit
committed_edits m after = map (λ (change : Change). change.edit) (drop (length m.changes) after.changes)

-- the book after a commit of these edits, with the number after the clock
abbrev pub book_with : Sizes → State → List Edit → Book → Book
book_with sizes m own book = after_commit sizes (m.clock + 1) (replaced_by m.changes m.clock own) (inserted_by own) book

-- what the commit of these edits makes of the book: it follows by the steps of a commit, the versions of packed groups that no
-- claim has in any order, and draws no id above 2^62; without edits it stays
abbrev pub Commits : Sizes → State → List Edit → Book → Book → Type 0
Commits sizes m [] book made = made ≡ book
Commits sizes m (edit ∷ own) book made = IsReordered (book_with sizes m (edit ∷ own) book) made × (draws_past book made ≡ false)

-- what a reply shows of the book, where the table has this schema and these changes: a report on groups, its groups by id, with
-- the number of entries of the delete buffer; and a report on segments, the columns of its COMPRESSED groups
abbrev pub ShowsBook : Schema → List Change → Book → Reply → Type 0
ShowsBook schema changes book reply.Done = Unit {0}
ShowsBook schema changes book (reply.Affected count) = Unit {0}
ShowsBook schema changes book (reply.Rows rows segments) = Unit {0}
ShowsBook schema changes book (reply.Groups lines buffered) = (lines ≡ map line_of book.groups) × (buffered ≡ length book.buffer)
ShowsBook schema changes book (reply.Segments lines) = ShowsSegments schema changes book lines
ShowsBook schema changes book (reply.Left groups) = Unit {0}
ShowsBook schema changes book (reply.Refused refusal) = Unit {0}

-- where error 50001 at 1 stands in a commit's place, that commit would have drawn a group id above 2^62
abbrev pub IsFull : Ground → State → Book → ℕ → Option Half → Reply → Type 0
IsFull origin m book session None r = Unit {0}
IsFull origin m book session (Some half) r =
    (out : IsOutOfIds (schema_now origin.begin m) m session half r)
    → draws_past book (book_with origin.sizes m (committed_edits m (finished (schema_now origin.begin m) m session half.bound out.given)) book) ≡ true

-- what a Finish makes of the book: what it commits is committed in it; want of ids has its cause; a report shows it; and its session
-- holds no claim
pub record Finishes (origin : Ground) (m : State) (book : Book) (session : ℕ) (r : Reply) (after : State) (made : Book) : Type 0 where
  pub commits : Commits origin.sizes m (committed_edits m after) book made
  pub full : IsFull origin m book session (m.half session) r
  pub shows : ShowsBook (schema_now origin.begin m) m.changes book r
  pub free : claim_by (actor.Session session) book ≡ None

-- ---- the work of movers, and of sessions in their place

abbrev pub is_mover : Actor → Bool
is_mover (actor.Session n) = false
is_mover (actor.Mover n) = true

-- the work of an actor at this floor, and the book after it: what its turn chose, where it holds no claim, or want of memory in
-- the place of that; the install of its claim, the versions of packed groups in any order, or the claim's release; or, of a session
-- that holds no claim, the close of the open store
pub data Works (sizes : Sizes) (floor : ℕ) (by : Actor) (book : Book) : Work → Book → Type 0 where
  chosen : {w : Work} → claim_by by book ≡ None → choice_work (choice floor sizes.group_rows by book) floor book ≡ Some w
      → Works sizes floor by book w (after_choice (choice floor sizes.group_rows by book) floor by book)
  out_of_memory : {w : Work} → claim_by by book ≡ None → choice_work (choice floor sizes.group_rows by book) floor book ≡ Some w → Works sizes floor by book work.Memory book
  installed : {w : Work} {made : Book} (claim : Claim) → claim_by by book ≡ Some claim → install_work claim.choice claim ≡ Some w
      → IsReordered (after_work claim.choice claim book) made → Works sizes floor by book w made
  released : {w : Work} (claim : Claim) → claim_by by book ≡ Some claim → release_work claim.choice claim ≡ Some w
      → Works sizes floor by book w (after_release claim book)
  closed : {id : ℕ} → is_mover by ≡ false → claim_by by book ≡ None → lowest (λ (group : Group). is_opened group.content) book.groups ≡ Some id
      → Works sizes floor by book (work.Close id) (after_close book)

-- ---- the log

-- the entry, which leads from one state to the next, makes the second book of the first
abbrev pub IsBookStep : Ground → State → Book → Entry → State → Book → Type 0
IsBookStep origin m book (Start session b short) after made = made ≡ book
IsBookStep origin m book (Finish session r) after made = Finishes origin m book session r after made
IsBookStep origin m book (End session) after made = made ≡ book
IsBookStep origin m book (Mover by w) after made = (floor : ℕ) × IsFloor (snapshots m) m.clock floor × Works origin.sizes floor by book w made

-- the entries lead from this state and this book to those, side by side
abbrev pub Follows : Ground → State → Book → List Entry → State → Book → Type 0
Follows origin m book [] after made = (after ≡ m) × (made ≡ book)
Follows origin m book (entry ∷ entries) after made =
    (mid : State) × (between : Book) × IsStep origin.begin m entry mid × IsBookStep origin m book entry mid between × Follows origin mid between entries after made

-- the log leads from what it begins from to this state and this book
abbrev pub Followed : Ground → List Entry → State → Book → Type 0
Followed origin log after made = Follows origin origin.begin.state origin.book log after made

-- the state and the book that a log leads to
pub record Moment (origin : Ground) (log : List Entry) : Type 0 where
  pub state : State
  pub book : Book
  pub followed : Followed origin log state book
