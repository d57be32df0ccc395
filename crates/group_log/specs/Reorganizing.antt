-- How a REORGANIZE moves the row groups, and what it leaves: what it looks at, and when (after ALTER INDEX .. REORGANIZE of SQL
-- Server's columnstore index). Its entries stand among those of others, so what it looks at is said by moments. A moment is the
-- state and the book that a prefix of the log leads to.
use Rattle.std.specs.Prelude.{◌≡◌, ◌⊎◌, ℕ, ◌+◌, ◌*◌, ◌<◌, List, [], ◌∷◌, ◌++◌, map, filter, Bool, true, false, ◌==◌, ◌&&◌, ◌||◌, not, if◌then◌else◌, IsPermutation}
use Rattle.std.specs.List.{flat_map, list_any}
use Rattle.std.specs.List.Sorted.{IsNonDecreasingBy}
use Rattle.cs_model.specs.declared.entry.Bound.{Bound}
use Rattle.cs_model.specs.declared.entry.Bound.TheVariants.{Reorganize}
use Rattle.cs_model.specs.declared.entry.Entry.{Entry}
use Rattle.cs_model.specs.declared.entry.Entry.TheVariants.{Start, Finish, End, Mover}
use Rattle.cs_model.specs.declared.entry.Reply.{Reply}
use Rattle.cs_model.specs.declared.entry.Reply.TheVariants as reply
use Rattle.cs_model.specs.declared.work.Actor.{Actor}
use Rattle.cs_model.specs.declared.work.Actor.TheVariants as actor
use Rattle.cs_model.specs.declared.work.Work.{Work}
use Rattle.cs_model.specs.declared.work.Work.TheVariants as work
use Rattle.cs_model.specs.Floors.{IsFloor, snapshots}
use Rattle.cs_model.specs.State.{State}
use Rattle.cs_model.specs.Works.{lacks_memory}
use Rattle.group_book.specs.Book.{Content, Group, Claim, Book, how_many, is_opened, is_closed, is_compressed}
use Rattle.group_book.specs.Book.Choice.{Idle}
use Rattle.group_book.specs.Choices.{choice}
use Rattle.group_book.specs.Commits.{Sizes}
use Rattle.group_book.specs.Turns.{same_actor}
use Rattle.group_log.specs.Counted.{IsBegunAt}
use Rattle.group_log.specs.Followed.{Ground, Moment}

-- ---- what it reads of a book

-- the group is OPEN, CLOSED or COMPRESSED
abbrev pub is_in_use : Content → Bool
is_in_use content = is_opened content || (is_closed content || is_compressed content)

-- the most turns that it makes: three for each such group at its Start, and one
abbrev pub most_turns : Book → ℕ
most_turns book = 3 * how_many (λ (group : Group). is_in_use group.content) book.groups + 1

-- the closed stores
abbrev pub closed_ids : Book → List ℕ
closed_ids book = map (λ (group : Group). group.id) (filter (λ (group : Group). is_closed group.content) book.groups)

-- the groups that are claimed, with the actors that hold them
abbrev pub held_groups : Book → List (ℕ × Actor)
held_groups book = flat_map (λ (claim : Claim). map (λ source. (source, claim.actor)) claim.sources) book.claims

-- the group is one of these, and another actor holds it
abbrev pub is_kept : List ℕ → Actor → ℕ × Actor → Bool
is_kept marked by held = list_any (λ id. id == held.0) marked && not (same_actor held.1 by)

-- of these groups those that other actors hold, by id, each with its actor
pub record AreLeft (marked : List ℕ) (by : Actor) (book : Book) (left : List (ℕ × Actor)) : Type 0 where
  pub by_id : IsNonDecreasingBy (λ (held : ℕ × Actor). held.0) left
  pub are : IsPermutation (filter (is_kept marked by) (held_groups book)) left

-- ---- its entries

-- the work begins a turn: it is a claim, a settle or a clear, or want of memory in the place of one
abbrev pub begins_turn : Work → Bool
begins_turn (work.ClaimCompress source fresh) = true
begins_turn (work.ClaimRebuild source fresh) = true
begins_turn (work.ClaimMerge first second fresh) = true
begins_turn (work.ClaimFlush entries) = true
begins_turn (work.Settle ends) = true
begins_turn (work.Clear groups) = true
begins_turn work.Memory = true
begins_turn (work.InstallCompress source fresh rows) = false
begins_turn (work.InstallRebuild source fresh rows) = false
begins_turn (work.InstallMerge first second fresh rows) = false
begins_turn (work.InstallFlush entries) = false
begins_turn (work.ReleaseCompress source fresh) = false
begins_turn (work.ReleaseRebuild source fresh) = false
begins_turn (work.ReleaseMerge first second fresh) = false
begins_turn (work.ReleaseFlush entries) = false
begins_turn (work.Close group) = false

-- the store that a work closes
abbrev pub closed_by : Work → List ℕ
closed_by (work.Close group) = group ∷ []
closed_by _ = []

-- the work of a session in an entry
abbrev pub work_by : ℕ → Entry → List Work
work_by session (Start s bound short) = []
work_by session (Finish s r) = []
work_by session (End s) = []
work_by session (Mover (actor.Session s) w) = if s == session then w ∷ [] else []
work_by session (Mover (actor.Mover m) w) = []

-- the works of a session among these entries
abbrev pub works_of : ℕ → List Entry → List Work
works_of session entries = flat_map (work_by session) entries

abbrev pub begun_turns : List Work → ℕ
begun_turns works = how_many begins_turn works

abbrev pub closed_in : List Work → List ℕ
closed_in works = flat_map closed_by works

-- ---- moments

-- after a log there is a moment of which P holds, and after it the session has these works
pub record Saw (origin : Ground) (P : State → Book → Type 0) (session : ℕ) (from behind : List Entry) (works : List Work) : Type 0 where
  pub since : List Entry
  pub rest : List Entry
  pub split : behind ≡ since ++ rest
  pub after : works_of session rest ≡ works
  pub moment : Moment origin (from ++ since)
  pub holds : P moment.state moment.book

-- no store is open
abbrev pub HasNoneOpen : State → Book → Type 0
HasNoneOpen m book = list_any (λ (group : Group). is_opened group.content) book.groups ≡ false

-- the choice of a session's turn is Idle
pub record IsIdle (sizes : Sizes) (session : ℕ) (m : State) (book : Book) : Type 0 where
  pub floor : ℕ
  pub is_floor : IsFloor (snapshots m) m.clock floor
  pub idle : choice floor sizes.group_rows (actor.Session session) book ≡ Idle

-- ---- its course
-- all: whether it is to close the open store; start: the book at its Start; from: the log from whose end on its looks count; behind:
-- what stands after that

-- it has looked for the open store, where it is to close that first: it has closed it, or none was open at a moment before its works
abbrev pub HasLooked : Ground → ℕ → Bool → List Entry → List Entry → Type 0
HasLooked origin session all from behind =
    all ≡ true
    → ((id : ℕ) × (works : List Work) × (works_of session behind ≡ work.Close id ∷ works)) ⊎ Saw origin HasNoneOpen session from behind (works_of session behind)

-- it may begin a turn: it has looked for the open store, has not made all its turns, and memory was not wanting so far
pub record MayTurn (origin : Ground) (session : ℕ) (all : Bool) (start : Book) (from behind : List Entry) : Type 0 where
  pub looked : HasLooked origin session all from behind
  pub room : begun_turns (works_of session behind) < most_turns start
  pub well : list_any lacks_memory (works_of session behind) ≡ false

-- it may make this work: a close first of all, and only where it is to close the open store; what begins a turn, where it may; and
-- an install or a release at any time: that it ends a claim of its own is said by the book (`Works`)
abbrev pub MayMake : Ground → ℕ → Bool → Book → List Entry → List Entry → Work → Type 0
MayMake origin session all start from behind (work.ClaimCompress source fresh) = MayTurn origin session all start from behind
MayMake origin session all start from behind (work.ClaimRebuild source fresh) = MayTurn origin session all start from behind
MayMake origin session all start from behind (work.ClaimMerge first second fresh) = MayTurn origin session all start from behind
MayMake origin session all start from behind (work.ClaimFlush entries) = MayTurn origin session all start from behind
MayMake origin session all start from behind (work.Settle ends) = MayTurn origin session all start from behind
MayMake origin session all start from behind (work.Clear groups) = MayTurn origin session all start from behind
MayMake origin session all start from behind (work.Close group) = (all ≡ true) × (works_of session behind ≡ [])
MayMake origin session all start from behind work.Memory = MayTurn origin session all start from behind
MayMake origin session all start from behind (work.InstallCompress source fresh rows) = Unit {0}
MayMake origin session all start from behind (work.InstallRebuild source fresh rows) = Unit {0}
MayMake origin session all start from behind (work.InstallMerge first second fresh rows) = Unit {0}
MayMake origin session all start from behind (work.InstallFlush entries) = Unit {0}
MayMake origin session all start from behind (work.ReleaseCompress source fresh) = Unit {0}
MayMake origin session all start from behind (work.ReleaseRebuild source fresh) = Unit {0}
MayMake origin session all start from behind (work.ReleaseMerge first second fresh) = Unit {0}
MayMake origin session all start from behind (work.ReleaseFlush entries) = Unit {0}

-- it leaves these groups: it has looked for the open store, and memory was not wanting; it has made all its turns, or after its last
-- work there was a moment at which its choice was Idle; and at that moment or later, and after its last work, came its last look, at
-- which other actors held these of the stores that were closed at its Start, or that it closed
pub record LeavesFrom (origin : Ground) (session : ℕ) (all : Bool) (start : Book) (from behind : List Entry) (left : List (ℕ × Actor)) : Type 0 where
  pub looked : HasLooked origin session all from behind
  pub well : list_any lacks_memory (works_of session behind) ≡ false
  pub since : List Entry
  pub rest : List Entry
  pub split : behind ≡ since ++ rest
  pub last : works_of session rest ≡ []
  pub stopped : (begun_turns (works_of session behind) ≡ most_turns start) ⊎ Saw origin (IsIdle origin.sizes session) session from since []
  pub moment : Moment origin (from ++ since)
  pub are : AreLeft (closed_ids start ++ closed_in (works_of session behind)) (actor.Session session) moment.book left

-- ---- along a log

-- the session has a REORGANIZE half done, since its Start at this state and book
pub record IsHalfDone (origin : Ground) (log : List Entry) (session : ℕ) : Type 0 where
  pub all : Bool
  pub state : State
  pub book : Book
  pub begun : IsBegunAt origin log session (Reorganize all) state book

-- the log up to and with its Start
abbrev pub from_start : {origin : Ground} {log : List Entry} {session : ℕ} {statement : Bound} {m : State} {book : Book} → IsBegunAt origin log session statement m book → List Entry
from_start {session = session} begun = begun.before ++ Start session begun.bound begun.short ∷ []

-- the session has a REORGANIZE half done, which may make this work
pub record IsMove (origin : Ground) (log : List Entry) (session : ℕ) (w : Work) : Type 0 where
  pub half : IsHalfDone origin log session
  pub may : MayMake origin session half.all half.book (from_start half.begun) (half.begun).behind w

-- the session has a REORGANIZE half done, which leaves these groups
pub record LeavesGroups (origin : Ground) (log : List Entry) (session : ℕ) (left : List (ℕ × Actor)) : Type 0 where
  pub half : IsHalfDone origin log session
  pub leaves : LeavesFrom origin session half.all half.book (from_start half.begun) (half.begun).behind left

-- a reply that lists what was left lists what the session's REORGANIZE leaves
abbrev pub IsLeaving : Ground → List Entry → ℕ → Reply → Type 0
IsLeaving origin log session reply.Done = Unit {0}
IsLeaving origin log session (reply.Affected count) = Unit {0}
IsLeaving origin log session (reply.Rows rows segments) = Unit {0}
IsLeaving origin log session (reply.Groups lines buffered) = Unit {0}
IsLeaving origin log session (reply.Segments lines) = Unit {0}
IsLeaving origin log session (reply.Left groups) = LeavesGroups origin log session groups
IsLeaving origin log session (reply.Refused refusal) = Unit {0}

-- a session's work after this log is one of its REORGANIZE
abbrev pub IsWorkBy : Ground → List Entry → Actor → Work → Type 0
IsWorkBy origin log (actor.Session session) w = IsMove origin log session w
IsWorkBy origin log (actor.Mover mover) w = Unit {0}

-- the entry after this log: a session works only while it has a REORGANIZE half done, as that may; and it is told what that leaves
abbrev pub IsReorganizedEntry : Ground → List Entry → Entry → Type 0
IsReorganizedEntry origin before (Start session bound short) = Unit {0}
IsReorganizedEntry origin before (Finish session r) = IsLeaving origin before session r
IsReorganizedEntry origin before (End session) = Unit {0}
IsReorganizedEntry origin before (Mover by w) = IsWorkBy origin before by w

-- the same of the entries after this log
abbrev pub AreReorganizedAfter : Ground → List Entry → List Entry → Type 0
AreReorganizedAfter origin before [] = Unit {0}
AreReorganizedAfter origin before (entry ∷ entries) = IsReorganizedEntry origin before entry × AreReorganizedAfter origin (before ++ entry ∷ []) entries

-- sessions work only as a REORGANIZE may, and each is told what it leaves
abbrev pub IsReorganized : Ground → List Entry → Type 0
IsReorganized origin log = AreReorganizedAfter origin [] log
