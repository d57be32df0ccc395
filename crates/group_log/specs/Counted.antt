-- What an answer tells of its scan: how many segments were read and how many skipped, by the book at its statement's Start.
use Rattle.std.specs.Prelude.{◌≡◌, ℕ, List, [], ◌∷◌, ◌++◌, map, filter, length, Bool, IfSome, Option, None}
use Rattle.std.specs.declared.alloc.Global.{Global}
use Rattle.std.specs.declared.sync.Arc.{Arc}
use Rattle.std.specs.List.{AllZip}
use Rattle.cs_types.specs.declared.Schema.{Schema}
use Rattle.cs_model.specs.declared.entry.Bound.{Bound}
use Rattle.cs_model.specs.declared.entry.Bound.TheVariants.{Select}
use Rattle.cs_model.specs.declared.entry.Entry.{Entry}
use Rattle.cs_model.specs.declared.entry.Entry.TheVariants.{Start, Finish, End, Mover}
use Rattle.cs_model.specs.declared.entry.Reply.{Reply}
use Rattle.cs_model.specs.declared.entry.Reply.TheVariants as reply
use Rattle.cs_model.specs.declared.plan.Query.{Query}
use Rattle.cs_model.specs.declared.pred.Pred.{Pred}
use Rattle.cs_model.specs.Actors.{turns_of}
use Rattle.cs_model.specs.Changes.{Change}
use Rattle.cs_model.specs.Scans.{scan_counts}
use Rattle.cs_model.specs.State.{State, schema_now}
use Rattle.row_group.specs.Rows.{PackedRow, column_of}
use Rattle.group_book.specs.Book.{Book, is_compressed}
use Rattle.group_log.specs.Followed.{Ground, Followed}
use Rattle.group_log.specs.Segments.{AreRowsOf}

-- the counts of segments that a reply tells
abbrev pub told_counts : Reply → Option (ℕ × ℕ)
told_counts reply.Done = None
told_counts (reply.Affected count) = None
told_counts (reply.Rows rows segments) = segments
told_counts (reply.Groups lines buffered) = None
told_counts (reply.Segments lines) = None
told_counts (reply.Left groups) = None
told_counts (reply.Refused refusal) = None

-- of the COMPRESSED groups of a book, with the rows of all their versions, a condition reads the first of these counts and skips
-- the second
pub record AreCounts (schema : Schema) (changes : List Change) (book : Book) (condition : Option Pred) (counts : ℕ × ℕ) : Type 0 where
  pub groups : List (ℕ × List PackedRow)
  pub of_book : AllZip (AreRowsOf (length schema.columns) changes) (filter (λ group. is_compressed group.content) book.groups) groups
  pub counted : counts ≡ scan_counts schema condition (map (λ (group : ℕ × List PackedRow). column_of group.1) groups)

-- the session's last Start, Finish or End in the log is the Start of this statement (works of its own may stand after it), and what
-- stands before that leads to this state and book
pub record IsBegunAt (origin : Ground) (log : List Entry) (session : ℕ) (statement : Bound) (m : State) (book : Book) : Type 0 where
  pub before : List Entry
  pub bound : Arc Bound Global
  pub short : Bool
  pub behind : List Entry
  pub split : log ≡ before ++ Start session bound short ∷ behind
  pub others : turns_of session behind ≡ []
  pub is : bound.value ≡ statement
  pub followed : Followed origin before m book

-- the counts of the query that the session has begun, over the groups at its Start
pub record AreCountsAt (origin : Ground) (log : List Entry) (session : ℕ) (counts : ℕ × ℕ) : Type 0 where
  pub query : Query
  pub state : State
  pub book : Book
  pub begun : IsBegunAt origin log session (Select query) state book
  pub are : AreCounts (schema_now origin.begin state) state.changes book query.filter counts

-- counts in a reply after this log are those of its query
abbrev pub IsCountedEntry : Ground → List Entry → Entry → Type 0
IsCountedEntry origin before (Start session bound short) = Unit {0}
IsCountedEntry origin before (Finish session r) = IfSome (told_counts r) (AreCountsAt origin before session)
IsCountedEntry origin before (End session) = Unit {0}
IsCountedEntry origin before (Mover actor work) = Unit {0}

-- so are those in the replies of the entries after this log
abbrev pub AreCountedAfter : Ground → List Entry → List Entry → Type 0
AreCountedAfter origin before [] = Unit {0}
AreCountedAfter origin before (entry ∷ entries) = IsCountedEntry origin before entry × AreCountedAfter origin (before ++ entry ∷ []) entries

-- each answer that tells counts of segments tells those of its query, over the groups at its statement's Start
abbrev pub IsCounted : Ground → List Entry → Type 0
IsCounted origin log = AreCountedAfter origin [] log
