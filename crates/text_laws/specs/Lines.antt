-- The lines of works, the works whose numbers are those of the Rust type, and the events whose texts have bytes that a text may have.
use Rattle.std.specs.Prelude.{ℕ, ◌<◌, ◌^◌, List, ◌++◌, codes, All, Contains, IsTrue}
use Rattle.cs_types.specs.declared.ColumnType.{ColumnType}
use Rattle.cs_types.specs.declared.Loose.{Loose}
use Rattle.cs_types.specs.declared.Schema.{Schema}
use Rattle.cs_types.specs.declared.Value.{Value}
use Rattle.cs_types.specs.Kinds.{has_text_bytes}
use Rattle.cs_types.specs.Text.{loose_of}
use Rattle.cs_model.specs.declared.entry.Entry.{Entry}
use Rattle.cs_model.specs.declared.entry.Entry.TheVariants.{Start, Finish, End, Mover}
use Rattle.cs_model.specs.declared.entry.Reply.{Reply}
use Rattle.cs_model.specs.declared.entry.Reply.TheVariants.{Done, Affected, Rows, Groups, Segments, Left, Refused}
use Rattle.cs_model.specs.declared.report.SegmentLine.{SegmentLine}
use Rattle.cs_model.specs.declared.work.Work.{Work}
use Rattle.cs_model.specs.declared.work.Work.TheVariants as work
use Rattle.cs_model.specs.Text.{column_kind}
use Rattle.cs_model.specs.Works.{work_text}

-- ---- works

-- each number of the work is below 2 ^ 64, as those of the Rust type are
abbrev pub FitsWords : Work → Type 0
FitsWords (work.ClaimCompress source fresh) = (source < 2 ^ 64) × (fresh < 2 ^ 64)
FitsWords (work.InstallCompress source fresh rows) = (source < 2 ^ 64) × (fresh < 2 ^ 64) × (rows < 2 ^ 64)
FitsWords (work.ReleaseCompress source fresh) = (source < 2 ^ 64) × (fresh < 2 ^ 64)
FitsWords (work.ClaimRebuild source fresh) = (source < 2 ^ 64) × (fresh < 2 ^ 64)
FitsWords (work.InstallRebuild source fresh rows) = (source < 2 ^ 64) × (fresh < 2 ^ 64) × (rows < 2 ^ 64)
FitsWords (work.ReleaseRebuild source fresh) = (source < 2 ^ 64) × (fresh < 2 ^ 64)
FitsWords (work.ClaimMerge first second fresh) = (first < 2 ^ 64) × (second < 2 ^ 64) × (fresh < 2 ^ 64)
FitsWords (work.InstallMerge first second fresh rows) = (first < 2 ^ 64) × (second < 2 ^ 64) × (fresh < 2 ^ 64) × (rows < 2 ^ 64)
FitsWords (work.ReleaseMerge first second fresh) = (first < 2 ^ 64) × (second < 2 ^ 64) × (fresh < 2 ^ 64)
FitsWords (work.ClaimFlush entries) = entries < 2 ^ 64
FitsWords (work.InstallFlush entries) = entries < 2 ^ 64
FitsWords (work.ReleaseFlush entries) = entries < 2 ^ 64
FitsWords (work.Settle ends) = ends < 2 ^ 64
FitsWords (work.Clear groups) = groups < 2 ^ 64
FitsWords (work.Close group) = group < 2 ^ 64
FitsWords work.Memory = Unit {0}

-- the text of a work, and the byte 10
abbrev pub work_line : Work → List ℕ
work_line w = work_text w ++ codes "\n"

-- ---- events

-- no byte 10 stands in it
abbrev pub IsOneLine : List ℕ → Type 0
IsOneLine line = Contains line 10 → ⊥

-- each cell of a row has only bytes that a text may have
abbrev pub HasRowBytes : List Loose → Type 0
HasRowBytes row = All (λ cell. IsTrue (has_text_bytes cell)) row

-- a column's cell has only such bytes
abbrev pub HasCellBytes : ColumnType → Value → Type 0
HasCellBytes kind value = IsTrue (has_text_bytes (loose_of kind value))

-- the least and the greatest cell of a segment have
abbrev pub HasSegmentBytes : Schema → SegmentLine → Type 0
HasSegmentBytes schema line = HasCellBytes (column_kind schema line.column) line.least × HasCellBytes (column_kind schema line.column) line.greatest

abbrev pub HasReplyBytes : Schema → Reply → Type 0
HasReplyBytes schema Done = Unit {0}
HasReplyBytes schema (Affected count) = Unit {0}
HasReplyBytes schema (Rows rows segments) = All HasRowBytes rows
HasReplyBytes schema (Groups lines buffered) = Unit {0}
HasReplyBytes schema (Segments lines) = All (HasSegmentBytes schema) lines
HasReplyBytes schema (Left groups) = Unit {0}
HasReplyBytes schema (Refused refusal) = Unit {0}

-- each cell that an event shows has only such bytes
abbrev pub HasTextBytes : Schema → Entry → Type 0
HasTextBytes schema (Start session bound short) = Unit {0}
HasTextBytes schema (Finish session reply) = HasReplyBytes schema reply
HasTextBytes schema (End session) = Unit {0}
HasTextBytes schema (Mover actor work) = Unit {0}
