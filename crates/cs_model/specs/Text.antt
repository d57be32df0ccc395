-- The printed text of replies and events, and of a log.
use Rattle.std.specs.Prelude.{◌≡◌, refl, ℕ, ◌+◌, pos, List, [], ◌∷◌, ◌++◌, length, map, codes, decimal, count_by, Bool, true, false, ◌-◌, ◌==◌, slice_get, All, IsTrue, Option, None, Some}
use Rattle.std.specs.Fmt.{digits}
use Rattle.std.specs.List.{flat_map}
use Rattle.cs_types.specs.declared.Column.{Column}
use Rattle.cs_types.specs.declared.ColumnType.{ColumnType}
use Rattle.cs_types.specs.declared.ColumnType.TheVariants.{BigInt}
use Rattle.cs_types.specs.declared.Encoding.{Encoding}
use Rattle.cs_types.specs.declared.Encoding.TheVariants.{ValuePacked, ValueRuns, DictPacked, DictRuns}
use Rattle.cs_types.specs.declared.Key.{Key}
use Rattle.cs_types.specs.declared.Loose.{Loose}
use Rattle.cs_types.specs.declared.Loose.TheVariants as loose
use Rattle.cs_types.specs.declared.Schema.{Schema}
use Rattle.cs_types.specs.declared.Value.{Value}
use Rattle.cs_types.specs.declared.Value.TheVariants.{Number}
use Rattle.cs_types.specs.Kinds.{keeps}
use Rattle.cs_types.specs.Text.{loose_of, loose_text, value_text, IsPrintable}
use Rattle.cs_model.specs.Actors.{actor_of}
use Rattle.cs_model.specs.State.{Begin}
use Rattle.cs_model.specs.Works.{session_text, actor_text, work_text}
use Rattle.cs_model.specs.declared.entry.Refusal.{Refusal}
use Rattle.cs_model.specs.declared.entry.Refusal.TheVariants.{Reading, Valued, Locked, Changed, Duplicate, NoTxn, Memory}
use Rattle.cs_model.specs.declared.entry.Reply.{Reply}
use Rattle.cs_model.specs.declared.entry.Reply.TheVariants.{Done, Affected, Rows, Groups, Segments, Left, Refused}
use Rattle.cs_model.specs.declared.entry.Entry.{Entry}
use Rattle.cs_model.specs.declared.entry.Entry.TheVariants.{Start, Finish, End, Mover}
use Rattle.cs_model.specs.declared.report.GroupLine.{GroupLine}
use Rattle.cs_model.specs.declared.report.GroupState.{GroupState}
use Rattle.cs_model.specs.declared.report.GroupState.TheVariants.{Invisible, Opened, Closed, Compressed, Tombstone}
use Rattle.cs_model.specs.declared.report.SegmentLine.{SegmentLine}
use Rattle.cs_model.specs.declared.work.Actor.{Actor}

abbrev pub next_cell : Loose → List ℕ
next_cell cell = codes ", " ++ loose_text cell

-- the cells, joined by a comma and a space
abbrev pub cells_text : List Loose → List ℕ
cells_text [] = []
cells_text (cell ∷ cells) = loose_text cell ++ flat_map next_cell cells

-- a line under a reply begins with two spaces
abbrev pub row_line : List Loose → List ℕ
row_line row = codes "  " ++ cells_text row

abbrev pub kind_or : Option Column → ColumnType
kind_or None = BigInt
kind_or (Some column) = column.kind

-- the type of the key's column
abbrev pub key_kind : Schema → ColumnType
key_kind schema = kind_or (slice_get schema.columns schema.key)

-- a key, printed by its column's type
abbrev pub key_text : Schema → Key → List ℕ
key_text schema key = value_text (key_kind schema) (Number key.0)

-- the refusal of a value, by its row and column
abbrev pub valued_text : ℕ → ℕ → ℕ → List ℕ
valued_text number row column = codes "error " ++ decimal number ++ codes " row " ++ decimal row ++ codes " column " ++ decimal column

abbrev pub refusal_text : Schema → Refusal → List ℕ
refusal_text schema (Reading number at) = codes "error " ++ decimal number ++ codes " at " ++ decimal at
refusal_text schema (Valued number row column) = valued_text number row column
refusal_text schema (Locked key txn) = codes "error 1222 key " ++ key_text schema key ++ codes " transaction " ++ decimal txn
refusal_text schema (Changed key txn commit) = codes "error 3960 key " ++ key_text schema key ++ codes " transaction " ++ decimal txn ++ codes " commit " ++ decimal commit
refusal_text schema (Duplicate key) = codes "error 2627 key " ++ key_text schema key
refusal_text schema (NoTxn number) = codes "error " ++ decimal number
refusal_text schema Memory = codes "error 701"

-- the last line under an answer, where STATISTICS IO is on
abbrev pub segments_lines : Option (ℕ × ℕ) → List (List ℕ)
segments_lines None = []
segments_lines (Some counts) = (codes "  segments read " ++ decimal counts.0 ++ codes ", skipped " ++ decimal counts.1) ∷ []

-- ---- reports

-- the parts of a line, joined by a comma and a space
abbrev pub next_part : List ℕ → List ℕ
next_part part = codes ", " ++ part

abbrev pub parts_text : List (List ℕ) → List ℕ
parts_text [] = []
parts_text (part ∷ parts) = part ++ flat_map next_part parts

abbrev pub report_line : List (List ℕ) → List ℕ
report_line parts = codes "  " ++ parts_text parts

abbrev pub state_code : GroupState → ℕ
state_code Invisible = 0
state_code Opened = 1
state_code Closed = 2
state_code Compressed = 3
state_code Tombstone = 4

abbrev pub state_name : GroupState → List ℕ
state_name Invisible = codes "INVISIBLE"
state_name Opened = codes "OPEN"
state_name Closed = codes "CLOSED"
state_name Compressed = codes "COMPRESSED"
state_name Tombstone = codes "TOMBSTONE"

-- `id, code, STATE, total, deleted`
abbrev pub group_line : GroupLine → List ℕ
group_line line = report_line (decimal line.id ∷ decimal (state_code line.state) ∷ state_name line.state ∷ decimal line.total ∷ decimal line.deleted ∷ [])

abbrev pub encoding_name : Encoding → List ℕ
encoding_name ValuePacked = codes "VP"
encoding_name ValueRuns = codes "VR"
encoding_name DictPacked = codes "DP"
encoding_name DictRuns = codes "DR"

abbrev pub bit_of : Bool → ℕ
bit_of true = 1
bit_of false = 0

-- the type of a column, counted from 1
abbrev pub column_kind : Schema → ℕ → ColumnType
column_kind schema column = kind_or (slice_get schema.columns (column - 1))

-- `id, column, encoding, rows, nulls, words, least, greatest`
abbrev pub segment_line : Schema → SegmentLine → List ℕ
segment_line schema line = report_line (
    decimal line.id
    ∷ decimal line.column
    ∷ encoding_name line.encoding
    ∷ decimal line.rows
    ∷ decimal (bit_of line.nulls)
    ∷ decimal line.words
    ∷ value_text (column_kind schema line.column) line.least
    ∷ value_text (column_kind schema line.column) line.greatest
    ∷ []
    )

-- `id, actor`: a group that a REORGANIZE left, and who held it
abbrev pub left_line : ℕ × Actor → List ℕ
left_line held = report_line (decimal held.0 ∷ actor_text held.1 ∷ [])

-- ---- lines

-- `ok`, a count and what is counted
abbrev pub ok_line : ℕ → List ℕ → List ℕ
ok_line count counted = codes "ok " ++ decimal count ++ counted

-- the line that a reply begins with
abbrev pub head_line : Schema → Reply → List ℕ
head_line schema Done = codes "ok"
head_line schema (Affected count) = ok_line count (codes " affected")
head_line schema (Rows rows segments) = ok_line (length rows) (codes " rows")
head_line schema (Groups lines buffered) = ok_line (length lines) (codes " groups, ") ++ decimal buffered ++ codes " buffered"
head_line schema (Segments lines) = ok_line (length lines) (codes " segments")
head_line schema (Left groups) = ok_line (length groups) (codes " left")
head_line schema (Refused refusal) = refusal_text schema refusal

-- the lines under it
abbrev pub under_lines : Schema → Reply → List (List ℕ)
under_lines schema Done = []
under_lines schema (Affected count) = []
under_lines schema (Rows rows segments) = map row_line rows ++ segments_lines segments
under_lines schema (Groups lines buffered) = map group_line lines
under_lines schema (Segments lines) = map (segment_line schema) lines
under_lines schema (Left groups) = map left_line groups
under_lines schema (Refused refusal) = []

-- `<event> s<session>.<place>`
abbrev pub statement_text : ℕ → ℕ → ℕ → List ℕ
statement_text event session place = decimal event ++ codes " " ++ session_text session ++ codes "." ++ decimal place

-- the lines of an entry: event is its number, place that of its statement in its session, both from 1
abbrev pub entry_lines : Schema → ℕ → ℕ → Entry → List (List ℕ)
entry_lines schema event place (Start session bound short) = (statement_text event session place ++ codes " >") ∷ []
entry_lines schema event place (Finish session reply) = (statement_text event session place ++ codes " < " ++ head_line schema reply) ∷ under_lines schema reply
entry_lines schema event place (End session) = (decimal event ++ codes " " ++ session_text session ++ codes " end") ∷ []
entry_lines schema event place (Mover actor work) = (decimal event ++ codes " " ++ actor_text actor ++ codes " " ++ work_text work) ∷ []

-- worked: the lines of an answer with two rows
pub two_rows : (schema : Schema)
    → entry_lines schema 2 1 (Finish 1 (Rows ((loose.Number (pos 1) 0 ∷ loose.Text (codes "a") ∷ []) ∷ (loose.Number (pos 2) 0 ∷ loose.Null ∷ []) ∷ []) None))
    ≡ codes "2 s1.1 < ok 2 rows" ∷ codes "  1, 'a'" ∷ codes "  2, NULL" ∷ []
unfolding digits
two_rows schema = refl

-- ---- the text of a log

-- lines, each with the byte 10 after it
abbrev pub lines_text : List (List ℕ) → List ℕ
lines_text lines = flat_map (λ line. line ++ codes "\n") lines

-- the text of an entry
abbrev pub entry_text : Schema → ℕ → ℕ → Entry → List ℕ
entry_text schema event place entry = lines_text (entry_lines schema event place entry)

abbrev pub is_start_of : ℕ → Entry → Bool
is_start_of session (Start s bound short) = s == session
is_start_of session (Finish s reply) = false
is_start_of session (End s) = false
is_start_of session (Mover actor work) = false

-- how many statements of the session these entries began
abbrev pub statements_of : ℕ → List Entry → ℕ
statements_of session entries = count_by (is_start_of session) entries

-- the text of an entry after these: its event number counts all entries, its place its session's statements
abbrev pub line_after : Begin → List Entry → Entry → List ℕ
line_after begin before entry = entry_text begin.schema (length before + 1) (statements_of (actor_of entry) (before ++ entry ∷ [])) entry

-- the text of the entries that come after those before
abbrev pub text_after : Begin → List Entry → List Entry → List ℕ
text_after begin before [] = []
text_after begin before (entry ∷ entries) = line_after begin before entry ++ text_after begin (before ++ entry ∷ []) entries

-- the text of a log
abbrev pub text : Begin → List Entry → List ℕ
text begin log = text_after begin [] log

-- ---- what can be printed: values that a column keeps, and no day outside the calendar

-- the key's column keeps it
abbrev pub IsPrintableKey : Schema → Key → Type 0
IsPrintableKey schema key = IsTrue (keeps (key_kind schema) (Number key.0))

abbrev pub IsPrintableRefusal : Schema → Refusal → Type 0
IsPrintableRefusal schema (Reading number at) = Unit {0}
IsPrintableRefusal schema (Valued number row column) = Unit {0}
IsPrintableRefusal schema (Locked key txn) = IsPrintableKey schema key
IsPrintableRefusal schema (Changed key txn commit) = IsPrintableKey schema key
IsPrintableRefusal schema (Duplicate key) = IsPrintableKey schema key
IsPrintableRefusal schema (NoTxn number) = Unit {0}
IsPrintableRefusal schema Memory = Unit {0}

abbrev pub IsPrintableRow : List Loose → Type 0
IsPrintableRow row = All IsPrintable row

-- a cell that is no day outside the calendar
abbrev pub IsPrintableCell : ColumnType → Value → Type 0
IsPrintableCell kind value = IsPrintable (loose_of kind value)

-- the least and the greatest cell of the column
abbrev pub IsPrintableSegment : Schema → SegmentLine → Type 0
IsPrintableSegment schema line = IsPrintableCell (column_kind schema line.column) line.least × IsPrintableCell (column_kind schema line.column) line.greatest

abbrev pub IsPrintableReply : Schema → Reply → Type 0
IsPrintableReply schema Done = Unit {0}
IsPrintableReply schema (Affected count) = Unit {0}
IsPrintableReply schema (Rows rows segments) = All IsPrintableRow rows
IsPrintableReply schema (Groups lines buffered) = Unit {0}
IsPrintableReply schema (Segments lines) = All (IsPrintableSegment schema) lines
IsPrintableReply schema (Left groups) = Unit {0}
IsPrintableReply schema (Refused refusal) = IsPrintableRefusal schema refusal

abbrev pub IsPrintableEntry : Schema → Entry → Type 0
IsPrintableEntry schema (Start session bound short) = Unit {0}
IsPrintableEntry schema (Finish session reply) = IsPrintableReply schema reply
IsPrintableEntry schema (End session) = Unit {0}
IsPrintableEntry schema (Mover actor work) = Unit {0}
