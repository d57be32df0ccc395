-- What the codes of a column tell of a predicate.
use Rattle.std.specs.Prelude.{◌≡◌, ◌≢◌, ◌+◌, ◌<◌, ◌≤◌, ℕ, nat_le, Bool, true, false, List, length, slice_index_or, Option, Some, None, if◌then◌else◌}
use Rattle.std.specs.declared.cmp.Ordering.{Ordering}
use Rattle.std.specs.declared.cmp.Ordering.TheVariants.{Less, Equal, Greater}
use Rattle.std.specs.Ordering.{is_ge, is_gt, nat_cmp}
use Rattle.cs_types.specs.declared.ColumnType.{ColumnType}
use Rattle.cs_types.specs.declared.Loose.{Loose}
use Rattle.cs_types.specs.declared.Schema.{Schema}
use Rattle.cs_types.specs.declared.Value.{Value}
use Rattle.cs_types.specs.declared.Value.TheVariants.{Null}
use Rattle.cs_types.specs.Rows.{cell_at}
use Rattle.cs_types.specs.Text.{loose_of}
use Rattle.cs_types.specs.Values.{value_cmp}
use Rattle.cs_model.specs.declared.pred.Pred.{Pred}
use Rattle.cs_model.specs.declared.pred.Relation.{Relation}
use Rattle.cs_model.specs.declared.pred.Relation.TheVariants as sign
use Rattle.cs_model.specs.Truths.{order_of, truth}
use Rattle.column_segment.specs.declared.body.SegmentBody.{SegmentBody}
use Rattle.column_segment.specs.Bodies.{IsKnown, cell_of_code, code_in}
use Rattle.batch_kernels.specs.Masks.{in_span}
use Rattle.batch_filter.specs.declared.choice.Choice.{Choice}
use Rattle.batch_filter.specs.declared.choice.Choice.TheVariants as choice
use Rattle.batch_filter.specs.Sieves.{is_asked}

-- the codes up to the last are known, stand as their cells do, and exactly those before the first are NULL's
pub record AreCodes (body : SegmentBody) (first last : ℕ) : Type 0 where
  pub known : (code : ℕ) → code ≤ last → IsKnown body code
  pub null : (code : ℕ) → code < first → code ≤ last → cell_of_code body code ≡ Null
  pub some : (code : ℕ) → first ≤ code → code ≤ last → cell_of_code body code ≢ Null
  pub order : (code other : ℕ) → code ≤ last → other ≤ last → nat_cmp code other ≡ value_cmp (cell_of_code body code) (cell_of_code body other)

-- how the cell of a code stands to a constant
abbrev pub order_at : ColumnType → SegmentBody → Loose → ℕ → Option Ordering
order_at kind body constant code = order_of (loose_of kind (cell_of_code body code)) constant

-- a cell whose order to a constant is this is at least it, or, where `over`, above it
abbrev pub is_past : Bool → Option Ordering → Bool
is_past over None = false
is_past true (Some order) = is_gt order
is_past false (Some order) = is_ge order

-- of the codes from the first up to the last exactly those from the edge on pass a test
pub record IsEdge (test : ℕ → Bool) (first last edge : ℕ) : Type 0 where
  pub least : first ≤ edge
  pub most : edge ≤ last + 1
  pub before : (code : ℕ) → first ≤ code → code < edge → test code ≡ false
  pub after : (code : ℕ) → edge ≤ code → code ≤ last → test code ≡ true

-- how a code stands to a cut: before it, in it, or after it
abbrev pub place : ℕ → ℕ → ℕ → Ordering
place from to code = if nat_le to code then Greater else (if nat_le from code then Equal else Less)

-- where the codes of a sign begin and end beside a cut, and whether they lie between
abbrev pub span_begin : Relation → ℕ → ℕ
span_begin sign.Equal from = from
span_begin sign.NotEqual from = from
span_begin sign.Less from = 0
span_begin sign.LessEqual from = 0
span_begin sign.Greater from = 0
span_begin sign.GreaterEqual from = 0

abbrev pub span_end : Relation → ℕ → ℕ → ℕ
span_end sign.Equal from to = to
span_end sign.NotEqual from to = to
span_end sign.Less from to = from
span_end sign.LessEqual from to = to
span_end sign.Greater from to = to
span_end sign.GreaterEqual from to = from

abbrev pub is_inside : Relation → Bool
is_inside sign.Equal = true
is_inside sign.NotEqual = false
is_inside sign.Less = true
is_inside sign.LessEqual = true
is_inside sign.Greater = false
is_inside sign.GreaterEqual = false

-- a code is one that a choice takes
abbrev pub takes : Choice → ℕ → Bool
takes (choice.Span span) code = in_span span code
takes (choice.Table table) code = slice_index_or table code false

-- a choice has an answer for each code of so many cells
abbrev pub Answers : Choice → SegmentBody → ℕ → Type 0
Answers (choice.Span span) body count = Unit {0}
Answers (choice.Table table) body count = (i : ℕ) → i < count → code_in body i < length table

-- a test of codes tells of which rows a predicate has the truth that is asked for, by the cell in one column: that of a code up
-- to the last
abbrev pub Judges : Schema → Pred → Bool → ℕ → SegmentBody → ℕ → (ℕ → Bool) → Type 0
Judges schema pred holds column body last test =
    (row : List Value) (code : ℕ) → code ≤ last → cell_at row column ≡ cell_of_code body code → test code ≡ is_asked holds (truth pred row schema)
