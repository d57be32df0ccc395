-- What the report on segments shows of the book: what each column of each COMPRESSED group is, in the order of a group.
use Rattle.std.specs.Prelude.{◌≡◌, ◌+◌, ℕ, List, [], length, map, filter, unwrap_or, IsPermutation}
use Rattle.std.specs.List.{range_with_len, flat_map, AllZip}
use Rattle.cs_types.specs.declared.Schema.{Schema}
use Rattle.cs_types.specs.declared.Value.{Value}
use Rattle.cs_model.specs.declared.report.SegmentLine.{SegmentLine}
use Rattle.cs_model.specs.Changes.{Change, last_change, made}
use Rattle.column_segment.specs.declared.body.SegmentBody.{SegmentBody}
use Rattle.column_segment.specs.Bodies.{encoding_of, words_in}
use Rattle.column_segment.specs.Segments.{IsSegmentOf}
use Rattle.row_group.specs.Rows.{PackedRow, padded_row, column_of, AreInOrder}
use Rattle.group_book.specs.Book.{Version, Group, Book, frozen_in, is_compressed}

-- ---- the lines

-- the line of a group's column, counted from 0 here and from 1 there: how its cells are kept in the fewest words
pub record IsSegmentLine (id column : ℕ) (cells : List Value) (line : SegmentLine) : Type 0 where
  pub of_group : line.id ≡ id
  pub of_column : line.column ≡ column + 1
  pub body : SegmentBody
  pub of_cells : IsSegmentOf cells line.rows body line.least line.greatest line.nulls
  pub encoding : line.encoding ≡ encoding_of body
  pub words : line.words ≡ words_in body

-- the lines of a group of so many columns, whose rows are in the order of a group: one for each column, by its place
pub record AreGroupLines (width : ℕ) (group : ℕ × List PackedRow) (lines : List SegmentLine) : Type 0 where
  pub order : AreInOrder width group.1
  pub columns : AllZip (λ column line. IsSegmentLine group.0 column (column_of group.1 column) line) (range_with_len 0 width) lines

-- the lines of groups, each an id with its rows in order, group by group
pub record AreSegmentLines (schema : Schema) (groups : List (ℕ × List PackedRow)) (lines : List SegmentLine) : Type 0 where
  pub parts : List (List SegmentLine)
  pub of_groups : AllZip (AreGroupLines (length schema.columns)) groups parts
  pub joined : lines ≡ flat_map (λ part. part) parts

-- ---- the book

-- a version as a group has it: the row of its key's last change at its begin, NULL past its end, with that begin
abbrev pub packed_row : ℕ → List Change → Version → PackedRow
packed_row width changes version = padded_row width (unwrap_or (made (last_change version.key version.begin changes)) []) version.begin

-- the rows are those of the group's versions, those of ended ones too
pub record AreRowsOf (width : ℕ) (changes : List Change) (group : Group) (rows : ℕ × List PackedRow) : Type 0 where
  pub of_group : rows.0 ≡ group.id
  pub of_versions : IsPermutation (map (packed_row width changes) (frozen_in group.content)) rows.1

-- the lines are those of the book's COMPRESSED groups, by id
pub record ShowsSegments (schema : Schema) (changes : List Change) (book : Book) (lines : List SegmentLine) : Type 0 where
  pub groups : List (ℕ × List PackedRow)
  pub of_book : AllZip (AreRowsOf (length schema.columns) changes) (filter (λ group. is_compressed group.content) book.groups) groups
  pub of_groups : AreSegmentLines schema groups lines
