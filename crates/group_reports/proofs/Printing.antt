-- The report on segments can be printed where the columns hold the rows.
use Rattle.std.proofs.Common.{◌≡◌, ◌≢◌, ℕ, ◌+◌, ◌-◌, List, [], ◌∷◌, length, slice_get, refl, sym, ap, subst, arith, IsTrue, Option, None, Some, All, Contains, ℤ}
use Rattle.std.specs.List.{range_with_len, flat_map, AllZip, AllByRecursion}
use Rattle.std.proofs.lemmas.List.Elements.{All-nil, All-cons, All-append, All-map, All-weaker, All-contains, recursion_from_All}
use Rattle.std.proofs.lemmas.Option.{slice_get_within}
use Rattle.cs_types.specs.declared.Column.{Column}
use Rattle.cs_types.specs.declared.ColumnType.{ColumnType}
use Rattle.cs_types.specs.declared.ColumnType.TheVariants as kinds
use Rattle.cs_types.specs.declared.Schema.{Schema}
use Rattle.cs_types.specs.declared.Value.{Value}
use Rattle.cs_types.specs.declared.Value.TheVariants.{Null, Number, Text}
use Rattle.cs_types.specs.Kinds.{keeps_number}
use Rattle.cs_types.specs.Rows.{cell_at, padded}
use Rattle.cs_types.specs.Text.{loose_number, IsPrintable}
use Rattle.cs_types.specs.Schemas.{may_hold, IsRowOf}
use Rattle.cs_types.proofs.PaddedLemmas.{padded_cell}
use Rattle.cs_model.specs.declared.report.SegmentLine.{SegmentLine}
use Rattle.cs_model.specs.Text.{kind_or, column_kind, IsPrintableCell, IsPrintableSegment}
use Rattle.row_group.specs.Rows.{PackedRow, column_of}
use Rattle.group_log.specs.Segments.{AreGroupLines, AreSegmentLines, IsSegmentLine}
use Rattle.group_reports.specs.Segments.{AreHeld}

-- ---- a cell

number_prints : (kind : ColumnType) (z : ℤ) → IsTrue (keeps_number kind z) → IsPrintable (loose_number kind z)
number_prints kinds.TinyInt z held = tt
number_prints kinds.SmallInt z held = tt
number_prints kinds.Int z held = tt
number_prints kinds.BigInt z held = tt
number_prints (kinds.Decimal p s) z held = tt
number_prints kinds.Date z held = held
number_prints (kinds.VarChar n) z held = tt

cell_prints : (column : Column) (cell : Value) → IsTrue (may_hold column cell) → IsPrintableCell column.kind cell
cell_prints column Null held = tt
cell_prints column (Number z) held = number_prints column.kind z held
cell_prints column (Text t) held = tt

-- without a column the type is one without days
any_prints : (cell : Value) → IsPrintableCell kinds.BigInt cell
any_prints Null = tt
any_prints (Number z) = tt
any_prints (Text t) = tt

module _ (schema : Schema) where
  -- in the table's cells the row fits the table
  abbrev IsRowHeld : PackedRow → Type 0
  IsRowHeld row = IsRowOf schema (padded (length schema.columns) row.cells)

  row_prints : (found : Option Column) (column : ℕ) (row : PackedRow) → slice_get schema.columns column ≡ found → IsRowHeld row → IsPrintableCell (kind_or found) (cell_at row.cells column)
  row_prints None column row is held = any_prints (cell_at row.cells column)
  row_prints (Some c) column row is held =
      let same = padded_cell (length schema.columns) row.cells column (slice_get_within schema.columns column c is) in
      cell_prints c (cell_at row.cells column) (subst (λ (cell : Value). IsTrue (may_hold c cell)) same (held.held column c is))

  -- the column that is counted from 1 in reports
  kind_is : (line : SegmentLine) (column : ℕ) → line.column ≡ column + 1 → column_kind schema line.column ≡ kind_or (slice_get schema.columns column)
  kind_is line column is = let e : line.column - 1 ≡ column = omega (arith, is) in ap (λ n. kind_or (slice_get schema.columns n)) e

  -- a cell of the column, or NULL
  bound_prints : (kind : ColumnType) (cells : List Value) (cell : Value) → All (IsPrintableCell kind) cells → (cell ≢ Null → Contains cells cell) → IsPrintableCell kind cell
  bound_prints kind cells Null all there = tt
  bound_prints kind cells (Number z) all there = All-contains (IsPrintableCell kind) cells (Number z) all (there (λ e. absurd (cc e)))
  bound_prints kind cells (Text t) all there = tt

  line_prints : (id column : ℕ) (rows : List PackedRow) (line : SegmentLine) → All IsRowHeld rows → IsSegmentLine id column (column_of rows column) line → IsPrintableSegment schema line
  line_prints id column rows line held is =
      let kind = column_kind schema line.column in
      let prints : (row : PackedRow) → IsRowHeld row → IsPrintableCell kind (cell_at row.cells column) =
      λ row whole. subst (λ t. IsPrintableCell t (cell_at row.cells column)) (sym (kind_is line column is.of_column)) (row_prints (slice_get schema.columns column) column row refl whole) in
      let all : All (IsPrintableCell kind) (column_of rows column) = All-map (IsPrintableCell kind) (λ (row : PackedRow). cell_at row.cells column) rows
      (All-weaker IsRowHeld (λ (row : PackedRow). IsPrintableCell kind (cell_at row.cells column)) prints rows held) in
      (bound_prints kind (column_of rows column) line.least all (λ some. (is.of_cells.least_is.1 some).0), bound_prints kind (column_of rows column) line.greatest all (λ some. (is.of_cells.greatest_is.1 some).0))

  -- ---- lines

  columns_print : (id : ℕ) (rows : List PackedRow) (columns : List ℕ) (lines : List SegmentLine) → All IsRowHeld rows
      → AllZip (λ column line. IsSegmentLine id column (column_of rows column) line) columns lines → All (IsPrintableSegment schema) lines
  columns_print id rows [] [] held h = All-nil (IsPrintableSegment schema)
  columns_print id rows [] (line ∷ lines) held h = absurd h
  columns_print id rows (column ∷ columns) [] held h = absurd h
  columns_print id rows (column ∷ columns) (line ∷ lines) held h = All-cons (IsPrintableSegment schema) line lines (line_prints id column rows line held h.0) (columns_print id rows columns lines held h.1)

  -- each group's rows are held
  abbrev IsGroupHeld : ℕ × List PackedRow → Type 0
  IsGroupHeld group = All IsRowHeld group.1

  groups_print : (groups : List (ℕ × List PackedRow)) (parts : List (List SegmentLine)) → AllByRecursion IsGroupHeld groups → AllZip (AreGroupLines (length schema.columns)) groups parts → All (IsPrintableSegment schema) (flat_map (λ part. part) parts)
  groups_print [] [] held h = All-nil (IsPrintableSegment schema)
  groups_print [] (part ∷ parts) held h = absurd h
  groups_print (group ∷ groups) [] held h = absurd h
  groups_print (group ∷ groups) (part ∷ parts) held h =
      All-append (IsPrintableSegment schema) part (flat_map (λ p. p) parts) (columns_print group.0 group.1 (range_with_len 0 (length schema.columns)) part held.0 h.0.columns) (groups_print groups parts held.1 h.1)

  pub report_prints : (groups : List (ℕ × List PackedRow)) (lines : List SegmentLine) → AreHeld schema groups → AreSegmentLines schema groups lines → All (IsPrintableSegment schema) lines
  report_prints groups lines held is = subst (All (IsPrintableSegment schema)) (sym is.joined) (groups_print groups is.parts (recursion_from_All IsGroupHeld groups held) is.of_groups)
