-- The segment lines of a view's packed groups, and the counts of a scan of them, are those that its book shows.
use Rattle.std.proofs.Common.{◌≡◌, ℕ, suc, ◌<◌, List, [], ◌∷◌, map, filter, length, get_or, cond, slice_get, Bool, true, false, not, Option, None, Some, refl, sym, ap, subst, ◌∙◌, arith}
use Rattle.std.specs.Prelude.{unwrap_or}
use Rattle.std.specs.List.{All, AllByRecursion, AllZip, flat_map, range_with_len}
use Rattle.std.specs.List.Sorted.{IsPermutation}
use Rattle.std.specs.Option.{option_map}
use Rattle.std.specs.declared.cmp.Ordering.{Ordering}
use Rattle.std.specs.Ordering.{nat_cmp, ordering_then}
use Rattle.std.proofs.lemmas.List.{get_or-map, length-map}
use Rattle.std.proofs.lemmas.List.Elements.{recursion_from_All}
use Rattle.std.proofs.lemmas.List.FromFn.{get_or-range_with_len, length-range_with_len}
use Rattle.std.proofs.lemmas.List.Sorted.{IsPermutation-refl, All-permutation}
use Rattle.std.proofs.lemmas.Option.{none-some, same_Some, slice_get_within}
use Rattle.cs_types.specs.declared.Column.{Column}
use Rattle.cs_types.specs.declared.Loose.{Loose}
use Rattle.cs_types.specs.declared.Schema.{Schema}
use Rattle.cs_types.specs.declared.Value.{Value}
use Rattle.cs_types.specs.Rows.{cell_at, padded}
use Rattle.cs_types.specs.Values.{value_cmp}
use Rattle.cs_types.proofs.PaddedLemmas.{padded_cell}
use Rattle.cs_model.specs.declared.pred.Pred.{Pred}
use Rattle.cs_model.specs.declared.pred.Pred.TheFolds.{fold-Pred}
use Rattle.cs_model.specs.Cells.{loose_in}
use Rattle.cs_model.specs.Changes.{Change, last_change, made}
use Rattle.cs_model.specs.Scans.{is_skipped, scan_counts}
use Rattle.cs_model.specs.Skips.{loose_cells, skips_step}
use Rattle.cs_model.specs.declared.report.SegmentLine.{SegmentLine}
use Rattle.delete_bitmap.specs.declared.MarkedEnd.{MarkedEnd}
use Rattle.row_group.specs.Orders.{by_rank}
use Rattle.row_group.specs.Rows.{PackedRow, padded_row, column_of, column_cmp, row_cmp, distinct_cells, AreInOrder}
use Rattle.group_book.specs.Book as book
use Rattle.group_book.specs.Book.{is_compressed}
use Rattle.group_book.proofs.Lists.{all-left, all-right}
use Rattle.group_log.specs.Counted.{AreCounts}
use Rattle.group_log.specs.Segments.{IsSegmentLine, AreGroupLines, AreSegmentLines, packed_row, AreRowsOf, ShowsSegments}
use Rattle.group_view.specs.declared.groups.Group.{Group}
use Rattle.group_view.specs.declared.groups.GroupContent.{GroupContent}
use Rattle.group_view.specs.declared.groups.GroupContent.TheVariants.{Opened, Closed, Compressed, Invisible, Tombstone}
use Rattle.group_view.specs.declared.view.GroupView.{GroupView}
use Rattle.group_view.specs.Parts.{Rowed, packed_version, packed_versions, packed_parts, rows_by_id}
use Rattle.group_view.specs.Books.{versions_of, rowed_in_content, group_of, book_of}
use Rattle.group_view.specs.Lists.{IsFittingContent, packed_in}
use Rattle.group_view.specs.Laws.{IsMadeRow}
use Rattle.group_view.specs.Scanned.{counts_in}
use Rattle.group_directory.specs.declared.directory.Directory.{Directory}
use Rattle.group_directory.specs.Laws.{IsLookAt}
use Rattle.group_directory.specs.Stands.{width_in, Stands}
use Rattle.group_directory.proofs.GroupLaws.{listed_whole}

module _ (width : ℕ) where
  -- ---- rows in so many cells

  abbrev filled : PackedRow → PackedRow
  filled row = padded_row width row.cells row.begin

  abbrev filled_rows : ℕ × List PackedRow → ℕ × List PackedRow
  filled_rows group = (group.0, map filled group.1)

  column_kept : (rows : List PackedRow) (c : ℕ) → c < width → column_of (map filled rows) c ≡ column_of rows c
  column_kept [] c l = refl
  column_kept (row ∷ rows) c l = ap (λ (cell : Value). cell ∷ column_of (map filled rows) c) (padded_cell width row.cells c l) ∙ ap (λ (cells : List Value). cell_at row.cells c ∷ cells) (column_kept rows c l)

  rank_kept : (x y : PackedRow) (rank : List ℕ) → AllByRecursion (λ c. c < width) rank
      → by_rank (λ c. value_cmp (cell_at (filled x).cells c) (cell_at (filled y).cells c)) rank ≡ by_rank (λ c. value_cmp (cell_at x.cells c) (cell_at y.cells c)) rank
  rank_kept x y [] low = refl
  rank_kept x y (c ∷ rank) low =
      ap (λ (cell : Value). ordering_then (value_cmp cell (cell_at (filled y).cells c)) (by_rank (λ k. value_cmp (cell_at (filled x).cells k) (cell_at (filled y).cells k)) rank)) (padded_cell width x.cells c low.0)
      ∙ ap (λ (cell : Value). ordering_then (value_cmp (cell_at x.cells c) cell) (by_rank (λ k. value_cmp (cell_at (filled x).cells k) (cell_at (filled y).cells k)) rank)) (padded_cell width y.cells c low.0)
      ∙ ap (λ (rest : Ordering). ordering_then (value_cmp (cell_at x.cells c) (cell_at y.cells c)) rest) (rank_kept x y rank low.1)

  columns_kept : (rows : List PackedRow) (a b : ℕ) → a < width → b < width → column_cmp (map filled rows) a b ≡ column_cmp rows a b
  columns_kept rows a b a_low b_low =
      ap (λ (cells : List Value). ordering_then (nat_cmp (distinct_cells cells) (distinct_cells (column_of (map filled rows) b))) (nat_cmp a b)) (column_kept rows a a_low)
      ∙ ap (λ (cells : List Value). ordering_then (nat_cmp (distinct_cells (column_of rows a)) (distinct_cells cells)) (nat_cmp a b)) (column_kept rows b b_low)

  range_low : All (λ c. c < width) (range_with_len 0 width)
  range_low k d inside =
      let within : k < width = omega (arith, inside, length-range_with_len 0 width) in
      let is = get_or-range_with_len 0 width k d within in
      omega (arith, within, is)

  order_kept : (rows : List PackedRow) → AreInOrder width rows → AreInOrder width (map filled rows)
  order_kept rows is = record {
    rank = is.rank;
    of_columns = is.of_columns;
    ranked = λ i j d before inside. columns_kept rows (get_or is.rank i d) (get_or is.rank j d) (low i d (omega (arith, before, inside))) (low j d inside) ∙ is.ranked i j d before inside;
    ascending = λ i j d before inside greater.
        let within : j < length rows = omega (arith, inside, length-map rows filled) in
        let first = get_or-map filled rows i d d (omega (arith, before, within)) in
        let second = get_or-map filled rows j d d within in
        let x = get_or rows i d in
        let y = get_or rows j d in
        is.ascending i j d before within
        (sym (ap (λ (cells : Ordering). ordering_then cells (nat_cmp x.begin y.begin)) (rank_kept x y is.rank (recursion_from_All (λ c. c < width) is.rank low)))
        ∙ ap (λ (row : PackedRow). row_cmp is.rank row (filled y)) (sym first)
        ∙ ap (row_cmp is.rank (get_or (map filled rows) i d)) (sym second) ∙ greater);
  }
    where
      low : All (λ c. c < width) is.rank
      low = All-permutation (λ c. c < width) (range_with_len 0 width) is.rank is.of_columns range_low

  -- ---- lines

  zip_kept : {X Y : Type 0} (P : X → Type 0) (R S : X → Y → Type 0) → ((x : X) (y : Y) → P x → R x y → S x y) → (xs : List X) (ys : List Y) → AllByRecursion P xs → AllZip R xs ys → AllZip S xs ys
  zip_kept P R S step [] [] all zip = tt
  zip_kept P R S step [] (y ∷ ys) all zip = absurd zip
  zip_kept P R S step (x ∷ xs) [] all zip = absurd zip
  zip_kept P R S step (x ∷ xs) (y ∷ ys) all zip = (step x y all.0 zip.0, zip_kept P R S step xs ys all.1 zip.1)

  group_kept : (group : ℕ × List PackedRow) (lines : List SegmentLine) → AreGroupLines width group lines → AreGroupLines width (filled_rows group) lines
  group_kept group lines are = record {
    order = order_kept group.1 are.order;
    columns = zip_kept (λ c. c < width) (λ c line. IsSegmentLine group.0 c (column_of group.1 c) line) (λ c line. IsSegmentLine group.0 c (column_of (map filled group.1) c) line)
        (λ c line l is. subst (λ (cells : List Value). IsSegmentLine group.0 c cells line) (sym (column_kept group.1 c l)) is)
        (range_with_len 0 width) lines (recursion_from_All (λ c. c < width) (range_with_len 0 width) range_low) are.columns;
  }

  groups_kept : (groups : List (ℕ × List PackedRow)) (parts : List (List SegmentLine)) → AllZip (AreGroupLines width) groups parts → AllZip (AreGroupLines width) (map filled_rows groups) parts
  groups_kept [] [] zip = tt
  groups_kept [] (part ∷ parts) zip = absurd zip
  groups_kept (group ∷ groups) [] zip = absurd zip
  groups_kept (group ∷ groups) (lines ∷ parts) zip = (group_kept group lines zip.0, groups_kept groups parts zip.1)

  -- ---- the rows of the book's groups

  module _ (changes : List Change) where
    cells_are : (row : List Value) (o : Option (List Value)) → option_map (padded width) o ≡ Some (padded width row) → padded width (unwrap_or o []) ≡ padded width row
    cells_are row None is = absurd (none-some (padded width row) is)
    cells_are row (Some other) is = same_Some (padded width other) (padded width row) is

    rows_are : (key : ℕ) (rows : List PackedRow) (marks : List (Option MarkedEnd)) → length marks ≡ length rows → AllByRecursion (IsMadeRow width changes) (packed_versions key rows marks)
        → map (packed_row width changes) (versions_of (packed_versions key rows marks)) ≡ map filled rows
    rows_are key [] marks long all = refl
    rows_are key (row ∷ rows) [] long all = absurd (omega (arith, long))
    rows_are key (row ∷ rows) (mark ∷ marks) long all =
        let version = (packed_version key row mark).version in
        ap (λ (cells : List Value). (let first : PackedRow = record { cells = cells; begin = row.begin } in first) ∷ map (packed_row width changes) (versions_of (packed_versions key rows marks)))
        (cells_are row.cells (made (last_change version.key version.begin changes)) all.0)
        ∙ ap (λ (more : List PackedRow). filled row ∷ more) (rows_are key rows marks (omega (arith, long)) all.1)

    abbrev compressed : List Group → List book.Group
    compressed groups = filter (λ (group : book.Group). is_compressed group.content) (map group_of groups)

    abbrev rows_in_all : List Group → List Rowed
    rows_in_all groups = flat_map (λ (group : Group). rowed_in_content group.content) groups

    of_book : (groups : List Group) → AllByRecursion (λ (group : Group). IsFittingContent group.content) groups → AllByRecursion (IsMadeRow width changes) (rows_in_all groups)
        → AllZip (AreRowsOf width changes) (compressed groups) (map filled_rows (rows_by_id (packed_in groups)))
    of_book [] fits all = tt
    of_book (group ∷ groups) fits all =
        step group.content fits.0 (all-left (IsMadeRow width changes) (rowed_in_content group.content) (rows_in_all groups) all)
        (of_book groups fits.1 (all-right (IsMadeRow width changes) (rowed_in_content group.content) (rows_in_all groups) all))
      where
        step : (content : GroupContent) → IsFittingContent content → AllByRecursion (IsMadeRow width changes) (rowed_in_content content) → AllZip (AreRowsOf width changes) (compressed groups) (map filled_rows (rows_by_id (packed_in groups)))
            → AllZip (AreRowsOf width changes) (compressed (record group { content = content } ∷ groups)) (map filled_rows (rows_by_id (packed_in (record group { content = content } ∷ groups))))
        step (Opened store) fit here rest = rest
        step (Closed store) fit here rest = rest
        step (Compressed packed marks) fit here rest = (
          record {
            of_group = refl;
            of_versions = subst (λ (rows : List PackedRow). IsPermutation rows (map filled packed.value.rows)) (sym (rows_are packed.value.key packed.value.rows marks.value fit here)) (IsPermutation-refl (map filled packed.value.rows));
          },
          rest,
        )
        step Invisible fit here rest = rest
        step (Tombstone total deleted) fit here rest = rest

-- ---- counts

module _ (schema : Schema) (condition : Option Pred) where
  abbrev width_of : ℕ
  width_of = length schema.columns

  loose_kept : (row : PackedRow) (i : ℕ) (o : Option Column) → slice_get schema.columns i ≡ o → loose_in o (cell_at (filled width_of row).cells i) ≡ loose_in o (cell_at row.cells i)
  loose_kept row i None is = refl
  loose_kept row i (Some column) is = ap (loose_in (Some column)) (padded_cell width_of row.cells i (slice_get_within schema.columns i column is))

  column_loose : (i : ℕ) (rows : List PackedRow) → loose_cells schema (column_of (map (filled width_of) rows)) i ≡ loose_cells schema (column_of rows) i
  column_loose i [] = refl
  column_loose i (row ∷ rows) =
      ap (λ (cell : Loose). cell ∷ loose_cells schema (column_of (map (filled width_of) rows)) i) (loose_kept row i (slice_get schema.columns i) refl)
      ∙ ap (λ (cells : List Loose). loose_in (slice_get schema.columns i) (cell_at row.cells i) ∷ cells) (column_loose i rows)

  skipped_kept : (o : Option Pred) (rows : List PackedRow) → is_skipped schema o (column_of (map (filled width_of) rows)) ≡ is_skipped schema o (column_of rows)
  skipped_kept None rows = refl
  skipped_kept (Some pred) rows =
      let same : loose_cells schema (column_of (map (filled width_of) rows)) ≡ loose_cells schema (column_of rows) = λ k i. column_loose i rows k in
      ap (λ (cells : ℕ → List Loose). fold-Pred Bool (skips_step cells) pred) same

  abbrev columns : List (ℕ × List PackedRow) → List (ℕ → List Value)
  columns groups = map (λ (group : ℕ × List PackedRow). column_of group.1) groups

  abbrev counted : (Bool → Bool) → List (ℕ × List PackedRow) → ℕ
  counted q groups = length (filter (λ cells. q (is_skipped schema condition cells)) (columns groups))

  count_kept : (q : Bool → Bool) (groups : List (ℕ × List PackedRow)) → counted q (map (filled_rows width_of) groups) ≡ counted q groups
  count_kept q [] = refl
  count_kept q (group ∷ groups) =
      let full = columns (map (filled_rows width_of) groups) in
      ap (λ (t : Bool). length (cond (q t) (column_of (map (filled width_of) group.1) ∷ filter (λ cells. q (is_skipped schema condition cells)) full) (filter (λ cells. q (is_skipped schema condition cells)) full)))
      (skipped_kept condition group.1)
      ∙ at (q (is_skipped schema condition (column_of group.1))) (count_kept q groups)
    where
      at : (t : Bool) → counted q (map (filled_rows width_of) groups) ≡ counted q groups
          → length (cond t (column_of (map (filled width_of) group.1) ∷ filter (λ cells. q (is_skipped schema condition cells)) (columns (map (filled_rows width_of) groups))) (filter (λ cells. q (is_skipped schema condition cells)) (columns (map (filled_rows width_of) groups))))
          ≡ length (cond t (column_of group.1 ∷ filter (λ cells. q (is_skipped schema condition cells)) (columns groups)) (filter (λ cells. q (is_skipped schema condition cells)) (columns groups)))
      at true rest = ap suc rest
      at false rest = rest

  counts_kept : (groups : List (ℕ × List PackedRow)) → scan_counts schema condition (columns (map (filled_rows width_of) groups)) ≡ scan_counts schema condition (columns groups)
  counts_kept groups = λ k. (count_kept not groups k, count_kept (λ t. t) groups k)

-- ---- the laws

-- the rows of the book's COMPRESSED groups
book_rows : (directory : Directory) (changes : List Change) → Stands directory changes
    → AllZip (AreRowsOf (width_in directory) changes) (compressed (width_in directory) changes directory.list.groups.items) (map (filled_rows (width_in directory)) (rows_by_id (packed_in directory.list.groups.items)))
book_rows directory changes j =
    let groups = directory.list.groups.items in
    of_book (width_in directory) changes groups (recursion_from_All (λ (group : Group). IsFittingContent group.content) groups j.held.fitting)
    (subst (AllByRecursion (IsMadeRow (width_in directory) changes)) (listed_whole groups) (recursion_from_All (IsMadeRow (width_in directory) changes) _ j.rows))

pub counts_shown : (directory : Directory) (view : GroupView) (changes : List Change) (condition : Option Pred) → Stands directory changes → IsLookAt directory view
    → AreCounts directory.schema.value changes (book_of directory.list) condition (counts_in directory.schema.value view condition)
counts_shown directory view changes condition j look =
    let schema = directory.schema.value in
    let groups = directory.list.groups.items in
    record {
      groups = map (filled_rows (width_in directory)) (rows_by_id (packed_in groups));
      of_book = book_rows directory changes j;
      counted = ap (λ entries. scan_counts schema condition (columns schema condition (rows_by_id entries))) look.packed ∙ sym (counts_kept schema condition (rows_by_id (packed_in groups)));
    }

pub segments_shown : (directory : Directory) (view : GroupView) (changes : List Change) (lines : List SegmentLine) → Stands directory changes → IsLookAt directory view
    → AreSegmentLines directory.schema.value (rows_by_id (packed_parts view.groups)) lines → ShowsSegments directory.schema.value changes (book_of directory.list) lines
segments_shown directory view changes lines j look are =
    let width = width_in directory in
    let groups = directory.list.groups.items in
    let here = subst (λ entries. AreSegmentLines directory.schema.value (rows_by_id entries) lines) look.packed are in
    record {
      groups = map (filled_rows width) (rows_by_id (packed_in groups));
      of_book = book_rows directory changes j;
      of_groups = record { parts = here.parts; of_groups = groups_kept width (rows_by_id (packed_in groups)) here.parts here.of_groups; joined = here.joined };
    }
