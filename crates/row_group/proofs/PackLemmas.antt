-- The group of kept versions.
use Rattle.std.proofs.Common.{◌≡◌, ◌≢◌, ℕ, ◌<◌, List, [], length, map, get_or, refl, sym, ◌∙◌, ap, subst, arith, IsTrue}
use Rattle.std.specs.List.{All, AllPairs, range_with_len}
use Rattle.std.specs.List.Sorted.{IsPermutation}
use Rattle.std.specs.Ordering.{nat_cmp, ordering_then}
use Rattle.std.proofs.lemmas.List.{length-map, get_or-map, get_or_default}
use Rattle.std.proofs.lemmas.List.Elements.{All-map}
use Rattle.std.proofs.lemmas.List.FromFn.{fill_by_all, length-range_with_len, get_or-range_with_len, length-map-range_with_len}
use Rattle.std.proofs.lemmas.List.Sorted.{IsPermutation-map, All-permutation}
use Rattle.std.proofs.lemmas.Option.{slice_get_within}
use Rattle.cs_types.specs.declared.Column.{Column}
use Rattle.cs_types.specs.declared.Schema.{Schema}
use Rattle.cs_types.specs.declared.Value.{Value}
use Rattle.cs_types.specs.declared.Value.TheVariants.{Null, Number, Text}
use Rattle.cs_types.specs.Kinds.{is_of_type}
use Rattle.cs_types.specs.Rows.{cell_at, IsNumber}
use Rattle.cs_types.specs.Schemas.{may_hold, IsSchema, IsRowOf}
use Rattle.cs_types.specs.Values.{value_cmp}
use Rattle.row_group.specs.Rows.{PackedRow, begin_above, begun_above, column_of, distinct_cells, row_cmp, AreInOrder}
use Rattle.row_group.specs.Groups.{Group, HoldsRows}
use Rattle.row_group.specs.Packings.{AreEven, IsOrderedBy, source_row, source_rows}
use Rattle.row_group.specs.Arranged.{KeepColumns, AreNumbers, IsRowOrder, IsArranged, source_cmp}
use Rattle.cs_types.proofs.RowLemmas.{row_has_key}
use Rattle.row_group.proofs.ArrangeLemmas.{by_rank-same}
use Rattle.row_group.proofs.FieldLemmas.{cell_of-source}
use Rattle.row_group.proofs.ColumnLemmas.{row_of-source, map-within, rows-raised}
use Rattle.row_group.proofs.ShownLemmas.{cell_at-get_or, map-map}
use Rattle.column_segment.proofs.Moved.{range-within}
use Rattle.row_group.proofs.OrderLemmas.{range-apart, length-range}

held-kept : (column : Column) (v : Value) → IsTrue (may_hold column v) → IsTrue (is_of_type column.kind v)
held-kept column Null held = refl
held-kept column (Number z) held = held
held-kept column (Text t) held = held

-- raised begins change no cell
pub raised-even : (floor : ℕ) (columns : List (List Value)) (begins raised : List ℕ) → raised ≡ map (begin_above floor) begins → AreEven columns (length begins) → AreEven columns (length raised)
raised-even floor columns begins raised e even = subst (AreEven columns) (sym (ap length e ∙ length-map begins (begin_above floor))) even

pub raised-fits : (schema : Schema) (floor : ℕ) (columns : List (List Value)) (begins raised : List ℕ) → raised ≡ map (begin_above floor) begins → All (λ row. IsRowOf schema row.cells) (source_rows columns begins) → All (λ row. IsRowOf schema row.cells) (source_rows columns raised)
raised-fits schema floor columns begins raised e fit =
    subst (λ (rows : List PackedRow). All (λ (row : PackedRow). IsRowOf schema row.cells) rows) (rows-raised floor columns begins ∙ ap (source_rows columns) (sym e))
    (All-map (λ (row : PackedRow). IsRowOf schema row.cells) (begun_above floor) (source_rows columns begins) fit)

module _ (schema : Schema) (columns : List (List Value)) (begins : List ℕ) (even : AreEven columns (length begins)) (wide : length columns ≡ length schema.columns) where
  length-column : (c : ℕ) → c < length columns → length (get_or columns c []) ≡ length begins
  length-column c l = even c [] l

  -- the row at a place fits
  fitted : All (λ row. IsRowOf schema row.cells) (source_rows columns begins) → (k : ℕ) → k < length begins → IsRowOf schema (source_row columns begins k).cells
  fitted fit k l =
      let d : PackedRow = record { cells = []; begin = 0 } in
      subst (λ (row : PackedRow). IsRowOf schema row.cells) (row_of-source columns begins k d l)
      (fit k d (omega (arith, l, length-map-range_with_len (source_row columns begins) 0 (length begins))))

  pub columns-keep : All (λ row. IsRowOf schema row.cells) (source_rows columns begins) → KeepColumns schema columns
  columns-keep fit c column found k d l =
      let there : c < length columns = omega (arith, slice_get_within schema.columns c column found, wide) in
      let cells = get_or columns c [] in
      let m : k < length begins = omega (arith, l, length-column c there) in
      subst (λ (cell : Value). IsTrue (is_of_type column.kind cell))
      (cell_of-source columns begins k c ∙ cell_at-get_or cells k ∙ get_or_default cells k Null d l)
      (held-kept column (cell_at (source_row columns begins k).cells c) ((fitted fit k m).held c column found))

  -- the cells of the key's column are numbers
  pub keys-numbers : IsSchema schema → All (λ row. IsRowOf schema row.cells) (source_rows columns begins) → AreNumbers (get_or columns schema.key []) (length begins)
  keys-numbers is fit i l =
      subst IsNumber (cell_of-source columns begins i schema.key) (row_has_key schema (source_row columns begins i).cells is (fitted fit i l))

  module _ (order : List ℕ) (ordered : IsRowOrder columns begins order) where
    pub places-within : All (λ place. place < length begins) order
    places-within = range-within (length begins) order ordered.all

    pub length-places : length order ≡ length begins
    length-places = length-range (length begins) order ordered.all

    pub places-apart : AllPairs (λ a b. a ≢ b) order
    places-apart i j d l m = range-apart (length begins) order ordered.all i j d l m

    -- a column of the rows has its cells in another order
    column-moved : (c : ℕ) → c < length columns → IsPermutation (get_or columns c []) (column_of (map (source_row columns begins) order) c)
    column-moved c l =
        let column = get_or columns c [] in
        let before = fill_by_all (cell_at column) column (length begins) Null (length-column c l) (λ k m. sym (cell_at-get_or column k)) in
        let after = map-map (source_row columns begins) (λ (row : PackedRow). cell_at row.cells c) (cell_at column) (λ i. cell_of-source columns begins i c) order in
        subst (λ (cells : List Value). IsPermutation cells (column_of (map (source_row columns begins) order) c)) (sym before)
        (subst (IsPermutation (map (cell_at column) (range_with_len 0 (length begins)))) (sym after)
        (IsPermutation-map (cell_at column) (range_with_len 0 (length begins)) order ordered.all))

    rank-within : All (λ c. c < length columns) ordered.rank
    rank-within = All-permutation (λ c. c < length columns) (range_with_len 0 (length columns)) ordered.rank ordered.of_columns
        (λ k d l. let m : k < length columns = omega (arith, length-range_with_len 0 (length columns)) in omega (arith, get_or-range_with_len 0 (length columns) k d m))

    counted : (c : ℕ) → c < length columns → get_or ordered.counts c 0 ≡ distinct_cells (column_of (map (source_row columns begins) order) c)
    counted c l = ordered.counted c (column_of (map (source_row columns begins) order) c) l (column-moved c l)

    -- rows stand as the places of the columns do
    rows-stand : (p q : ℕ) → row_cmp ordered.rank (source_row columns begins p) (source_row columns begins q) ≡ source_cmp columns begins ordered.rank p q
    rows-stand p q =
        ap (λ r. ordering_then r (nat_cmp (get_or begins p 0) (get_or begins q 0)))
        (by_rank-same (λ c. value_cmp (cell_at (source_row columns begins p).cells c) (cell_at (source_row columns begins q).cells c)) (λ c. value_cmp (cell_at (get_or columns c []) p) (cell_at (get_or columns c []) q)) ordered.rank
        (λ k d l.
        let c = get_or ordered.rank k d in
        ap (λ x. value_cmp x (cell_at (source_row columns begins q).cells c)) (cell_of-source columns begins p c) ∙ ap (value_cmp (cell_at (get_or columns c []) p)) (cell_of-source columns begins q c)))

    in-order : AreInOrder (length schema.columns) (map (source_row columns begins) order)
    in-order = record {
      rank = ordered.rank;
      of_columns = subst (λ n. IsPermutation (range_with_len 0 n) ordered.rank) wide ordered.of_columns;
      ranked = λ i j d l m.
          let a = get_or ordered.rank i d in
          let b = get_or ordered.rank j d in
          sym (ap (λ x. ordering_then (nat_cmp x (get_or ordered.counts b 0)) (nat_cmp a b)) (counted a (rank-within i d (omega arith)))
          ∙ ap (λ y. ordering_then (nat_cmp (distinct_cells (column_of (map (source_row columns begins) order) a)) y) (nat_cmp a b)) (counted b (rank-within j d m)))
          ∙ ordered.ranked i j d l m;
      ascending = λ i j d l m greater.
          let n : j < length order = omega (arith, m, length-map order (source_row columns begins)) in
          let x = get_or-map (source_row columns begins) order i 0 d (omega arith) in
          let y = get_or-map (source_row columns begins) order j 0 d n in
          ordered.ascending i j 0 l n
          (sym (rows-stand (get_or order i 0) (get_or order j 0))
          ∙ sym (ap (λ row. row_cmp ordered.rank row (get_or (map (source_row columns begins) order) j d)) x ∙ ap (row_cmp ordered.rank (source_row columns begins (get_or order i 0))) y)
          ∙ greater);
    }

    -- the rows of the group
    pub rows-moved : IsPermutation (source_rows columns begins) (map (source_row columns begins) order)
    rows-moved = IsPermutation-map (source_row columns begins) (range_with_len 0 (length begins)) order ordered.all

    -- the group is that of the rows
    pub group-made : (floor : ℕ) (group : Group) → IsArranged columns begins order schema.key floor group → HoldsRows schema (source_rows columns begins) floor group
    group-made floor group arranged = record {
      rows = subst (IsPermutation (source_rows columns begins)) (sym arranged.rows) rows-moved;
      order = subst (AreInOrder (length schema.columns)) (sym arranged.rows) in-order;
      places = arranged.places;
      width = arranged.width ∙ wide;
      key = arranged.key;
      base = arranged.base;
    }

    -- and its rows are those at the places of the order
    pub order-made : (floor : ℕ) (group : Group) → IsArranged columns begins order schema.key floor group → IsOrderedBy (source_rows columns begins) order group
    order-made floor group arranged =
        let d : PackedRow = record { cells = []; begin = 0 } in
        record {
          all = subst (λ n. IsPermutation (range_with_len 0 n) order) (sym (length-map-range_with_len (source_row columns begins) 0 (length begins))) ordered.all;
          by_place = arranged.rows
              ∙ map-within (source_row columns begins) (λ i. get_or (source_rows columns begins) i d) order
              (λ k e l. sym (row_of-source columns begins (get_or order k e) d (places-within k e l)));
        }
