-- The fields of a packed group, from columns put in order.
use Rattle.std.proofs.Common.{◌≡◌, ℕ, zero, suc, ◌+◌, ◌<◌, inl, inr, List, [], ◌∷◌, ◌++◌, length, map, get_or, refl, sym, ◌∙◌, ap, subst, arith, Some}
use Rattle.std.specs.List.{All, range_with_len, slice_get}
use Rattle.std.specs.List.Sorted.{IsPermutation}
use Rattle.std.specs.Ordering.{nat_cmp, ordering_then}
use Rattle.std.proofs.lemmas.Bool.{cases_lt}
use Rattle.std.proofs.lemmas.List.{length_push, length-map, get_or_append_left, get_or_push, get_or-map, get_or_default, same_lists, get_or_past}
use Rattle.std.proofs.lemmas.List.FromFn.{fill_by_all}
use Rattle.std.proofs.lemmas.Option.{slice_get-get_or, slice_get_within, get_or_from_slice_get}
use Rattle.cs_types.specs.declared.Key.{Key}
use Rattle.cs_types.specs.declared.Value.{Value}
use Rattle.cs_types.specs.declared.Value.TheVariants.{Null, Number, Text}
use Rattle.cs_types.specs.Rows.{cell_at, key_in, IsNumber}
use Rattle.cs_types.specs.Values.{value_cmp}
use Rattle.column_segment.specs.declared.segment.Segment.{Segment}
use Rattle.column_segment.specs.Bodies.{cell_in}
use Rattle.column_segment.specs.Segments.{IsSegmentOf}
use Rattle.row_group.specs.Orders.{IsOrderOf}
use Rattle.row_group.specs.Rows.{PackedRow}
use Rattle.cs_types.specs.Keys.{key_cmp}
use Rattle.row_group.specs.Groups.{keys_of, key_of_cell}
use Rattle.row_group.specs.Fields.{cells_in, shown_row, shown_rows, AreFields, AreStamps}
use Rattle.row_group.specs.Packings.{source_row}
use Rattle.column_segment.specs.Ranks.{ArePicked}
use Rattle.row_group.specs.Arranged.{IsColumnSegment, AreSegmentsOf, AreKeyCodes, AreNumbers}
use Rattle.row_group.proofs.ArrangeLemmas.{slice_get-push}
use Rattle.row_group.proofs.RankLemmas.{within-order}
use Rattle.row_group.proofs.ShownLemmas.{cell_at-get_or, cell_at-map}

-- a cell of the row at a place is that of its column
pub cell_of-source : (columns : List (List Value)) (begins : List ℕ) (i c : ℕ) → cell_at (source_row columns begins i).cells c ≡ cell_at (get_or columns c []) i
cell_of-source columns begins i c = elim (cases_lt c (length columns)) [
  | inl l ↦ cell_at-map (λ column. cell_at column i) columns c [] l
  | inr n ↦
      cell_at-get_or (map (λ column. cell_at column i) columns) c
      ∙ get_or_past (map (λ column. cell_at column i) columns) c Null (omega (arith, length-map columns (λ column. cell_at column i)))
      ∙ ap (λ column. cell_at column i) (sym (get_or_past columns c [] n))
]

-- one segment more
pub segments-more : (done : List (List Value)) (cells : List Value) (order : List ℕ) (segments : List Segment) (segment : Segment) → AreSegmentsOf done order segments → IsColumnSegment (map (cell_at cells) order) segment → AreSegmentsOf (done ++ cells ∷ []) order (segments ++ segment ∷ [])
segments-more done cells order segments segment are one = (
  length_push segments segment ∙ ap (λ n. n + 1) are.0 ∙ sym (length_push done cells),
  λ c other e. elim (slice_get-push segments segment other c e) [
    | inl f ↦
        let within = slice_get_within segments c other f in
        subst (λ (column : List Value). IsColumnSegment (map (cell_at column) order) other) (sym (get_or_append_left done (cells ∷ []) [] c (omega (arith, within, are.0)))) (are.1 c other f)
    | inr g ↦
        let at : length done ≡ c = omega (arith, g.0, are.0) in
        subst (λ (s : Segment). IsColumnSegment (map (cell_at (get_or (done ++ cells ∷ []) c [])) order) s) g.1
        (subst (λ (column : List Value). IsColumnSegment (map (cell_at column) order) segment) (sym (get_or_push done cells [] c at)) one)
  ],
)

-- a segment's cells are those that it is of
cells-same : (cells : List Value) (segment : Segment) → IsColumnSegment cells segment → cells_in segment ≡ cells
cells-same cells segment (is, at) =
    ap (λ n. map (λ i. cell_in segment.body i) (range_with_len 0 n)) is.counted
    ∙ sym (fill_by_all (λ i. cell_in segment.body i) cells (length cells) Null refl (λ k l. get_or_from_slice_get cells k (cell_in segment.body k) Null (at k l)))

-- a cell of a segment is the one at its place in the order
cell-moved : (column : List Value) (order : List ℕ) (segment : Segment) (k : ℕ) → IsColumnSegment (map (cell_at column) order) segment → k < length order → cell_in segment.body k ≡ cell_at column (get_or order k 0)
cell-moved column order segment k (is, at) l =
    sym (get_or_from_slice_get (map (cell_at column) order) k (cell_in segment.body k) Null (at k (omega (arith, length-map order (cell_at column)))))
    ∙ get_or-map (cell_at column) order k 0 Null l

-- what a list of segments has at a column
segment-at : (segments : List Segment) (c k : ℕ) (d : Value) → c < length segments → (segment : Segment) × (slice_get segments c ≡ Some segment) × (get_or (map (λ (s : Segment). cell_in s.body k) segments) c d ≡ cell_in segment.body k)
segment-at [] c k d l = absurd (omega (arith, l))
segment-at (segment ∷ segments) zero k d l = (segment, refl, refl)
segment-at (segment ∷ segments) (suc c) k d l = segment-at segments c k d (omega arith)

-- the rows that the fields show are those at the places of the order
pub rows-arranged : (columns : List (List Value)) (begins moved order : List ℕ) (segments : List Segment) (late : List (ℕ × ℕ)) (floor : ℕ) → AreSegmentsOf columns order segments → ArePicked begins order moved → AreStamps moved floor late → shown_rows segments late floor (length order) ≡ map (source_row columns begins) order
rows-arranged columns begins moved order segments late floor are picked stamps =
    sym (fill_by_all (shown_row segments late floor) (map (source_row columns begins) order) (length order) (record { cells = []; begin = 0 }) (length-map order (source_row columns begins)) (λ k l.
    get_or-map (source_row columns begins) order k 0 (record { cells = []; begin = 0 }) l ∙ row k l))
  where
    there : (c : ℕ) (d : Value) (k : ℕ) → k < length order → c < length columns → cell_at (get_or columns c []) (get_or order k 0) ≡ get_or (map (λ (segment : Segment). cell_in segment.body k) segments) c d
    there c d k l n =
        let (segment, e, f) = segment-at segments c k d (omega (arith, are.0)) in
        sym (cell-moved (get_or columns c []) order segment k (are.1 c segment e) l) ∙ sym f

    cells : (k : ℕ) → k < length order → map (λ column. cell_at column (get_or order k 0)) columns ≡ map (λ (segment : Segment). cell_in segment.body k) segments
    cells k l = same_lists (map (λ column. cell_at column (get_or order k 0)) columns) (map (λ (segment : Segment). cell_in segment.body k) segments)
        (length-map columns (λ column. cell_at column (get_or order k 0)) ∙ sym are.0 ∙ sym (length-map segments (λ (segment : Segment). cell_in segment.body k))) (λ c d m.
        let n : c < length columns = omega (arith, m, length-map columns (λ column. cell_at column (get_or order k 0))) in
        get_or-map (λ column. cell_at column (get_or order k 0)) columns c [] d n ∙ there c d k l n)

    row : (k : ℕ) → k < length order → source_row columns begins (get_or order k 0) ≡ shown_row segments late floor k
    row k l =
        let begin = stamps.shown k (omega (arith, picked.0)) ∙ picked.1 k 0 l in
        λ i. record { cells = cells k l i; begin = sym begin i }

number-cmp : (x y : Value) → IsNumber x → IsNumber y → value_cmp x y ≡ key_cmp (key_of_cell x) (key_of_cell y)
number-cmp Null y n o = absurd n
number-cmp (Number a) Null n o = absurd o
number-cmp (Number a) (Number b) n o = refl
number-cmp (Number a) (Text u) n o = absurd o
number-cmp (Text t) y n o = absurd n

-- the order of the codes is that of the keys of the rows
pub codes-order : (columns : List (List Value)) (begins order codes places : List ℕ) (key : ℕ) → AreNumbers (get_or columns key []) (length begins) → All (λ place. place < length begins) order → AreKeyCodes (get_or columns key []) order codes → IsOrderOf nat_cmp codes places → IsOrderOf key_cmp (keys_of key (map (source_row columns begins) order)) places
codes-order columns begins order codes places key numbers within are is = record {
  all = subst (λ n. IsPermutation (range_with_len 0 n) places) (are.0 ∙ sym long) is.all;
  ascending = λ d i j e less there.
      let p = get_or places i e in
      let q = get_or places j e in
      let a : p < length order = omega (arith, within-order nat_cmp codes places is i (omega arith), get_or_default places i 0 e (omega arith), are.0) in
      let b : q < length order = omega (arith, within-order nat_cmp codes places is j there, get_or_default places j 0 e there, are.0) in
      ap (λ r. ordering_then r (nat_cmp p q))
      (ap (λ x. key_cmp x (get_or keys q d)) (key-at p d a) ∙ ap (key_cmp (key_of_cell (cell p))) (key-at q d b)
      ∙ sym (are.1 p q a b ∙ number-cmp (cell p) (cell q) (numbers (get_or order p 0) (within p 0 a)) (numbers (get_or order q 0) (within q 0 b))))
      ∙ is.ascending 0 i j e less there;
}
  where
    keys : List Key
    keys = keys_of key (map (source_row columns begins) order)

    cell : ℕ → Value
    cell p = cell_at (get_or columns key []) (get_or order p 0)

    long : length keys ≡ length order
    long = length-map (map (source_row columns begins) order) (λ (row : PackedRow). key_in key row.cells) ∙ length-map order (source_row columns begins)

    key-at : (p : ℕ) (d : Key) → p < length order → get_or keys p d ≡ key_of_cell (cell p)
    key-at p d l =
        get_or-map (λ (row : PackedRow). key_in key row.cells) (map (source_row columns begins) order) p (record { cells = []; begin = 0 }) d (omega (arith, l, length-map order (source_row columns begins)))
        ∙ ap (λ (row : PackedRow). key_in key row.cells) (get_or-map (source_row columns begins) order p 0 (record { cells = []; begin = 0 }) l)
        ∙ ap key_of_cell (cell_of-source columns begins (get_or order p 0) key)

-- the fields agree
pub fields-made : (columns : List (List Value)) (begins moved order : List ℕ) (segments : List Segment) (late : List (ℕ × ℕ)) (key floor : ℕ) (places : List ℕ) → AreSegmentsOf columns order segments → ArePicked begins order moved → AreStamps moved floor late → key < length columns → IsOrderOf key_cmp (keys_of key (map (source_row columns begins) order)) places → AreFields segments key (length order) floor late places
fields-made columns begins moved order segments late key floor places are picked stamps there ordered = record {
  counted = λ c d l.
      let segment = get_or segments c d in
      (are.1 c segment (slice_get-get_or segments c d l)).0.counted ∙ length-map order (cell_at (get_or columns c []));
  kept = λ c d l.
      let segment = get_or segments c d in
      let is = are.1 c segment (slice_get-get_or segments c d l) in
      subst (λ (cells : List Value). IsSegmentOf cells segment.length segment.body segment.least segment.greatest segment.nulls) (sym (cells-same (map (cell_at (get_or columns c [])) order) segment is)) is.0;
  rising = stamps.rising;
  own = λ k d l. let (m, o) = stamps.own k d l in (omega (arith, m, picked.0), o);
  key_there = omega (arith, are.0);
  by_key = subst (λ (rows : List PackedRow). IsOrderOf key_cmp (keys_of key rows) places) (sym (rows-arranged columns begins moved order segments late floor are picked stamps)) ordered;
}
