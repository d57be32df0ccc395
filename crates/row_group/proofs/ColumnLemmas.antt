-- Columns of cells, and the rows that they show.
use Rattle.std.proofs.Common.{◌≡◌, ℕ, suc, ◌+◌, ◌-◌, ◌<◌, ◌≤◌, inl, inr, List, [], ◌∷◌, ◌++◌, length, map, get_or, take, set, replicate, refl, sym, ◌∙◌, ap, subst, arith, length-append, below_more, Result, Ok, Err}
use Rattle.std.specs.List.{All, range_with_len}
use Rattle.std.specs.Result.{OnErr}
use Rattle.std.proofs.lemmas.Bool.{cases_lt}
use Rattle.std.proofs.Math.Seq.{take-append_seam}
use Rattle.std.proofs.lemmas.List.{length-map, length-set, get_or-map, get_or-set_same, get_or-set_other, get_or_default, get_or_past, get_or_append_left, get_or-append_right, take_all, same_lists}
use Rattle.std.proofs.lemmas.List.FromFn.{fill_by_all, length-map-range_with_len, get_or-map-range_with_len}
use Rattle.cs_types.specs.declared.Value.{Value}
use Rattle.cs_types.specs.declared.Value.TheVariants.{Null}
use Rattle.cs_types.specs.Rows.{cell_at}
use Rattle.row_group.specs.Rows.{PackedRow, begin_above, begun_above}
use Rattle.row_group.specs.Groups.{Group, row_at}
use Rattle.row_group.specs.Packings.{AreEven, HaveMore, BeginAs, AreCut, cells_at, padded_at, source_row, source_rows}
use Rattle.row_group.proofs.ShownLemmas.{cell_at-get_or, cell_at-map}

pub row_of-source : (columns : List (List Value)) (begins : List ℕ) (k : ℕ) (d : PackedRow) → k < length begins → get_or (source_rows columns begins) k d ≡ source_row columns begins k
row_of-source columns begins k d l = get_or-map-range_with_len (source_row columns begins) 0 (length begins) k k d l (omega arith)

-- functions that agree on a list map it alike
pub map-within : {X : Type 0} (f g : ℕ → X) (xs : List ℕ) → ((k d : ℕ) → k < length xs → f (get_or xs k d) ≡ g (get_or xs k d)) → map f xs ≡ map g xs
map-within f g [] same = refl
map-within f g (x ∷ xs) same = ap (λ y. y ∷ map f xs) (same 0 0 (omega arith)) ∙ ap (λ ys. g x ∷ ys) (map-within f g xs (λ k d l. same (suc k) d (omega arith)))

-- columns that were cut back to as many cells as they had are as they were
pub cut-back : (count : ℕ) (before longer after : List (List Value)) → AreEven before count → BeginAs before longer → AreCut count longer after → after ≡ before
cut-back count before longer after even begun are =
    same_lists after before (are.counted ∙ begun.counted) (λ c d l.
    let m : c < length longer = omega (arith, l, are.counted) in
    let n : c < length before = omega (arith, m, begun.counted) in
    get_or_default after c d [] l ∙ are.cells c m ∙ ap (λ k. take k (get_or longer c [])) (sym (even c [] n)) ∙ begun.cells c n ∙ get_or_default before c [] d n)

-- some columns have got their cells, one is at it, and the others stand as they were
module _ (before now : List (List Value)) (more : ℕ → List Value) (place : ℕ) (column : List Value) (counted : length now ≡ length before) (there : place < length now) (done : (c : ℕ) → c < place → get_or now c [] ≡ get_or before c [] ++ more c) (open_yet : (c : ℕ) → place ≤ c → get_or now c [] ≡ get_or before c []) where
  still-open : (c : ℕ) → place + 1 ≤ c → get_or (set now place column) c [] ≡ get_or before c []
  still-open c l = get_or-set_other now place c column [] (λ same. absurd (omega (arith, l, same))) ∙ open_yet c (omega arith)

  still-done : (c : ℕ) → c < place → get_or (set now place column) c [] ≡ get_or before c [] ++ more c
  still-done c l = get_or-set_other now place c column [] (λ same. absurd (omega (arith, l, same))) ∙ done c l

  pub columns-more : column ≡ get_or before place [] ++ more place → (length (set now place column) ≡ length before) × ((c : ℕ) → c < place + 1 → get_or (set now place column) c [] ≡ get_or before c [] ++ more c) × ((c : ℕ) → place + 1 ≤ c → get_or (set now place column) c [] ≡ get_or before c [])
  columns-more is = (
    length-set now place column ∙ counted,
    below_more (λ c. get_or (set now place column) c [] ≡ get_or before c [] ++ more c) place still-done (get_or-set_same now place column [] there ∙ is),
    still-open,
  )

  pub columns-begun : take (length (get_or before place [])) column ≡ get_or before place [] → BeginAs before (set now place column)
  columns-begun is = record {
    counted = length-set now place column ∙ counted;
    cells = λ c l. elim (cases_lt c place) [
      | inl less ↦ ap (take (length (get_or before c []))) (still-done c less) ∙ take-append_seam (get_or before c []) (more c)
      | inr back ↦ elim (cases_lt place c) [
        | inl more ↦ ap (take (length (get_or before c []))) (still-open c (omega arith)) ∙ take_all (length (get_or before c [])) (get_or before c []) (omega arith)
        | inr le ↦
            let same : place ≡ c = omega (arith, back, le) in
            subst (λ (k : ℕ). take (length (get_or before k [])) (get_or (set now place column) k []) ≡ get_or before k []) same
            (ap (take (length (get_or before place []))) (get_or-set_same now place column [] there) ∙ is)
      ]
    ];
  }

pub on_err : {A E : Type 0} (r : Result A E) (P : Type 0) → P → OnErr r P
on_err (Ok v) P p = tt
on_err (Err e) P p = p

module _ (columns columns' : List (List Value)) (begins bs : List ℕ) (more : ℕ → List Value) (even : AreEven columns (length begins)) (have : HaveMore columns more columns') where
  abbrev row_more : ℕ → PackedRow
  row_more k = record { cells = map (λ c. cell_at (more c) k) (range_with_len 0 (length columns)); begin = get_or bs k 0 }

  row-before : (k : ℕ) → k < length begins → source_row columns begins k ≡ source_row columns' (begins ++ bs) k
  row-before k l = λ i. record { cells = cells i; begin = begin i }
    where
      cells : map (λ column. cell_at column k) columns ≡ map (λ column. cell_at column k) columns'
      cells = same_lists (map (λ column. cell_at column k) columns) (map (λ column. cell_at column k) columns')
          (length-map columns (λ column. cell_at column k) ∙ sym have.counted ∙ sym (length-map columns' (λ column. cell_at column k)))
          (λ c d m.
          let n : c < length columns = omega (arith, m, length-map columns (λ column. cell_at column k)) in
          let first = get_or columns c [] in
          get_or-map (λ column. cell_at column k) columns c [] d n ∙ cell_at-get_or first k
          ∙ sym (get_or_append_left first (more c) Null k (omega (arith, l, even c [] n))) ∙ sym (cell_at-get_or (first ++ more c) k)
          ∙ ap (λ column. cell_at column k) (sym (have.cells c n))
          ∙ sym (get_or-map (λ column. cell_at column k) columns' c [] d (omega (arith, n, have.counted))))

      begin : get_or begins k 0 ≡ get_or (begins ++ bs) k 0
      begin = sym (get_or_append_left begins bs 0 k l)

  row-after : (k j : ℕ) → length begins + j ≡ k → row_more j ≡ source_row columns' (begins ++ bs) k
  row-after k j at = λ i. record { cells = cells i; begin = begin i }
    where
      past : (xs ys : List Value) → length xs ≡ length begins → cell_at (xs ++ ys) k ≡ cell_at ys j
      past xs ys e =
          cell_at-get_or (xs ++ ys) k ∙ get_or-append_right xs ys (length begins) k Null e (omega arith)
          ∙ ap (λ n. get_or ys n Null) (let same : k - length begins ≡ j = omega arith in same) ∙ sym (cell_at-get_or ys j)

      cells : map (λ c. cell_at (more c) j) (range_with_len 0 (length columns)) ≡ map (λ column. cell_at column k) columns'
      cells = sym (fill_by_all (λ c. cell_at (more c) j) (map (λ column. cell_at column k) columns') (length columns) Null
          (length-map columns' (λ column. cell_at column k) ∙ have.counted)
          (λ c l.
          get_or-map (λ column. cell_at column k) columns' c [] Null (omega (arith, l, have.counted))
          ∙ ap (λ column. cell_at column k) (have.cells c l) ∙ past (get_or columns c []) (more c) (even c [] l)))

      begin : get_or bs j 0 ≡ get_or (begins ++ bs) k 0
      begin = sym (get_or-append_right begins bs (length begins) k 0 refl (omega arith) ∙ ap (λ n. get_or bs n 0) (let same : k - length begins ≡ j = omega arith in same))

  -- the rows that columns with more cells show
  pub rows-more : source_rows columns' (begins ++ bs) ≡ source_rows columns begins ++ map row_more (range_with_len 0 (length bs))
  rows-more =
      let rows = source_rows columns begins in
      let news = map row_more (range_with_len 0 (length bs)) in
      let d : PackedRow = record { cells = []; begin = 0 } in
      let first = length-map-range_with_len (source_row columns begins) 0 (length begins) in
      let rest = length-map-range_with_len row_more 0 (length bs) in
      sym (fill_by_all (source_row columns' (begins ++ bs)) (rows ++ news) (length (begins ++ bs)) d
      (omega (arith, length-append rows news, length-append begins bs, first, rest))
      (λ k l. elim (cases_lt k (length begins)) [
        | inl m ↦ get_or_append_left rows news d k (omega (arith, m, first)) ∙ row_of-source columns begins k d m ∙ row-before k m
        | inr n ↦
            let j = k - length begins in
            let m : j < length bs = omega (arith, l, length-append begins bs) in
            get_or-append_right rows news (length begins) k d first n ∙ get_or-map-range_with_len row_more 0 (length bs) j j d m (omega arith)
            ∙ row-after k j (omega arith)
      ]))

-- the rows at some positions of a group, column by column
module _ (group : Group) (positions : List ℕ) (width : ℕ) where
  abbrev picked_begins : List ℕ
  picked_begins = map (λ position. (row_at group position).begin) positions

  abbrev picked_row : ℕ → PackedRow
  picked_row k = record { cells = map (λ c. cell_at (cells_at group positions c) k) (range_with_len 0 width); begin = get_or picked_begins k 0 }

  row-picked : (k : ℕ) (d : PackedRow) → k < length positions → get_or (map (padded_at width group) positions) k d ≡ picked_row k
  row-picked k d l =
      get_or-map (padded_at width group) positions k 0 d l
      ∙ (λ i. record {
        cells = map (λ c. sym (cell_at-map (λ position. cell_at (row_at group position).cells c) positions k 0 l) i) (range_with_len 0 width);
        begin = sym (get_or-map (λ position. (row_at group position).begin) positions k 0 0 l) i;
      })

  pub rows-picked : map picked_row (range_with_len 0 (length picked_begins)) ≡ map (padded_at width group) positions
  rows-picked =
      let as_many = length-map positions (λ position. (row_at group position).begin) in
      let d : PackedRow = record { cells = []; begin = 0 } in
      sym (fill_by_all picked_row (map (padded_at width group) positions) (length picked_begins) d (length-map positions (padded_at width group) ∙ sym as_many)
      (λ k l. row-picked k d (omega (arith, l, as_many))))

-- a column past those of a group is NULL
pub cells-past : (group : Group) (positions : List ℕ) (place : ℕ) → All (λ row. length row.cells ≡ group.width) group.rows → All (λ position. position < length group.rows) positions → group.width ≤ place → cells_at group positions place ≡ replicate (length positions) Null
cells-past group [] place wide within past = refl
cells-past group (position ∷ positions) place wide within past =
    let row = row_at group position in
    let d : PackedRow = record { cells = []; begin = 0 } in
    let many : length row.cells ≡ group.width = wide position d (within 0 0 (omega arith)) in
    let first : cell_at row.cells place ≡ Null = cell_at-get_or row.cells place ∙ get_or_past row.cells place Null (omega (arith, many, past)) in
    ap (λ cell. cell ∷ cells_at group positions place) first ∙ ap (λ cells. Null ∷ cells) (cells-past group positions place wide (λ k d l. within (suc k) d (omega arith)) past)

-- begins that are raised raise the rows
pub rows-raised : (floor : ℕ) (columns : List (List Value)) (begins : List ℕ) → map (begun_above floor) (source_rows columns begins) ≡ source_rows columns (map (begin_above floor) begins)
rows-raised floor columns begins =
    let rows = source_rows columns begins in
    let d : PackedRow = record { cells = []; begin = 0 } in
    let many = length-map-range_with_len (source_row columns begins) 0 (length begins) in
    let raised = map (begin_above floor) begins in
    fill_by_all (source_row columns raised) (map (begun_above floor) rows) (length raised) d
    (omega (arith, length-map rows (begun_above floor), many, length-map begins (begin_above floor)))
    (λ k l.
    let m : k < length begins = omega (arith, l, length-map begins (begin_above floor)) in
    get_or-map (begun_above floor) rows k d d (omega (arith, m, many)) ∙ ap (begun_above floor) (row_of-source columns begins k d m)
    ∙ (λ i. record { cells = (source_row columns begins k).cells; begin = sym (get_or-map (begin_above floor) begins k 0 0 m) i }))
