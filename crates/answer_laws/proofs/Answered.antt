-- The answer is the same for every order of the rows.
use Rattle.std.proofs.Common.{◌≡◌, ℕ, ◌<◌, Bool, false, cond, List, [], ◌∷◌, ◌++◌, length, get_or, map, fold, All, Contains, Option, Some, Result, Ok, refl, sym, ap, subst, ◌∙◌, arith, inl, inr, slice_get, pos, int_div, ◌==◌, ◌≢◌, Equal, is_lt}
use Rattle.std.specs.List.{list_any, range_with_len}
use Rattle.std.specs.List.Sorted.{IsPermutation}
use Rattle.std.proofs.lemmas.Bool.{cond-true, cond-false, cases_Bool, cases_lt}
use Rattle.std.proofs.lemmas.List.{get_or-map, get_or_default, length-map}
use Rattle.std.proofs.lemmas.List.Elements.{All-map, All-push, All-contains, All-nil, All-cons}
use Rattle.std.proofs.lemmas.List.Sorted.{length_permutation, IsPermutation-map, ranks_by}
use Rattle.std.proofs.lemmas.Cmp.{on_total}
use Rattle.std.proofs.lemmas.List.Kept.{AllPairs-filter}
use Rattle.cs_types.specs.declared.Schema.{Schema}
use Rattle.cs_types.specs.declared.Column.{Column}
use Rattle.cs_types.specs.declared.Value.{Value}
use Rattle.cs_types.specs.declared.Loose.{Loose}
use Rattle.cs_types.specs.declared.Loose.TheVariants.{Null}
use Rattle.cs_types.specs.Rows.{cell_at, key_in, number_in}
use Rattle.cs_model.specs.declared.plan.Item.{Item}
use Rattle.cs_model.specs.declared.plan.Item.TheVariants as item
use Rattle.cs_model.specs.declared.plan.Query.{Query}
use Rattle.cs_model.specs.Cells.{loose_in}
use Rattle.cs_model.specs.Queries.{keeps, kept, row_order, group_order, group_row, values_from, answer_rows, grouped_answer, plain_answer, answer}
use Rattle.cs_model.specs.Groups.{Group, same_cells, each_once, gathered, groups_of, place_of}
use Rattle.cs_model.specs.Items.{present, sum_of, count_of, of_sum_in, sum_in, average_in, group_item, row_item}
use Rattle.cs_model.specs.Order.{row_cmp, comes_before, in_order}
use Rattle.answer_laws.proofs.Gathered.{with_cells, key, group_at}
use Rattle.answer_laws.proofs.Orders.{before_by, row_total}
use Rattle.answer_laws.specs.Laws.{TiesShowOne, KeysDiffer}
use Rattle.answer_laws.proofs.Least.{present-moved, count-moved, least-moved, greatest-moved, sum_of-moved}
use Rattle.answer_laws.proofs.Moves.{filter-moved}
use Rattle.answer_laws.proofs.Once.{told, groups-moved}
use Rattle.answer_laws.proofs.Sorts.{TiedIsOne, in_order-moved, in_order-map}
use Rattle.answer_laws.proofs.Ties.{tied_equal, groups_tied, key_equal, sort_cells, sort_cmp, sort_total, sort_is, sort_cells_tied}

-- ---- the items of a group

module _ (xs ys : List Value) (moved : IsPermutation xs ys) where
  same_length : length xs ≡ length ys
  same_length = sym (length_permutation xs ys moved)

  sum_in-moved : (column : Option Column) → sum_in column xs ≡ sum_in column ys
  sum_in-moved column =
      ap (λ n. cond (n == 0) (Some Null) (of_sum_in column (sum_of xs) (sum_of xs))) same_length
      ∙ ap (λ s. cond (length ys == 0) (Some Null) (of_sum_in column s s)) (sum_of-moved xs ys moved)

  average_in-moved : (column : Option Column) → average_in column xs ≡ average_in column ys
  average_in-moved column =
      ap (λ n. cond (n == 0) (Some Null) (of_sum_in column (sum_of xs) (int_div (sum_of xs) (pos n)))) same_length
      ∙ ap (λ s. cond (length ys == 0) (Some Null) (of_sum_in column s (int_div s (pos (length ys))))) (sum_of-moved xs ys moved)

module _ (schema : Schema) (columns : List ℕ) (cells : List Value) (xs ys : List (List Value)) (moved : IsPermutation xs ys) where
  pub group_item-moved : (kind : Item) → group_item schema columns (cells, xs) kind ≡ group_item schema columns (cells, ys) kind
  group_item-moved (item.Column i) = refl
  group_item-moved item.CountAll = ap count_of (sym (length_permutation xs ys moved))
  group_item-moved (item.Count i) = ap count_of (count-moved i xs ys moved)
  group_item-moved (item.Sum i) = sum_in-moved (present i xs) (present i ys) (present-moved i xs ys moved) (slice_get schema.columns i)
  group_item-moved (item.Min i) = ap (λ v. Some (loose_in (slice_get schema.columns i) v)) (least-moved i xs ys moved)
  group_item-moved (item.Max i) = ap (λ v. Some (loose_in (slice_get schema.columns i) v)) (greatest-moved i xs ys moved)
  group_item-moved (item.Avg i) = average_in-moved (present i xs) (present i ys) (present-moved i xs ys moved) (slice_get schema.columns i)

  group_items-moved : (items : List Item) → map (group_item schema columns (cells, xs)) items ≡ map (group_item schema columns (cells, ys)) items
  group_items-moved [] = refl
  group_items-moved (kind ∷ items) =
      ap (λ v. v ∷ map (group_item schema columns (cells, xs)) items) (group_item-moved kind)
      ∙ ap (λ vs. group_item schema columns (cells, ys) kind ∷ vs) (group_items-moved items)

-- ---- the groups: cells that tie are one

module _ (columns : List ℕ) where
  abbrev AsWide : List Value → Type 0
  AsWide cells = length cells ≡ length columns

  wide_with : (found : List (List Value)) (cells : List Value) → All AsWide found → AsWide cells → All AsWide (with_cells found cells)
  wide_with found cells all one = elim (cases_Bool (list_any (same_cells cells) found)) [
    | inl t ↦ subst (All AsWide) (sym (cond-true _ _ _ t)) all
    | inr f ↦ subst (All AsWide) (sym (cond-false _ _ _ f)) (All-push AsWide found cells all one)
  ]

  wide_fold : (found : List (List Value)) (rows : List (List Value)) → All AsWide found → All AsWide (fold with_cells found (map (key columns) rows))
  wide_fold found [] all = all
  wide_fold found (row ∷ rows) all = wide_fold (with_cells found (key columns row)) rows (wide_with found (key columns row) all (length-map columns (cell_at row)))

  module _ {Z : Type 0} (f : Group → Z) (rows : List (List Value)) where
    -- what is told of a group is known by its cells
    abbrev pub IsTold : List Value × Z → Type 0
    IsTold t = (t.1 ≡ f (group_at columns rows t.0)) × AsWide t.0

    all_told : All IsTold (map (told f) (gathered columns rows))
    all_told =
        let once = each_once (map (key columns) rows) in
        All-map IsTold (told f) (gathered columns rows) (All-map (λ g. IsTold (told f g)) (group_at columns rows) once (λ k d l. (refl, wide_fold [] rows (All-nil AsWide) k d l)))

    told-one : (s t : List Value × Z) → IsTold s → IsTold t → s.0 ≡ t.0 → s ≡ t
    told-one s t (a, v) (b, w) e =
        let second : s.1 ≡ t.1 = a ∙ ap (λ k. f (group_at columns rows k)) e ∙ sym b in
        ap (λ k. (k, s.1)) e ∙ ap (λ z. (t.0, z)) second

module _ {Z : Type 0} (f : Group → Z) (order : List (ℕ × Bool)) where
  abbrev sorts : List ℕ → List (ℕ × Bool)
  sorts columns = map (λ column. (place_of columns column.0, column.1)) order ++ map (λ place. (place, false)) (range_with_len 0 (length columns))

  abbrev before : List ℕ → List Value × Z → List Value × Z → Bool
  before columns s t = comes_before (sorts columns) s.0 t.0

  -- groups that tie are one
  pub told_tied : (columns : List ℕ) (rows : List (List Value)) → TiedIsOne (before columns) (map (told f) (groups_of columns rows))
  told_tied [] rows s t c d h =
      let one = told f ([], rows) in
      let all : All (λ x. one ≡ x) (one ∷ []) = All-cons (λ x. one ≡ x) one [] refl (All-nil (λ x. one ≡ x)) in
      sym (All-contains (λ x. one ≡ x) (one ∷ []) s all c) ∙ All-contains (λ x. one ≡ x) (one ∷ []) t all d
  told_tied (column ∷ columns) rows s t c d h =
      let all = column ∷ columns in
      let P = IsTold all f rows in
      let a = All-contains P (map (told f) (gathered all rows)) s (all_told all f rows) c in
      let b = All-contains P (map (told f) (gathered all rows)) t (all_told all f rows) d in
      let less = λ (x y : List Value × Z). row_cmp (sorts all) x.0 y.0 in
      told-one all f rows s t a b (groups_tied _ (length all) s.0 t.0 a.1 b.1 (tied_equal less (on_total (λ (x : List Value × Z). x.0) (row_total (sorts all))) s t h))

-- ---- the answers

pub map-map : {X Y Z : Type 0} (f : Y → Z) (g : X → Y) (h : X → Z) → ((x : X) → f (g x) ≡ h x) → (xs : List X) → map f (map g xs) ≡ map h xs
map-map f g h same [] = refl
map-map f g h same (x ∷ xs) = ap (λ z. z ∷ map f (map g xs)) (same x) ∙ ap (λ l. h x ∷ l) (map-map f g h same xs)

module _ (schema : Schema) (query : Query) where
  abbrev shows : Group → Result (List Loose) ℕ
  shows = group_row schema query

  abbrev rows_told : List (List Value) → List (List Value × Result (List Loose) ℕ)
  rows_told rows = map (told shows) (groups_of query.groups rows)

  abbrev told_before : List Value × Result (List Loose) ℕ → List Value × Result (List Loose) ℕ → Bool
  told_before s t = comes_before (group_order query) s.0 t.0

  grouped_by_told : (rows : List (List Value)) → grouped_answer schema query rows ≡ answer_rows 1 (map (λ t. t.1) (in_order told_before (rows_told rows)))
  grouped_by_told rows =
      let groups_before : Group → Group → Bool = λ a b. comes_before (group_order query) a.0 b.0 in
      let groups = groups_of query.groups rows in
      sym (ap (λ l. answer_rows 1 (map (λ (t : List Value × Result (List Loose) ℕ). t.1) l)) (in_order-map (told shows) groups_before told_before (λ a b. refl) groups)
      ∙ ap (answer_rows 1) (map-map (λ (t : List Value × Result (List Loose) ℕ). t.1) (told shows) shows (λ g. refl) (in_order groups_before groups)))

  -- a query that puts rows together asks nothing of its rows
  pub grouped_answer-moved : (xs ys : List (List Value)) → IsPermutation xs ys → grouped_answer schema query xs ≡ grouped_answer schema query ys
  grouped_answer-moved xs ys moved =
      grouped_by_told xs
      ∙ ap (λ l. answer_rows 1 (map (λ (t : List Value × Result (List Loose) ℕ). t.1) l))
      (in_order-moved told_before (before_by (group_order query) (λ t. t.0)) (rows_told xs) (rows_told ys)
      (groups-moved shows (λ cells us vs m. ap (values_from 1) (group_items-moved schema query.groups cells us vs m query.items)) query.groups xs ys moved)
      (told_tied shows query.order query.groups xs))
      ∙ sym (grouped_by_told ys)

  -- ---- a query that does not put rows together

  abbrev columns_sorted : List (ℕ × Bool)
  columns_sorted = row_order schema query

  abbrev row_shown : List Value → List Loose
  row_shown row = map (row_item schema row) query.items

  -- what a row is sorted by, and what it shows
  abbrev row_told : List Value → List Value × List Loose
  row_told row = (sort_cells columns_sorted row, row_shown row)

  abbrev shown_before : List Value × List Loose → List Value × List Loose → Bool
  shown_before s t = is_lt (sort_cmp columns_sorted s.0 t.0)

  plain_by_told : (rows : List (List Value)) → plain_answer schema query rows ≡ map (λ t. t.1) (in_order shown_before (map row_told rows))
  plain_by_told rows =
      sym (ap (map (λ (t : List Value × List Loose). t.1)) (in_order-map row_told (comes_before columns_sorted) shown_before (λ a b. ap is_lt (sort_is columns_sorted a b)) rows)
      ∙ map-map (λ (t : List Value × List Loose). t.1) row_told row_shown (λ row. refl) (in_order (comes_before columns_sorted) rows))

  -- what is told is told of a row
  row_of : (rows : List (List Value)) (t : List Value × List Loose) → Contains (map row_told rows) t → (row : List Value) × Contains rows row × (row_told row ≡ t)
  row_of rows t (k, l, at) =
      let within : k < length rows = omega (arith, l, length-map rows row_told) in
      let row = get_or rows k [] in
      (row, (k, within, get_or_default rows k row [] within), sym (get_or-map row_told rows k [] t within) ∙ at)

  shown_tied : (rows : List (List Value)) → TiesShowOne schema query rows → TiedIsOne shown_before (map row_told rows)
  shown_tied rows one s t c d h =
      let (a, in_a, is_a) = row_of rows s c in
      let (b, in_b, is_b) = row_of rows t d in
      let cmp = λ (x y : List Value × List Loose). sort_cmp columns_sorted x.0 y.0 in
      let tie : sort_cmp columns_sorted s.0 t.0 ≡ Equal = tied_equal cmp (on_total (λ (x : List Value × List Loose). x.0) (sort_total columns_sorted)) s t h in
      let rows_tie : row_cmp columns_sorted a b ≡ Equal =
      sym (sort_is columns_sorted a b) ∙ ap (λ (x : List Value × List Loose). sort_cmp columns_sorted x.0 (sort_cells columns_sorted b)) is_a ∙ ap (λ (x : List Value × List Loose). sort_cmp columns_sorted s.0 x.0) is_b ∙ tie in
      sym is_a ∙ ap (λ cells. (cells, row_shown a)) (sort_cells_tied columns_sorted a b rows_tie) ∙ ap (λ shown. (sort_cells columns_sorted b, shown)) (one a b in_a in_b rows_tie) ∙ is_b

  -- rows that tie must show the same
  pub plain_answer-moved : (xs ys : List (List Value)) → IsPermutation xs ys → TiesShowOne schema query xs → plain_answer schema query xs ≡ plain_answer schema query ys
  plain_answer-moved xs ys moved one =
      plain_by_told xs
      ∙ ap (map (λ (t : List Value × List Loose). t.1)) (in_order-moved shown_before (ranks_by (sort_total columns_sorted) (λ t. t.0)) (map row_told xs) (map row_told ys) (IsPermutation-map row_told xs ys moved) (shown_tied xs one))
      ∙ sym (plain_by_told ys)

  -- the answer of a query over rows in another order
  pub answer-moved : (xs ys : List (List Value)) → IsPermutation xs ys → (query.grouped ≡ false → TiesShowOne schema query (kept schema query xs)) → answer schema query xs ≡ answer schema query ys
  answer-moved xs ys moved one =
      let left = kept schema query xs in
      let right = kept schema query ys in
      let both : IsPermutation left right = filter-moved (keeps schema query.filter) xs ys moved in
      elim (cases_Bool query.grouped) [
        | inl t ↦ cond-true _ _ _ t ∙ grouped_answer-moved left right both ∙ sym (cond-true _ _ _ t)
        | inr f ↦ cond-false _ _ _ f ∙ ap Ok (plain_answer-moved left right both (one f)) ∙ sym (cond-false _ _ _ f)
      ]

  keys_show_one : (rows : List (List Value)) → KeysDiffer schema rows → TiesShowOne schema query rows
  keys_show_one rows differ a b (i, l, at_i) (j, m, at_j) tie =
      let same : key_in schema.key a ≡ key_in schema.key b = ap (λ v. record { 0 = number_in v }) (key_equal query.order schema.key a b tie) in
      elim (cases_lt i j) [
        | inl less ↦ absurd (differ i j a less m (ap (key_in schema.key) (at_i) ∙ same ∙ ap (key_in schema.key) (sym at_j ∙ get_or_default rows j b a m)))
        | inr above ↦ elim (cases_lt j i) [
          | inl less ↦ absurd (differ j i b less l (ap (key_in schema.key) (at_j) ∙ sym same ∙ ap (key_in schema.key) (sym at_i ∙ get_or_default rows i a b l)))
          | inr below ↦
              let e : i ≡ j = omega arith in
              ap row_shown (sym at_i ∙ get_or_default rows i a b l ∙ ap (λ n. get_or rows n b) e ∙ at_j)
        ]
      ]

  -- keys that differ are enough
  pub answer-moved_by_keys : (xs ys : List (List Value)) → IsPermutation xs ys → KeysDiffer schema xs → answer schema query xs ≡ answer schema query ys
  answer-moved_by_keys xs ys moved differ =
      answer-moved xs ys moved (λ f. keys_show_one (kept schema query xs) (AllPairs-filter (λ a b. key_in schema.key a ≢ key_in schema.key b) (keeps schema query.filter) xs differ))
