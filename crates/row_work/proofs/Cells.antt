-- Answers can be printed, where the rows fit the table.
use Rattle.std.proofs.Common.{◌≡◌, ℕ, suc, ◌+◌, ◌==◌, ℤ, pos, IsTrue, Bool, true, false, not, cond, subst, refl, List, [], ◌∷◌, ◌++◌, map, filter, fold, length, arith, All}
use Rattle.std.specs.Prelude.{int_div, Option, Some, None, slice_get, IfOk, Result, Ok, Err}
use Rattle.std.specs.List.{list_any}
use Rattle.std.proofs.lemmas.Bool.Decides.{nat_tests}
use Rattle.std.proofs.lemmas.List.Elements.{All-nil, All-cons, All-push, All-filter}
use Rattle.cs_types.specs.declared.Column.{Column}
use Rattle.cs_types.specs.declared.ColumnType.{ColumnType}
use Rattle.cs_types.specs.declared.ColumnType.TheVariants.{TinyInt, SmallInt, Int, BigInt, Decimal, Date, VarChar}
use Rattle.cs_types.specs.declared.Loose.{Loose}
use Rattle.cs_types.specs.declared.Loose.TheVariants as loose
use Rattle.cs_types.specs.declared.Schema.{Schema}
use Rattle.cs_types.specs.declared.Value.{Value}
use Rattle.cs_types.specs.declared.Value.TheVariants.{Null, Number, Text}
use Rattle.cs_types.specs.Kinds.{keeps_number}
use Rattle.cs_types.specs.Rows.{cell_at}
use Rattle.cs_types.specs.Text.{loose_of, IsPrintable}
use Rattle.cs_types.specs.Schemas.{may_hold, IsRowOf}
use Rattle.cs_model.specs.declared.plan.Item.{Item}
use Rattle.cs_model.specs.declared.plan.Item.TheVariants as item
use Rattle.cs_model.specs.declared.plan.Query.{Query}
use Rattle.cs_model.specs.Cells.{loose_in}
use Rattle.cs_model.specs.Text.{IsPrintableRow}
use Rattle.cs_model.specs.declared.answer_refusal.AnswerRefusal.{AnswerRefusal}
use Rattle.cs_model.specs.Queries.{keeps, kept, row_order, group_order, before, values_from, group_row, answer_rows, grouped_answer, plain_answer, answer, Gives}
use Rattle.cs_model.specs.Groups.{cells_of, same_cells, each_once, Group, groups_of, place_of}
use Rattle.cs_model.specs.Items.{is_null, present, lesser, greater, least_of, greatest_of, shown_if, of_sum, of_sum_in, sum_of, group_item, row_item}
use Rattle.cs_model.specs.Order.{comes_before, put, in_order}

-- ---- cells

number_printable : (kind : ColumnType) (z : ℤ) → IsTrue (keeps_number kind z) → IsPrintable (loose_of kind (Number z))
number_printable TinyInt z h = tt
number_printable SmallInt z h = tt
number_printable Int z h = tt
number_printable BigInt z h = tt
number_printable (Decimal p s) z h = tt
number_printable Date z h = h
number_printable (VarChar n) z h = tt

value_printable : (column : Column) (v : Value) → IsTrue (may_hold column v) → IsPrintable (loose_of column.kind v)
value_printable column Null h = tt
value_printable column (Number z) h = number_printable column.kind z h
value_printable column (Text t) h = tt

in_printable : (o : Option Column) (v : Value) → ((column : Column) → o ≡ Some column → IsTrue (may_hold column v)) → IsPrintable (loose_in o v)
in_printable None v h = tt
in_printable (Some column) v h = value_printable column v (h column refl)

null_printable : (o : Option Column) → IsPrintable (loose_in o Null)
null_printable None = tt
null_printable (Some column) = tt

-- ---- lists in order

module _ {X : Type 0} (P : X → Type 0) (less : X → X → Bool) where
  put_all : (x : X) (xs : List X) → P x → All P xs → All P (put less x xs)
  put_all x [] p all = All-cons P x [] p all
  put_all x (y ∷ ys) p all = at (less y x) (put_all x ys p (λ k d lt. all (suc k) d (omega arith)))
    where
      at : (t : Bool) → All P (put less x ys) → All P (cond t (y ∷ put less x ys) (x ∷ y ∷ ys))
      at true more = All-cons P y (put less x ys) (all 0 y (omega arith)) more
      at false more = All-cons P x (y ∷ ys) p all

  in_order_all : (xs : List X) → All P xs → All P (in_order less xs)
  in_order_all [] all = all
  in_order_all (x ∷ xs) all = put_all x (in_order less xs) (all 0 x (omega arith)) (in_order_all xs (λ k d lt. all (suc k) d (omega arith)))

map_all : {X Y : Type 0} (P : X → Type 0) (Q : Y → Type 0) (f : X → Y) (xs : List X) → ((x : X) → P x → Q (f x)) → All P xs → All Q (map f xs)
map_all P Q f [] h all = All-nil Q
map_all P Q f (x ∷ xs) h all = All-cons Q (f x) (map f xs) (h x (all 0 x (omega arith))) (map_all P Q f xs h (λ k d lt. all (suc k) d (omega arith)))

every : {X Y : Type 0} (Q : Y → Type 0) (f : X → Y) (xs : List X) → ((x : X) → Q (f x)) → All Q (map f xs)
every Q f [] h = All-nil Q
every Q f (x ∷ xs) h = All-cons Q (f x) (map f xs) (h x) (every Q f xs h)

fold_keeps : (P : Value → Type 0) (f : Value → Value → Value) → ((a b : Value) → P a → P b → P (f a b)) → (cells : List Value) (a : Value) → P a → All P cells → P (fold f a cells)
fold_keeps P f h [] a p all = p
fold_keeps P f h (c ∷ cells) a p all = fold_keeps P f h cells (f a c) (h a c p (all 0 c (omega arith))) (λ k d lt. all (suc k) d (omega arith))

either_is : (P : Value → Type 0) (t : Bool) (a b : Value) → P a → P b → P (cond t b a)
either_is P true a b p q = q
either_is P false a b p q = p

-- ---- items

abbrev MayPrint : Option Loose → Type 0
MayPrint None = Unit {0}
MayPrint (Some x) = IsPrintable x

shown_printable : (kind : ColumnType) (whole shown : ℤ) → MayPrint (shown_if kind whole shown)
shown_printable kind whole shown = at (keeps_number kind whole)
  where
    at : (t : Bool) → MayPrint (cond t (Some (loose.Number shown 0)) None)
    at true = tt
    at false = tt

sum_kind_printable : (kind : ColumnType) (whole shown : ℤ) → MayPrint (of_sum kind whole shown)
sum_kind_printable TinyInt whole shown = shown_printable Int whole shown
sum_kind_printable SmallInt whole shown = shown_printable Int whole shown
sum_kind_printable Int whole shown = shown_printable Int whole shown
sum_kind_printable BigInt whole shown = shown_printable BigInt whole shown
sum_kind_printable (Decimal p s) whole shown = tt
sum_kind_printable Date whole shown = tt
sum_kind_printable (VarChar n) whole shown = tt

sum_printable : (o : Option Column) (none : Bool) (whole shown : ℤ) → MayPrint (cond none (Some loose.Null) (of_sum_in o whole shown))
sum_printable o true whole shown = tt
sum_printable None false whole shown = tt
sum_printable (Some column) false whole shown = sum_kind_printable column.kind whole shown

-- a list with these cells where they are new
abbrev if_new : Bool → List (List Value) → List Value → List (List Value)
if_new t found cells = cond t found (found ++ cells ∷ [])

module _ (schema : Schema) where
  -- a value of a column that can be printed
  abbrev Prints : ℕ → Value → Type 0
  Prints i v = IsPrintable (loose_in (slice_get schema.columns i) v)

  cell_printable : (row : List Value) (i : ℕ) → IsRowOf schema row → Prints i (cell_at row i)
  cell_printable row i fits = in_printable (slice_get schema.columns i) (cell_at row i) (fits.held i)

  present_printable : (i : ℕ) (rows : List (List Value)) → All (IsRowOf schema) rows → All (Prints i) (present i rows)
  present_printable i rows held =
      All-filter (λ cell. not (is_null cell)) (Prints i) (map (λ row. cell_at row i) rows)
      (map_all (IsRowOf schema) (Prints i) (λ row. cell_at row i) rows (λ row. cell_printable row i) held)

  least_printable : (i : ℕ) (cells : List Value) → All (Prints i) cells → Prints i (least_of cells)
  least_printable i cells all = fold_keeps (Prints i) lesser (λ a b. either_is (Prints i) _ a b) cells Null (null_printable (slice_get schema.columns i)) all

  greatest_printable : (i : ℕ) (cells : List Value) → All (Prints i) cells → Prints i (greatest_of cells)
  greatest_printable i cells all = fold_keeps (Prints i) greater (λ a b. either_is (Prints i) _ a b) cells Null (null_printable (slice_get schema.columns i)) all

  -- the cells of a group show what can be printed
  abbrev CellsPrint : List ℕ → List Value → Type 0
  CellsPrint columns cells = (i : ℕ) → Prints i (cell_at cells (place_of columns i))

  abbrev GroupPrints : List ℕ → Group → Type 0
  GroupPrints columns group = CellsPrint columns group.0 × All (IsRowOf schema) group.1

  item_printable : (columns : List ℕ) (group : Group) (kind : Item) → GroupPrints columns group → MayPrint (group_item schema columns group kind)
  item_printable columns group (item.Column i) g = g.0 i
  item_printable columns group item.CountAll g = shown_printable Int (pos (length group.1)) (pos (length group.1))
  item_printable columns group (item.Count i) g = shown_printable Int (pos (length (present i group.1))) (pos (length (present i group.1)))
  item_printable columns group (item.Sum i) g = sum_printable (slice_get schema.columns i) (length (present i group.1) == 0) (sum_of (present i group.1)) (sum_of (present i group.1))
  item_printable columns group (item.Min i) g = least_printable i (present i group.1) (present_printable i group.1 g.1)
  item_printable columns group (item.Max i) g = greatest_printable i (present i group.1) (present_printable i group.1 g.1)
  item_printable columns group (item.Avg i) g = sum_printable (slice_get schema.columns i) (length (present i group.1) == 0) (sum_of (present i group.1)) (int_div (sum_of (present i group.1)) (pos (length (present i group.1))))

  row_item_printable : (row : List Value) (kind : Item) → IsRowOf schema row → IsPrintable (row_item schema row kind)
  row_item_printable row (item.Column i) held = cell_printable row i held
  row_item_printable row item.CountAll held = tt
  row_item_printable row (item.Count i) held = tt
  row_item_printable row (item.Sum i) held = tt
  row_item_printable row (item.Min i) held = tt
  row_item_printable row (item.Max i) held = tt
  row_item_printable row (item.Avg i) held = tt

  -- ---- groups

  placed : (row : List Value) (i : ℕ) (columns : List ℕ) → Prints i (cell_at row i) → Prints i (cell_at (map (cell_at row) columns) (place_of columns i))
  placed row i [] p = null_printable (slice_get schema.columns i)
  placed row i (c ∷ columns) p = at (c == i) refl (placed row i columns p)
    where
      at : (t : Bool) → (c == i) ≡ t → Prints i (cell_at (map (cell_at row) columns) (place_of columns i)) → Prints i (cell_at (cell_at row c ∷ map (cell_at row) columns) (place_of (c ∷ columns) i))
      at true e rest =
          let same : i ≡ c = grind (arith, nat_tests) in
          rw e (subst (λ n. Prints i (cell_at row n)) same p)
      at false e rest =
          let more : suc (place_of columns i) ≡ 1 + place_of columns i = omega arith in
          rw e (subst (λ n. Prints i (cell_at (cell_at row c ∷ map (cell_at row) columns) n)) more rest)

  each_keeps : (R : List Value → Type 0) (list found : List (List Value)) → All R list → All R found → All R (fold (λ all cells. if_new (list_any (same_cells cells) all) all cells) found list)
  each_keeps R [] found all some = some
  each_keeps R (cells ∷ list) found all some = each_keeps R list (if_new (list_any (same_cells cells) found) found cells) (λ k d lt. all (suc k) d (omega arith)) (at (list_any (same_cells cells) found))
    where
      at : (t : Bool) → All R (if_new t found cells)
      at true = some
      at false = All-push R found cells some (all 0 cells (omega arith))

  groups_print : (columns : List ℕ) (rows : List (List Value)) → All (IsRowOf schema) rows → All (GroupPrints columns) (groups_of columns rows)
  groups_print [] rows held = All-cons (GroupPrints []) ([], rows) [] (λ i. null_printable (slice_get schema.columns i), held) (All-nil (GroupPrints []))
  groups_print (c ∷ rest) rows held =
      let columns = c ∷ rest in
      map_all (CellsPrint columns) (GroupPrints columns) (λ cells. (cells, filter (λ row. same_cells (cells_of columns row) cells) rows)) (each_once (map (cells_of columns) rows))
      (λ cells print. (print, All-filter (λ row. same_cells (cells_of columns row) cells) (IsRowOf schema) rows held))
      (each_keeps (CellsPrint columns) (map (cells_of columns) rows) []
      (map_all (IsRowOf schema) (CellsPrint columns) (cells_of columns) rows (λ row h i. placed row i columns (cell_printable row i h)) held) (All-nil (CellsPrint columns)))

  -- ---- rows of the answer

  before_print : {X : Type 0} (P : X → Type 0) (E : Type 0) (x : X) (rest : Result (List X) E) (xs : List X) → P x → ((more : List X) → rest ≡ Ok more → All P more) → before x rest ≡ Ok xs → All P xs
  before_print P E x (Ok more) xs p all is = let same : x ∷ more ≡ xs = cc in subst (All P) same (All-cons P x more p (all more refl))
  before_print P E x (Err e) xs p all is = absurd (cc)

  values_print : (n : ℕ) (list : List (Option Loose)) (values : List Loose) → All MayPrint list → values_from n list ≡ Ok values → All IsPrintable values
  values_print n [] values all is = let same : [] ≡ values = cc in subst (All IsPrintable) same (All-nil IsPrintable)
  values_print n (None ∷ rest) values all is = absurd (cc)
  values_print n (Some x ∷ rest) values all is =
      before_print IsPrintable ℕ x (values_from (n + 1) rest) values (all 0 (Some x) (omega arith)) (λ more. values_print (n + 1) rest more (λ k d lt. all (suc k) d (omega arith))) is

  abbrev RowPrints : Result (List Loose) ℕ → Type 0
  RowPrints r = (values : List Loose) → r ≡ Ok values → All IsPrintable values

  rows_print : (n : ℕ) (list : List (Result (List Loose) ℕ)) (rows : List (List Loose)) → All RowPrints list → answer_rows n list ≡ Ok rows → All IsPrintableRow rows
  rows_print n [] rows all is = let same : [] ≡ rows = cc in subst (All IsPrintableRow) same (All-nil IsPrintableRow)
  rows_print n (Err e ∷ rest) rows all is = absurd (cc)
  rows_print n (Ok row ∷ rest) rows all is =
      before_print IsPrintableRow (ℕ × ℕ) row (answer_rows (n + 1) rest) rows (all 0 (Ok row) (omega arith) row refl) (λ more. rows_print (n + 1) rest more (λ k d lt. all (suc k) d (omega arith))) is

  module _ (query : Query) where
    group_prints : (group : Group) → GroupPrints query.groups group → RowPrints (group_row schema query group)
    group_prints group g = λ values. values_print 1 (map (group_item schema query.groups group) query.items) values (every MayPrint (group_item schema query.groups group) query.items (λ kind. item_printable query.groups group kind g))

    grouped_print : (rows : List (List Value)) (found : List (List Loose)) → All (IsRowOf schema) rows → grouped_answer schema query rows ≡ Ok found → All IsPrintableRow found
    grouped_print rows found held is =
        rows_print 1 _ found
        (map_all (GroupPrints query.groups) RowPrints (group_row schema query) _ group_prints
        (in_order_all (GroupPrints query.groups) (λ a b. comes_before (group_order query) a.0 b.0) (groups_of query.groups rows) (groups_print query.groups rows held))) is

    plain_print : (rows : List (List Value)) → All (IsRowOf schema) rows → All IsPrintableRow (plain_answer schema query rows)
    plain_print rows held =
        map_all (IsRowOf schema) IsPrintableRow (λ row. map (row_item schema row) query.items) _
        (λ row h. every IsPrintable (row_item schema row) query.items (λ kind. row_item_printable row kind h))
        (in_order_all (IsRowOf schema) (comes_before (row_order schema query)) rows held)

    answer_print : (grouped : Bool) (rows : List (List Value)) (found : List (List Loose)) → All (IsRowOf schema) rows → cond grouped (grouped_answer schema query rows) (Ok (plain_answer schema query rows)) ≡ Ok found → All IsPrintableRow found
    answer_print true rows found held is = grouped_print rows found held is
    answer_print false rows found held is = let same : plain_answer schema query rows ≡ found = cc in subst (All IsPrintableRow) same (plain_print rows held)

    pub answer_printable : (rows : List (List Value)) (r : Result (List (List Loose)) AnswerRefusal) → All (IsRowOf schema) rows → Gives r (answer schema query rows) → IfOk r (λ found. All IsPrintableRow found)
    answer_printable rows (Ok found) held is =
        answer_print query.grouped (kept schema query rows) found (All-filter (keeps schema query.filter) (IsRowOf schema) rows held) is
    answer_printable rows (Err e) held is = tt

pub answered : (schema asked : Schema) (query put_to : Query) (rows added : List (List Value)) (r : Result (List (List Loose)) AnswerRefusal) → asked ≡ schema → put_to ≡ query → added ≡ rows
    → Gives r (answer asked put_to added) → Gives r (answer schema query rows)
answered schema asked query put_to rows added r e f g h =
    subst (λ x. Gives r (answer x query rows)) e (subst (λ x. Gives r (answer asked x rows)) f (subst (λ x. Gives r (answer asked put_to x)) g h))
