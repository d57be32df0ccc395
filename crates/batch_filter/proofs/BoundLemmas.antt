-- What the least and the greatest cell of a segment tell of all its cells.
use Rattle.std.proofs.Common.{◌≡◌, ◌≢◌, ℕ, ◌<◌, ◌≤◌, ℤ, Bool, true, false, not, ◌&&◌, List, [], ◌∷◌, length, map, get_or, slice_get, Option, Some, None, IsNone, IsTrue, unwrap_or, refl, sym, ap, subst, ◌∙◌, true≢false, arith, Contains, All, nat_lt, rules}
use Rattle.std.specs.List.{list_all}
use Rattle.std.specs.declared.cmp.Ordering.{Ordering}
use Rattle.std.specs.declared.cmp.Ordering.TheVariants as ordering
use Rattle.std.proofs.lemmas.List.Folds.{list_all-map, list_all_at}
use Rattle.std.proofs.lemmas.List.Sums.{list_all-from_AllPass}
use Rattle.std.proofs.lemmas.List.Elements.{Contains-get_or, All-contains}
use Rattle.std.proofs.lemmas.List.{get_or-map, length-map}
use Rattle.std.proofs.lemmas.Option.{slice_get_past}
use Rattle.cs_types.specs.declared.ColumnType.{ColumnType}
use Rattle.cs_types.specs.declared.ColumnType.TheVariants.{TinyInt, SmallInt, Int, BigInt, Decimal, Date, VarChar}
use Rattle.cs_types.specs.declared.Column.{Column}
use Rattle.cs_types.specs.declared.Schema.{Schema}
use Rattle.cs_types.specs.declared.Value.{Value}
use Rattle.cs_types.specs.declared.Value.TheVariants.{Null, Number, Text}
use Rattle.cs_types.specs.declared.Loose.{Loose}
use Rattle.cs_types.specs.declared.Loose.TheVariants as loose
use Rattle.cs_types.specs.Rows.{cell_at}
use Rattle.cs_types.specs.Text.{loose_of, loose_number}
use Rattle.cs_types.specs.Values.{value_cmp}
use Rattle.cs_model.specs.declared.pred.Relation.{Relation}
use Rattle.cs_model.specs.declared.pred.Relation.TheVariants as relation
use Rattle.cs_model.specs.Queries.{is_true}
use Rattle.cs_model.specs.Cells.{loose_in}
use Rattle.cs_model.specs.Skips.{none_stands, loose_cells}
use Rattle.cs_model.specs.Truths.{compare, is_null, order_of}
use Rattle.segment_dict.specs.declared.Dict.{Dict}
use Rattle.segment_dict.specs.declared.Dict.TheVariants.{Numbers, Texts}
use Rattle.column_segment.specs.declared.body.SegmentBody.{SegmentBody}
use Rattle.column_segment.specs.Cells.{number_of, text_of, IsLeastCell, IsGreatestCell}
use Rattle.column_segment.specs.Dicts.{IsDictFor}
use Rattle.column_segment.specs.Segments.{IsSegmentOf}
use Rattle.row_group.specs.Rows.{PackedRow, column_of}
use Rattle.batch_filter.specs.Bounds.{AreBounds}
use Rattle.batch_filter.proofs.OrderLemmas.{are_alike, rises, order_rises, is_such, less_falls, less_equal_falls, greater_climbs, greater_equal_climbs}

pub number_is_some : (n : ℤ) → Number n ≢ Null
number_is_some n e = cc

pub text_is_some : (t : List ℕ) → Text t ≢ Null
text_is_some t e = cc

-- cells that are not NULL are all numbers, or all texts
abbrev pub AreAllAlike : List Value → Type 0
AreAllAlike cells = (v w : Value) → Contains cells v → Contains cells w → v ≢ Null → w ≢ Null → are_alike v w ≡ true

numbers_alike : (v w : Value) → IsNone (text_of v) → IsNone (text_of w) → v ≢ Null → w ≢ Null → are_alike v w ≡ true
numbers_alike Null w tv tw nv nw = absurd (nv refl)
numbers_alike (Number a) Null tv tw nv nw = absurd (nw refl)
numbers_alike (Number a) (Number b) tv tw nv nw = refl
numbers_alike (Number a) (Text u) tv tw nv nw = absurd (true≢false tw)
numbers_alike (Text t) w tv tw nv nw = absurd (true≢false tv)

texts_alike : (v w : Value) → IsNone (number_of v) → IsNone (number_of w) → v ≢ Null → w ≢ Null → are_alike v w ≡ true
texts_alike Null w tv tw nv nw = absurd (nv refl)
texts_alike (Text a) Null tv tw nv nw = absurd (nw refl)
texts_alike (Text a) (Text b) tv tw nv nw = refl
texts_alike (Text a) (Number u) tv tw nv nw = absurd (true≢false tw)
texts_alike (Number t) w tv tw nv nw = absurd (true≢false tv)

dict_alike : (cells : List Value) (dict : Dict) → IsDictFor cells dict → AreAllAlike cells
dict_alike cells (Numbers dict) of v w there other nv nw =
    numbers_alike v w (All-contains (λ cell. IsNone (text_of cell)) cells v of.0 there) (All-contains (λ cell. IsNone (text_of cell)) cells w of.0 other) nv nw
dict_alike cells (Texts dict) of v w there other nv nw =
    texts_alike v w (All-contains (λ cell. IsNone (number_of cell)) cells v of.1 there) (All-contains (λ cell. IsNone (number_of cell)) cells w of.1 other) nv nw

-- a test that NULL passes is passed by all cells exactly where the one passes that fails it first
one_tells : (q : Value → Bool) → q Null ≡ true → (cells : List Value) (best : Value) → best ≢ Null → Contains cells best
    → ((c : Value) → Contains cells c → c ≢ Null → q best ≡ true → q c ≡ true) → list_all q cells ≡ q best
one_tells q null cells best some there leads = go (q best) refl
  where
    passes : (c : Value) → Contains cells c → q best ≡ true → q c ≡ true
    passes Null held e = null
    passes (Number n) held e = leads (Number n) held (number_is_some n) e
    passes (Text t) held e = leads (Text t) held (text_is_some t) e

    go : (b : Bool) → q best ≡ b → list_all q cells ≡ q best
    go true e = list_all-from_AllPass q cells (λ k d l. passes (get_or cells k d) (Contains-get_or cells k d l) e) ∙ sym e
    go false e = list_all_at q cells there.0 best there.1 (ap q there.2 ∙ e) ∙ sym e

best_tells : (q : Value → Bool) → q Null ≡ true → (cells : List Value) (best : Value) → (best ≡ Null → All (λ c. c ≡ Null) cells) → (best ≢ Null → Contains cells best)
    → ((c : Value) → Contains cells c → c ≢ Null → best ≢ Null → q best ≡ true → q c ≡ true) → list_all q cells ≡ q best
best_tells q null cells Null all there leads = list_all-from_AllPass q cells (λ k d l. ap q (all refl k d l) ∙ null) ∙ sym null
best_tells q null cells (Number n) all there leads =
    one_tells q null cells (Number n) (number_is_some n) (there (number_is_some n)) (λ c held other. leads c held other (number_is_some n))
best_tells q null cells (Text t) all there leads =
    one_tells q null cells (Text t) (text_is_some t) (there (text_is_some t)) (λ c held other. leads c held other (text_is_some t))

not_true : (a b : Bool) → (a ≡ true → b ≡ true) → not b ≡ true → not a ≡ true
not_true false b leads e = refl
not_true true b leads e = absurd (true≢false (sym e ∙ ap not (leads refl)))

module _ (kind : ColumnType) (cells : List Value) (alike : AreAllAlike cells) (sign : Relation) (constant : Loose) where
  order : Value → Option Ordering
  order v = order_of (loose_of kind v) constant

  pub least_tells : (least : Value) → IsLeastCell cells least → ((a b : Option Ordering) → rises a b ≡ true → is_such sign b ≡ true → is_such sign a ≡ true)
      → none_stands sign (map (loose_of kind) cells) constant ≡ not (is_true (compare sign (loose_of kind least) constant))
  least_tells least is falls =
      list_all-map (λ cell. not (is_true (compare sign cell constant))) (loose_of kind) cells
      ∙ best_tells (λ v. not (is_true (compare sign (loose_of kind v) constant))) refl cells least is.0 (λ some. (is.1 some).0)
      (λ c held other some. not_true (is_such sign (order_of (loose_of kind c) constant)) (is_such sign (order_of (loose_of kind least) constant))
      (falls (order_of (loose_of kind least) constant) (order_of (loose_of kind c) constant)
      (order_rises kind least c constant (alike least c (is.1 some).0 held some other) (All-contains (λ cell. cell ≢ Null → value_cmp least cell ≢ ordering.Greater) cells c (is.1 some).1 held other))))

  pub greatest_tells : (greatest : Value) → IsGreatestCell cells greatest → ((a b : Option Ordering) → rises a b ≡ true → is_such sign a ≡ true → is_such sign b ≡ true)
      → none_stands sign (map (loose_of kind) cells) constant ≡ not (is_true (compare sign (loose_of kind greatest) constant))
  greatest_tells greatest is climbs =
      list_all-map (λ cell. not (is_true (compare sign cell constant))) (loose_of kind) cells
      ∙ best_tells (λ v. not (is_true (compare sign (loose_of kind v) constant))) refl cells greatest is.0 (λ some. (is.1 some).0)
      (λ c held other some. not_true (is_such sign (order_of (loose_of kind c) constant)) (is_such sign (order_of (loose_of kind greatest) constant))
      (climbs (order_of (loose_of kind c) constant) (order_of (loose_of kind greatest) constant)
      (order_rises kind c greatest constant (alike c greatest held (is.1 some).0 other some) (All-contains (λ cell. cell ≢ Null → value_cmp cell greatest ≢ ordering.Greater) cells c (is.1 some).1 held other))))

number_no_null : (kind : ColumnType) (n : ℤ) → is_null (loose_number kind n) ≡ false
number_no_null TinyInt n = refl
number_no_null SmallInt n = refl
number_no_null Int n = refl
number_no_null BigInt n = refl
number_no_null (Decimal p s) n = refl
number_no_null Date n = refl
number_no_null (VarChar m) n = refl

-- a cell stands for NULL exactly where it is NULL
pub no_null : (kind : ColumnType) (v : Value) → v ≢ Null → is_null (loose_of kind v) ≡ false
no_null kind Null some = absurd (some refl)
no_null kind (Number n) some = number_no_null kind n
no_null kind (Text t) some = refl

some_passes : (kind : ColumnType) (v : Value) → v ≢ Null → not (is_null (loose_of kind v)) ≡ true
some_passes kind v some = ap not (no_null kind v some)

nulls_tell : (kind : ColumnType) (cells : List Value) (nulls : Bool) → (IsTrue nulls → Contains cells Null) → (Contains cells Null → IsTrue nulls)
    → list_all (λ cell. not (is_null cell)) (map (loose_of kind) cells) ≡ not nulls
nulls_tell kind cells true there back =
    list_all-map (λ cell. not (is_null cell)) (loose_of kind) cells
    ∙ list_all_at (λ v. not (is_null (loose_of kind v))) cells (there refl).0 Null (there refl).1 (ap (λ v. not (is_null (loose_of kind v))) (there refl).2)
nulls_tell kind cells false there back =
    list_all-map (λ cell. not (is_null cell)) (loose_of kind) cells
    ∙ list_all-from_AllPass (λ v. not (is_null (loose_of kind v))) cells (λ k d l. some_passes kind (get_or cells k d) (λ e. true≢false (sym (back (subst (λ (cell : Value). Contains cells cell) e (Contains-get_or cells k d l))))))

all_null_tell : (kind : ColumnType) (cells : List Value) (least : Value) → IsLeastCell cells least → list_all is_null (map (loose_of kind) cells) ≡ is_null (loose_of kind least)
all_null_tell kind cells least is =
    list_all-map is_null (loose_of kind) cells
    ∙ best_tells (λ v. is_null (loose_of kind v)) refl cells least is.0 (λ some. (is.1 some).0) (λ c held other some e. absurd (true≢false (sym e ∙ no_null kind least some)))

-- the least and the greatest cell of a segment are bounds of what its cells stand for
pub segment_bounds : (kind : ColumnType) (cells : List Value) (count : ℕ) (body : SegmentBody) (least greatest : Value) (nulls : Bool)
    → IsSegmentOf cells count body least greatest nulls → AreBounds (map (loose_of kind) cells) (loose_of kind least) (loose_of kind greatest) nulls
segment_bounds kind cells count body least greatest nulls is =
    let alike : AreAllAlike cells = dict_alike cells is.best.by.dict is.best.by.of_cells in
    record {
      below = λ constant. least_tells kind cells alike relation.Less constant least is.least_is less_falls;
      at_most = λ constant. least_tells kind cells alike relation.LessEqual constant least is.least_is less_equal_falls;
      above = λ constant. greatest_tells kind cells alike relation.Greater constant greatest is.greatest_is greater_climbs;
      at_least = λ constant. greatest_tells kind cells alike relation.GreaterEqual constant greatest is.greatest_is greater_equal_climbs;
      none_null = nulls_tell kind cells nulls is.nulls_is.0 is.nulls_is.1;
      all_null = all_null_tell kind cells least is.least_is;
    }

none_stands-null : (sign : Relation) (cells : List Loose) (constant : Loose) → All (λ cell. cell ≡ loose.Null) cells → none_stands sign cells constant ≡ true
none_stands-null sign cells constant all =
    list_all-from_AllPass (λ cell. not (is_true (compare sign cell constant))) cells (λ k d l. ap (λ cell. not (is_true (compare sign cell constant))) (all k d l))

no_cell-null : (cells : List Loose) (nulls : Bool) → All (λ cell. cell ≡ loose.Null) cells → nulls ≡ nat_lt 0 (length cells) → list_all (λ cell. not (is_null cell)) cells ≡ not nulls
no_cell-null [] nulls all e = sym (ap not e)
no_cell-null (x ∷ xs) nulls all e =
    let some : nat_lt 0 (length (x ∷ xs)) ≡ true = search rules in
    list_all_at (λ cell. not (is_null cell)) (x ∷ xs) 0 x (omega arith) (ap (λ cell. not (is_null cell)) (all 0 x (omega arith))) ∙ sym (ap not (e ∙ some))

-- NULL is both bounds of cells that are all NULL
pub null_bounds : (cells : List Loose) (nulls : Bool) → All (λ cell. cell ≡ loose.Null) cells → nulls ≡ nat_lt 0 (length cells) → AreBounds cells loose.Null loose.Null nulls
null_bounds cells nulls all e = record {
  below = λ constant. none_stands-null relation.Less cells constant all;
  at_most = λ constant. none_stands-null relation.LessEqual cells constant all;
  above = λ constant. none_stands-null relation.Greater cells constant all;
  at_least = λ constant. none_stands-null relation.GreaterEqual cells constant all;
  none_null = no_cell-null cells nulls all e;
  all_null = list_all-from_AllPass is_null cells (λ k d l. ap is_null (all k d l));
}

such_unequal : (o : Option Ordering) → not (is_such relation.NotEqual o) ≡ (not (is_such relation.Less o) && not (is_such relation.Greater o))
such_unequal None = refl
such_unequal (Some ordering.Less) = refl
such_unequal (Some ordering.Equal) = refl
such_unequal (Some ordering.Greater) = refl

both_and : (a b c d : Bool) → ((a && b) && (c && d)) ≡ ((a && c) && (b && d))
both_and true true c d = refl
both_and true false true d = refl
both_and true false false d = refl
both_and false b true d = refl
both_and false b false d = refl

-- no cell is unequal to a constant where none is below it and none above
pub none_unequal : (cells : List Loose) (constant : Loose) → none_stands relation.NotEqual cells constant ≡ (none_stands relation.Less cells constant && none_stands relation.Greater cells constant)
none_unequal [] constant = refl
none_unequal (x ∷ xs) constant =
    ap (λ b. b && none_stands relation.NotEqual xs constant) (such_unequal (order_of x constant))
    ∙ ap (λ b. (not (is_such relation.Less (order_of x constant)) && not (is_such relation.Greater (order_of x constant))) && b) (none_unequal xs constant)
    ∙ both_and (not (is_such relation.Less (order_of x constant))) (not (is_such relation.Greater (order_of x constant))) (none_stands relation.Less xs constant) (none_stands relation.Greater xs constant)

-- the same of a column of a group, by what is kept of its segment's bounds
pub column_bounds : (schema : Schema) (rows : List PackedRow) (column : ℕ) (found : Column) (count : ℕ) (body : SegmentBody) (least greatest : Value) (nulls : Bool) (low high : Loose) (some : Bool)
    → slice_get schema.columns column ≡ Some found → low ≡ loose_of found.kind least → high ≡ loose_of found.kind greatest → some ≡ nulls
    → IsSegmentOf (column_of rows column) count body least greatest nulls → AreBounds (loose_cells schema (column_of rows) column) low high some
column_bounds schema rows column found count body least greatest nulls low high some there l h n is =
    subst (λ (o : Option Column). AreBounds (map (loose_in o) (column_of rows column)) low high some) (sym there)
    (subst (λ (x : Loose). AreBounds (map (loose_of found.kind) (column_of rows column)) x high some) (sym l)
    (subst (λ (x : Loose). AreBounds (map (loose_of found.kind) (column_of rows column)) (loose_of found.kind least) x some) (sym h)
    (subst (λ (x : Bool). AreBounds (map (loose_of found.kind) (column_of rows column)) (loose_of found.kind least) (loose_of found.kind greatest) x) (sym n)
    (segment_bounds found.kind (column_of rows column) count body least greatest nulls is))))

loose_in-null : (o : Option Column) (v : Value) → v ≡ Null → loose_in o v ≡ loose.Null
loose_in-null None v e = refl
loose_in-null (Some column) v e = ap (loose_of column.kind) e

-- NULL is both bounds of a column where each row stands for NULL
pub missing_bounds : (schema : Schema) (rows : List PackedRow) (column : ℕ) (nulls : Bool) → ((row : PackedRow) → Contains rows row → loose_in (slice_get schema.columns column) (cell_at row.cells column) ≡ loose.Null)
    → nulls ≡ nat_lt 0 (length rows) → AreBounds (loose_cells schema (column_of rows) column) loose.Null loose.Null nulls
missing_bounds schema rows column nulls all e =
    null_bounds (loose_cells schema (column_of rows) column) nulls null
    (e ∙ ap (nat_lt 0) (sym (length-map (column_of rows column) (loose_in (slice_get schema.columns column)) ∙ length-map rows (λ row. cell_at row.cells column))))
  where
    null : All (λ cell. cell ≡ loose.Null) (loose_cells schema (column_of rows) column)
    null k d l =
        let row : PackedRow = record { cells = []; begin = 0 } in
        let counted : k < length (column_of rows column) = omega (arith, length-map (column_of rows column) (loose_in (slice_get schema.columns column))) in
        let there : k < length rows = omega (arith, length-map rows (λ row. cell_at row.cells column)) in
        get_or-map (loose_in (slice_get schema.columns column)) (column_of rows column) k Null d counted
        ∙ ap (loose_in (slice_get schema.columns column)) (get_or-map (λ row. cell_at row.cells column) rows k row Null there)
        ∙ all (get_or rows k row) (Contains-get_or rows k row there)

pub no_column : (schema : Schema) (column : ℕ) (v : Value) → slice_get schema.columns column ≡ None → loose_in (slice_get schema.columns column) v ≡ loose.Null
no_column schema column v e = ap (λ o. loose_in o v) e

pub no_cell : (schema : Schema) (column : ℕ) (cells : List Value) → length cells ≤ column → loose_in (slice_get schema.columns column) (cell_at cells column) ≡ loose.Null
no_cell schema column cells past = loose_in-null (slice_get schema.columns column) (cell_at cells column) (ap (λ o. unwrap_or o Null) (slice_get_past cells column past))
