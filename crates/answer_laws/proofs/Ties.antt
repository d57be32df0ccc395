-- What ties in the orders of an answer.
use Rattle.std.proofs.Common.{◌≡◌, ℕ, zero, suc, ◌+◌, ◌<◌, Bool, true, false, not, ◌&&◌, List, [], ◌∷◌, ◌++◌, length, map, drop, refl, sym, ap, subst, ◌∙◌, arith, true≢false, suc-le-suc, zero-le}
use Rattle.std.specs.declared.cmp.Ordering.{Ordering}
use Rattle.std.specs.declared.cmp.Ordering.TheVariants.{Less, Equal, Greater}
use Rattle.std.specs.Ordering.{is_lt, is_eq, ordering_then, ordering_reverse}
use Rattle.std.specs.List.{range_with_len}
use Rattle.std.specs.List.Sorted.{ties}
use Rattle.std.specs.Cmp.{IsTotalOrder}
use Rattle.std.proofs.lemmas.Cmp.{on_total, then_total}
use Rattle.cs_types.specs.declared.Value.{Value}
use Rattle.cs_types.specs.Rows.{cell_at}
use Rattle.cs_types.specs.Values.{value_cmp}
use Rattle.cs_model.specs.Order.{column_cmp, row_cmp}
use Rattle.answer_laws.proofs.Orders.{value_decides, column_total, row_total}

-- where neither is less, they are equal
pub tied_equal : {X : Type 0} (cmp : X → X → Ordering) (total : IsTotalOrder cmp) (a b : X) → ties (λ x y. is_lt (cmp x y)) a b ≡ true → cmp a b ≡ Equal
tied_equal cmp total a b h = go (cmp a b) (cmp b a) refl refl (total.antisymm b a) h
  where
    go : (r s : Ordering) → cmp a b ≡ r → cmp b a ≡ s → cmp b a ≡ ordering_reverse (cmp a b) → (not (is_lt (cmp a b)) && not (is_lt (cmp b a))) ≡ true → cmp a b ≡ Equal
    go Less s e f turned h = absurd (true≢false (sym h ∙ ap (λ r. not (is_lt r) && not (is_lt (cmp b a))) e))
    go Equal s e f turned h = e
    go Greater s e f turned h =
        absurd (true≢false (sym h ∙ ap (λ r. not (is_lt r) && not (is_lt (cmp b a))) e ∙ ap (λ r. not (is_lt r)) (turned ∙ ap ordering_reverse e)))

pub both_equal : (r s : Ordering) → ordering_then r s ≡ Equal → (r ≡ Equal) × (s ≡ Equal)
both_equal Less s h = absurd (true≢false (ap is_lt h))
both_equal Equal s h = (refl, h)
both_equal Greater s h = absurd (true≢false (sym (ap is_eq h)))

value_equal : (x y : Value) → value_cmp x y ≡ Equal → x ≡ y
value_equal x y h = (value_decides x y).0 (ap is_eq h)

column_equal : (column : ℕ × Bool) (a b : List Value) → column_cmp column a b ≡ Equal → cell_at a column.0 ≡ cell_at b column.0
column_equal (i, false) a b h = value_equal (cell_at a i) (cell_at b i) h
column_equal (i, true) a b h = sym (value_equal (cell_at b i) (cell_at a i) h)

-- the columns that come last too
pub last_equal : (columns others : List (ℕ × Bool)) (a b : List Value) → row_cmp (columns ++ others) a b ≡ Equal → row_cmp others a b ≡ Equal
last_equal [] others a b h = h
last_equal (column ∷ columns) others a b h = last_equal columns others a b (both_equal (column_cmp column a b) (row_cmp (columns ++ others) a b) h).1

-- rows that tie have one key
pub key_equal : (columns : List (ℕ × Bool)) (key : ℕ) (a b : List Value) → row_cmp (columns ++ (key, false) ∷ []) a b ≡ Equal → cell_at a key ≡ cell_at b key
key_equal columns key a b h = column_equal (key, false) a b (both_equal (column_cmp (key, false) a b) Equal (last_equal columns ((key, false) ∷ []) a b h)).0

-- cells that tie by each of their places are one
places_equal : (n i : ℕ) (a b : List Value) → row_cmp (map (λ place. (place, false)) (range_with_len i n)) a b ≡ Equal → (k : ℕ) → k < n → cell_at a (i + k) ≡ cell_at b (i + k)
places_equal zero i a b h k l = absurd (omega arith)
places_equal (suc n) i a b h zero l =
    let e : i ≡ i + zero = omega arith in
    subst (λ j. cell_at a j ≡ cell_at b j) e (column_equal (i, false) a b (both_equal (column_cmp (i, false) a b) (row_cmp (map (λ place. (place, false)) (range_with_len (i + 1) n)) a b) h).0)
places_equal (suc n) i a b h (suc k) l =
    let e : i + 1 + k ≡ i + suc k = omega arith in
    subst (λ j. cell_at a j ≡ cell_at b j) e (places_equal n (i + 1) a b (both_equal (column_cmp (i, false) a b) (row_cmp (map (λ place. (place, false)) (range_with_len (i + 1) n)) a b) h).1 k (omega arith))

cells_equal : (a b : List Value) → length a ≡ length b → ((k : ℕ) → k < length a → cell_at a k ≡ cell_at b k) → a ≡ b
cells_equal [] [] e h = refl
cells_equal [] (y ∷ b) e h = absurd (omega arith)
cells_equal (x ∷ a) [] e h = absurd (omega arith)
cells_equal (x ∷ a) (y ∷ b) e h =
    ap (λ v. v ∷ a) (h zero (suc-le-suc zero-le)) ∙ ap (λ l. y ∷ l) (cells_equal a b (omega arith) (λ k l. h (suc k) (suc-le-suc l)))

pub groups_tied : (columns : List (ℕ × Bool)) (n : ℕ) (a b : List Value) → length a ≡ n → length b ≡ n → row_cmp (columns ++ map (λ place. (place, false)) (range_with_len 0 n)) a b ≡ Equal → a ≡ b
groups_tied columns n a b e f h =
    let known = places_equal n 0 a b (last_equal columns (map (λ place. (place, false)) (range_with_len 0 n)) a b h) in
    cells_equal a b (e ∙ sym f) (λ k l. let at : 0 + k ≡ k = omega arith in subst (λ j. cell_at a j ≡ cell_at b j) at (known k (omega arith)))

-- ---- what rows are sorted by, alone

-- a row's cells in these columns
abbrev pub sort_cells : List (ℕ × Bool) → List Value → List Value
sort_cells columns row = map (λ (column : ℕ × Bool). cell_at row column.0) columns

abbrev pub sort_cmp : List (ℕ × Bool) → List Value → List Value → Ordering
sort_cmp [] a b = Equal
sort_cmp (column ∷ columns) a b = ordering_then (column_cmp (0, column.1) a b) (sort_cmp columns (drop 1 a) (drop 1 b))

pub sort_total : (columns : List (ℕ × Bool)) → IsTotalOrder (sort_cmp columns)
sort_total [] = row_total []
sort_total (column ∷ columns) = then_total (column_total (0, column.1)) (on_total (λ cells. drop 1 cells) (sort_total columns))

first_cells : (column : ℕ × Bool) (a b : List Value) (us vs : List Value) → column_cmp (0, column.1) (cell_at a column.0 ∷ us) (cell_at b column.0 ∷ vs) ≡ column_cmp column a b
first_cells (i, false) a b us vs = refl
first_cells (i, true) a b us vs = refl

pub sort_is : (columns : List (ℕ × Bool)) (a b : List Value) → sort_cmp columns (sort_cells columns a) (sort_cells columns b) ≡ row_cmp columns a b
sort_is [] a b = refl
sort_is (column ∷ columns) a b =
    ap (λ r. ordering_then r (sort_cmp columns (sort_cells columns a) (sort_cells columns b))) (first_cells column a b (sort_cells columns a) (sort_cells columns b))
    ∙ ap (ordering_then (column_cmp column a b)) (sort_is columns a b)

pub sort_cells_tied : (columns : List (ℕ × Bool)) (a b : List Value) → row_cmp columns a b ≡ Equal → sort_cells columns a ≡ sort_cells columns b
sort_cells_tied [] a b h = refl
sort_cells_tied (column ∷ columns) a b h =
    let parts = both_equal (column_cmp column a b) (row_cmp columns a b) h in
    ap (λ v. v ∷ sort_cells columns a) (column_equal column a b parts.0) ∙ ap (λ l. cell_at b column.0 ∷ l) (sort_cells_tied columns a b parts.1)
