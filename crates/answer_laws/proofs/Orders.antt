-- The orders of rows are total.
use Rattle.std.proofs.Common.{◌≡◌, ℕ, ℤ, true≢false, Bool, true, false, List, [], ◌∷◌, refl, sym, subst, ap, ◌∙◌, Decides}
use Rattle.std.specs.declared.cmp.Ordering.{Ordering}
use Rattle.std.specs.declared.cmp.Ordering.TheVariants.{Less, Equal, Greater}
use Rattle.std.specs.Cmp.{IsTotalOrder, IsStrictWeakOrder}
use Rattle.std.specs.Ordering.{is_lt, is_eq, int_cmp, ordering_reverse}
use Rattle.std.specs.Cmp.Lexicographic.{lists_ties}
use Rattle.std.proofs.lemmas.Cmp.{on_total, then_total, back_total, int_cmp_total, int_ranked}
use Rattle.std.proofs.lemmas.List.Sorted.{ranks_by}
use Rattle.std.proofs.lemmas.Map.Text.{is_eq-slice_cmp}
use Rattle.std.proofs.lemmas.Slice.Eq.{slice_eq-Decides, bytes_eq-Decides}
use Rattle.cs_types.specs.declared.Value.{Value}
use Rattle.cs_types.specs.declared.Value.TheVariants.{Null, Number, Text}
use Rattle.cs_types.specs.contracts.ValueOrd.TheImpl.{cmp-value}
use Rattle.cs_types.specs.contracts.ValueOrd.TheImpl.Laws.{total-law}
use Rattle.cs_types.specs.Rows.{cell_at}
use Rattle.cs_types.specs.Values.{value_cmp}
use Rattle.cs_model.specs.Order.{column_cmp, row_cmp, comes_before}
use Rattle.cs_model.specs.Groups.{same_cells}

derived_cmp : (x y : Value) → cmp-value.it x y ≡ value_cmp x y
derived_cmp Null Null = refl
derived_cmp Null (Number n) = refl
derived_cmp Null (Text u) = refl
derived_cmp (Number m) Null = refl
derived_cmp (Number m) (Number n) = refl
derived_cmp (Number m) (Text u) = refl
derived_cmp (Text t) Null = refl
derived_cmp (Text t) (Number n) = refl
derived_cmp (Text t) (Text u) = refl

pub value_total : IsTotalOrder value_cmp
value_total = subst IsTotalOrder (λ i x y. derived_cmp x y i) total-law

equal_total : IsTotalOrder {K = List Value} (λ a b. Equal)
equal_total = record { antisymm = λ a b. refl; trans = λ a b c e f. e; congr = λ a b c e. refl }

pub column_total : (column : ℕ × Bool) → IsTotalOrder (column_cmp column)
column_total (i, false) = on_total (λ row. cell_at row i) value_total
column_total (i, true) = back_total (on_total (λ row. cell_at row i) value_total)

pub row_total : (columns : List (ℕ × Bool)) → IsTotalOrder (row_cmp columns)
row_total [] = equal_total
row_total (column ∷ columns) = then_total (column_total column) (row_total columns)

-- so a sort by them has an order to sort by, also of what has a row
pub before_by : {X : Type 0} (columns : List (ℕ × Bool)) (row : X → List Value) → IsStrictWeakOrder (λ x y. comes_before columns (row x) (row y))
before_by columns row = ranks_by (row_total columns) row

is_equal : (r : Ordering) → is_eq r ≡ true → r ≡ Equal
is_equal Less h = absurd (true≢false (sym h))
is_equal Equal h = refl
is_equal Greater h = absurd (true≢false (sym h))

pub int_itself : (m : ℤ) → int_cmp m m ≡ Equal
int_itself m = go (int_cmp m m) refl
  where
    go : (r : Ordering) → int_cmp m m ≡ r → int_cmp m m ≡ Equal
    go Less e = absurd (true≢false (sym (ap is_lt e) ∙ ap is_lt (int_cmp_total.antisymm m m ∙ ap ordering_reverse e)))
    go Equal e = e
    go Greater e = absurd (true≢false (sym (ap is_lt (int_cmp_total.antisymm m m ∙ ap ordering_reverse e)) ∙ ap is_lt e))

-- the order of values decides whether they are one
pub value_decides : (a b : Value) → Decides (is_eq (value_cmp a b)) (a ≡ b)
value_decides Null Null = (λ e. refl, λ e. refl)
value_decides Null (Number n) = (λ e. cc, λ e. cc)
value_decides Null (Text t) = (λ e. cc, λ e. cc)
value_decides (Number m) Null = (λ e. cc, λ e. cc)
value_decides (Number m) (Number n) =
    (λ e. ap Number (int_ranked m n Equal (sym (is_equal (int_cmp m n) e))), λ e. let same : m ≡ n = cc in ap is_eq (subst (λ (k : ℤ). int_cmp m k ≡ Equal) same (int_itself m)))
value_decides (Number m) (Text t) = (λ e. cc, λ e. cc)
value_decides (Text t) Null = (λ e. cc, λ e. cc)
value_decides (Text t) (Number n) = (λ e. cc, λ e. cc)
value_decides (Text t) (Text u) =
    (λ e. ap Text ((bytes_eq-Decides t u).0 (sym (is_eq-slice_cmp t u) ∙ e)), λ e. is_eq-slice_cmp t u ∙ (bytes_eq-Decides t u).1 (cc))

pub same_decides : (a b : List Value) → Decides (same_cells a b) (a ≡ b)
same_decides a b = slice_eq-Decides value_decides a b _ (sym (lists_ties value_cmp (λ x y. refl) a b))
