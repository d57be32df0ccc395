-- The least and the greatest cell by the least and the greatest code.
use Rattle.std.proofs.Common.{◌≡◌, ℕ, zero, suc, ◌≤◌, inl, inr, List, [], ◌∷◌, ◌++◌, Bool, true, false, not, ◌&&◌, ◌||◌, nat_le, cond, length, map, filter, fold, min, max, refl, sym, ◌∙◌, ap, subst, arith, add-one}
use Rattle.std.specs.Prelude.{◌==◌}
use Rattle.std.specs.declared.cmp.Ordering.TheVariants.{Less, Equal, Greater}
use Rattle.std.specs.Cmp.{nat_cmp_is}
use Rattle.std.specs.List.{range_with_len}
use Rattle.std.specs.Ordering.{nat_cmp, is_lt, is_gt}
use Rattle.std.proofs.lemmas.Bool.{cases_lt, leb-true, le-leb}
use Rattle.std.proofs.lemmas.Bool.Decides.{nat_tests}
use Rattle.cs_types.specs.declared.Value.{Value}
use Rattle.cs_types.specs.declared.Value.TheVariants.{Null}
use Rattle.cs_types.specs.Values.{value_cmp}
use Rattle.cs_model.specs.Items.{is_null, lesser, greater, least_of, greatest_of, present}
use Rattle.column_segment.specs.Bodies.{cell_of_code}
use Rattle.row_group.specs.Groups.{Group}
use Rattle.batch_kernels.proofs.OneMore.{filter-more}
use Rattle.code_tallies.specs.declared.column.Column.{Column}
use Rattle.code_tallies.specs.Shown.{rows_at}
use Rattle.code_tallies.specs.Columns.{IsColumnOf, code_at, cell_there, shown_code}
use Rattle.code_tallies.specs.Tables.{positions, present_in, least_at, greatest_at}
use Rattle.code_tallies.proofs.First.{InOrder}
use Rattle.code_tallies.proofs.Present.{present-is}

-- the code is one of a cell that is not NULL
abbrev IsGood : Column → ℕ → Type 0
IsGood column code = (column.first ≤ code) × (code ≤ column.last)

abbrev AreGood : Column → List ℕ → Type 0
AreGood column [] = Unit {0}
AreGood column (i ∷ at) = IsGood column (code_at column i) × AreGood column at

good-append : (column : Column) (xs ys : List ℕ) → AreGood column xs → AreGood column ys → AreGood column (xs ++ ys)
good-append column [] ys h g = g
good-append column (x ∷ xs) ys h g = (h.0, good-append column xs ys h.1 g)

one_good : (column : Column) (n : ℕ) (chosen there is_key : Bool) → nat_le column.first (code_at column n) ≡ there → code_at column n ≤ column.last →
    AreGood column (cond ((chosen && there) && is_key) (n ∷ []) [])
one_good column n true true true e most = ((leb-true column.first (code_at column n) e, most), tt)
one_good column n true true false e most = tt
one_good column n true false is_key e most = tt
one_good column n false there is_key e most = tt

good_below : (group : Group) (place : ℕ) (column : Column) (chosen : ℕ → Bool) (key : ℕ → ℕ) (k n : ℕ) → IsColumnOf group place column → n ≤ length group.rows →
    AreGood column (positions (present_in column chosen) key k n)
good_below group place column chosen key k zero is within = tt
good_below group place column chosen key k (suc n) is within =
    let Q = λ (i : ℕ). present_in column chosen i && key i == k in
    let all : AreGood column (filter Q (range_with_len 0 n) ++ cond (Q n) (n ∷ []) [])
    = good-append column (filter Q (range_with_len 0 n)) (cond (Q n) (n ∷ []) []) (good_below group place column chosen key k n is (omega arith))
    (one_good column n (chosen n) (nat_le column.first (code_at column n)) (key n == k) refl (is.most n (omega arith))) in
    subst (λ m. AreGood column (filter Q (range_with_len 0 m))) (add-one n) (subst (AreGood column) (sym (filter-more Q n)) all)

not_zero : (n : ℕ) → (suc n == 0) ≡ false
not_zero n = grind (arith, nat_tests)

not_true : (b : Bool) → not b ≡ true → b ≡ false
not_true true e = sym e
not_true false e = refl

-- of codes that are good, one picked by an operation whose cell is the one picked of the cells
module _ (column : Column) (join : Value → Value → Value) (op : ℕ → ℕ → ℕ)
    (closed : (a b : ℕ) → IsGood column a → IsGood column b → IsGood column (op a b))
    (joins : (a b : ℕ) → IsGood column a → IsGood column b → join (cell_of_code column.segment.now.body a) (cell_of_code column.segment.now.body b) ≡ cell_of_code column.segment.now.body (op a b))
    (start : ℕ) (starts : (a : ℕ) → IsGood column a → op start a ≡ a) (nothing : (v : Value) → join Null v ≡ v) where
  good : (a : ℕ) (at : List ℕ) → IsGood column a → AreGood column at → IsGood column (fold (λ m i. op m (code_at column i)) a at)
  good a [] is all = is
  good a (i ∷ at) is all = good (op a (code_at column i)) at (closed a (code_at column i) is all.0) all.1

  folded : (a : ℕ) (at : List ℕ) → IsGood column a → AreGood column at →
      fold join (cell_of_code column.segment.now.body a) (map (cell_there column) at) ≡ cell_of_code column.segment.now.body (fold (λ m i. op m (code_at column i)) a at)
  folded a [] is all = refl
  folded a (i ∷ at) is all =
      ap (λ v. fold join v (map (cell_there column) at)) (joins a (code_at column i) is all.0)
      ∙ folded (op a (code_at column i)) at (closed a (code_at column i) is all.0) all.1

  picked : (at : List ℕ) → AreGood column at →
      shown_code column (length at) (fold (λ m i. op m (code_at column i)) start at) ≡ fold join Null (map (cell_there column) at)
  picked [] all = refl
  picked (i ∷ at) all =
      let code : ℕ = code_at column i in
      let rest : ℕ = fold (λ m j. op m (code_at column j)) code at in
      let first : fold (λ m j. op m (code_at column j)) (op start code) at ≡ rest = ap (λ a. fold (λ m j. op m (code_at column j)) a at) (starts code all.0) in
      let is : IsGood column rest = good code at all.0 all.1 in
      let most : min rest column.last ≡ rest = omega (arith, is.1) in
      ap (λ b. cond b Null (cell_of_code column.segment.now.body (min (fold (λ m j. op m (code_at column j)) (op start code) at) column.last))) (not_zero (length at))
      ∙ ap (λ a. cell_of_code column.segment.now.body (min a column.last)) first
      ∙ ap (cell_of_code column.segment.now.body) most
      ∙ sym (folded code at all.0 all.1)
      ∙ ap (λ v. fold join v (map (cell_there column) at)) (sym (nothing (cell_there column i)))

module _ (group : Group) (place : ℕ) (column : Column) (is : IsColumnOf group place column) (in_order : InOrder) where
  none_null : (a : ℕ) → IsGood column a → is_null (cell_of_code column.segment.now.body a) ≡ false
  none_null a good = not_true (is_null (cell_of_code column.segment.now.body a)) (is.present a good.1 ∙ le-leb column.first a good.0)

  compared : (a b : ℕ) → IsGood column a → IsGood column b → value_cmp (cell_of_code column.segment.now.body b) (cell_of_code column.segment.now.body a) ≡ nat_cmp b a
  compared a b good other = sym (in_order column.segment.now.body b a (is.known b other.1) (is.known a good.1))

  lesser_is : (a b : ℕ) → IsGood column a → IsGood column b → lesser (cell_of_code column.segment.now.body a) (cell_of_code column.segment.now.body b) ≡ cell_of_code column.segment.now.body (min a b)
  lesser_is a b good other =
      let cell = λ (c : ℕ). cell_of_code column.segment.now.body c in
      ap (λ n. cond (n || is_lt (value_cmp (cell b) (cell a))) (cell b) (cell a)) (none_null a good)
      ∙ ap (λ o. cond (is_lt o) (cell b) (cell a)) (compared a b good other)
      ∙ elim (cases_lt b a) [
        | inl less ↦
            let m : b ≡ min a b = omega (arith, less) in
            ap (λ o. cond (is_lt o) (cell b) (cell a)) (sym (nat_cmp_is b a Less less)) ∙ ap cell m
        | inr more ↦
            let m : a ≡ min a b = omega (arith, more) in
            elim (cases_lt a b) [
              | inl above ↦ ap (λ o. cond (is_lt o) (cell b) (cell a)) (sym (nat_cmp_is b a Greater above)) ∙ ap cell m
              | inr below ↦
                  let same : b ≡ a = omega (arith, more, below) in
                  ap (λ o. cond (is_lt o) (cell b) (cell a)) (sym (nat_cmp_is b a Equal same)) ∙ ap cell m
            ]
      ]

  greater_is : (a b : ℕ) → IsGood column a → IsGood column b → greater (cell_of_code column.segment.now.body a) (cell_of_code column.segment.now.body b) ≡ cell_of_code column.segment.now.body (max a b)
  greater_is a b good other =
      let cell = λ (c : ℕ). cell_of_code column.segment.now.body c in
      ap (λ n. cond (n || is_gt (value_cmp (cell b) (cell a))) (cell b) (cell a)) (none_null a good)
      ∙ ap (λ o. cond (is_gt o) (cell b) (cell a)) (compared a b good other)
      ∙ elim (cases_lt a b) [
        | inl above ↦
            let m : b ≡ max a b = omega (arith, above) in
            ap (λ o. cond (is_gt o) (cell b) (cell a)) (sym (nat_cmp_is b a Greater above)) ∙ ap cell m
        | inr low ↦
            let m : a ≡ max a b = omega (arith, low) in
            elim (cases_lt b a) [
              | inl less ↦ ap (λ o. cond (is_gt o) (cell b) (cell a)) (sym (nat_cmp_is b a Less less)) ∙ ap cell m
              | inr more ↦
                  let same : b ≡ a = omega (arith, more, low) in
                  ap (λ o. cond (is_gt o) (cell b) (cell a)) (sym (nat_cmp_is b a Equal same)) ∙ ap cell m
            ]
      ]

  pub least-is : (chosen : ℕ → Bool) (key : ℕ → ℕ) (k n : ℕ) → n ≡ length group.rows →
      shown_code column (length (positions (present_in column chosen) key k n)) (least_at column (positions (present_in column chosen) key k n))
      ≡ least_of (present place (rows_at group (positions chosen key k n)))
  least-is chosen key k n all =
      picked column lesser min (λ a b good other. (omega (arith, good.0, other.0), omega (arith, good.1, other.1))) lesser_is column.last (λ a good. omega (arith, good.1)) (λ v. refl)
      (positions (present_in column chosen) key k n) (good_below group place column chosen key k n is (omega (arith, all)))
      ∙ ap least_of (sym (present-is group place column chosen key k n is all))

  pub greatest-is : (chosen : ℕ → Bool) (key : ℕ → ℕ) (k n : ℕ) → n ≡ length group.rows →
      shown_code column (length (positions (present_in column chosen) key k n)) (greatest_at column (positions (present_in column chosen) key k n))
      ≡ greatest_of (present place (rows_at group (positions chosen key k n)))
  greatest-is chosen key k n all =
      picked column greater max (λ a b good other. (omega (arith, good.0, other.0), omega (arith, good.1, other.1))) greater_is 0 (λ a good. omega arith) (λ v. refl)
      (positions (present_in column chosen) key k n) (good_below group place column chosen key k n is (omega (arith, all)))
      ∙ ap greatest_of (sym (present-is group place column chosen key k n is all))
