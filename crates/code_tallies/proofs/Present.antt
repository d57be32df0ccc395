-- The cells of a column that are not NULL, in the rows at some positions.
use Rattle.std.proofs.Common.{◌≡◌, ℕ, zero, suc, ◌≤◌, pos, ◌+ℤ◌, [], ◌∷◌, ◌++◌, Bool, true, false, not, ◌&&◌, nat_le, cond, length, map, filter, refl, sym, ◌∙◌, ap, arith, add-one}
use Rattle.std.specs.Prelude.{◌==◌}
use Rattle.std.specs.List.{range_with_len}
use Rattle.std.proofs.lemmas.List.{map-append, length-map}
use Rattle.std.proofs.lemmas.List.Folds.{fold-map}
use Rattle.cs_types.specs.declared.Value.{Value}
use Rattle.cs_types.specs.Rows.{cell_at, number_in}
use Rattle.cs_model.specs.Items.{is_null, present, sum_of}
use Rattle.answer_laws.proofs.Least.{present-append}
use Rattle.row_group.specs.Groups.{Group}
use Rattle.batch_kernels.proofs.OneMore.{filter-more}
use Rattle.code_tallies.specs.declared.column.Column.{Column}
use Rattle.code_tallies.specs.Shown.{cells_at, rows_at}
use Rattle.code_tallies.specs.Columns.{IsColumnOf, code_at, cell_there}
use Rattle.code_tallies.specs.Tables.{positions, present_in, sum_at}

one_kept : (v : Value) (b : Bool) → not (is_null v) ≡ b → filter (λ cell. not (is_null cell)) (v ∷ []) ≡ cond b (v ∷ []) []
one_kept v b e = ap (λ t. cond t (v ∷ []) []) e

one_present : (group : Group) (place : ℕ) (column : Column) (n : ℕ) (chosen there is_key : Bool) → cell_there column n ≡ cell_at (cells_at group n) place → not (is_null (cell_there column n)) ≡ there →
    present place (rows_at group (cond (chosen && is_key) (n ∷ []) [])) ≡ map (cell_there column) (cond ((chosen && there) && is_key) (n ∷ []) [])
one_present group place column n false there is_key same e = refl
one_present group place column n true false false same e = refl
one_present group place column n true true false same e = refl
one_present group place column n true false true same e = ap (λ v. filter (λ cell. not (is_null cell)) (v ∷ [])) (sym same) ∙ one_kept (cell_there column n) false e
one_present group place column n true true true same e = ap (λ v. filter (λ cell. not (is_null cell)) (v ∷ [])) (sym same) ∙ one_kept (cell_there column n) true e

present_below : (group : Group) (place : ℕ) (column : Column) (chosen : ℕ → Bool) (key : ℕ → ℕ) (k n : ℕ) → IsColumnOf group place column → n ≤ length group.rows →
    present place (rows_at group (positions chosen key k n)) ≡ map (cell_there column) (positions (present_in column chosen) key k n)
present_below group place column chosen key k zero is within = refl
present_below group place column chosen key k (suc n) is within =
    let P = λ (i : ℕ). chosen i && key i == k in
    let Q = λ (i : ℕ). present_in column chosen i && key i == k in
    let here : cell_there column n ≡ cell_at (cells_at group n) place = is.each n (omega arith) in
    let there : not (is_null (cell_there column n)) ≡ nat_le column.first (code_at column n) = is.present (code_at column n) (is.most n (omega arith)) in
    ap (λ m. present place (rows_at group (filter P (range_with_len 0 m)))) (sym (add-one n))
    ∙ ap (λ xs. present place (rows_at group xs)) (filter-more P n)
    ∙ ap (present place) (map-append (cells_at group) (filter P (range_with_len 0 n)) (cond (P n) (n ∷ []) []))
    ∙ present-append place (rows_at group (filter P (range_with_len 0 n))) (rows_at group (cond (P n) (n ∷ []) []))
    ∙ ap (λ xs. xs ++ present place (rows_at group (cond (P n) (n ∷ []) []))) (present_below group place column chosen key k n is (omega arith))
    ∙ ap (λ xs. map (cell_there column) (filter Q (range_with_len 0 n)) ++ xs) (one_present group place column n (chosen n) (nat_le column.first (code_at column n)) (key n == k) here there)
    ∙ sym (map-append (cell_there column) (filter Q (range_with_len 0 n)) (cond (Q n) (n ∷ []) []))
    ∙ ap (map (cell_there column)) (sym (filter-more Q n))
    ∙ ap (λ m. map (cell_there column) (filter Q (range_with_len 0 m))) (add-one n)

pub present-is : (group : Group) (place : ℕ) (column : Column) (chosen : ℕ → Bool) (key : ℕ → ℕ) (k n : ℕ) → IsColumnOf group place column → n ≡ length group.rows →
    present place (rows_at group (positions chosen key k n)) ≡ map (cell_there column) (positions (present_in column chosen) key k n)
present-is group place column chosen key k n is all = present_below group place column chosen key k n is (omega (arith, all))

pub count-is : (group : Group) (place : ℕ) (column : Column) (chosen : ℕ → Bool) (key : ℕ → ℕ) (k n : ℕ) → IsColumnOf group place column → n ≡ length group.rows →
    length (positions (present_in column chosen) key k n) ≡ length (present place (rows_at group (positions chosen key k n)))
count-is group place column chosen key k n is all =
    sym (ap length (present-is group place column chosen key k n is all) ∙ length-map (positions (present_in column chosen) key k n) (cell_there column))

pub sum-is : (group : Group) (place : ℕ) (column : Column) (chosen : ℕ → Bool) (key : ℕ → ℕ) (k n : ℕ) → IsColumnOf group place column → n ≡ length group.rows →
    sum_at column (positions (present_in column chosen) key k n) ≡ sum_of (present place (rows_at group (positions chosen key k n)))
sum-is group place column chosen key k n is all =
    sym (ap sum_of (present-is group place column chosen key k n is all)
    ∙ fold-map (λ sum cell. sum +ℤ number_in cell) (cell_there column) (pos 0) (positions (present_in column chosen) key k n))
