-- The two parts of a column's cells: bare numbers, and values from the first text on.
use Rattle.std.proofs.Common.{◌≡◌, ℕ, ℤ, ◌+◌, ◌-◌, ◌<◌, ◌≤◌, inl, inr, List, ◌++◌, length, map, take, sym, ◌∙◌, ap, arith, Option, Some}
use Rattle.std.specs.List.{slice_get}
use Rattle.std.proofs.lemmas.Bool.{cases_lt}
use Rattle.std.proofs.Math.Seq.{take-append-add}
use Rattle.std.proofs.lemmas.List.{append-nil, get_or_append_left, get_or-append_right, get_or-map, get_or_past, length-map, take_all, take-map, take-append-le}
use Rattle.std.proofs.lemmas.Option.{slice_get_within, get_or_from_slice_get}
use Rattle.cs_types.specs.declared.Value.{Value}
use Rattle.cs_types.specs.declared.Value.TheVariants.{Null}
use Rattle.cs_types.specs.Rows.{cell_at, number_cell}
use Rattle.row_group.proofs.ShownLemmas.{cell_at-get_or}

-- the first cells of both parts together
pub take-parts : (count : ℕ) (numbers : List (Option ℤ)) (values : List Value) → map number_cell (take count numbers) ++ take (count - length numbers) values ≡ take count (map number_cell numbers ++ values)
take-parts count numbers values = elim (cases_lt count (length numbers)) [
  | inl less ↦
      let none : count - length numbers ≡ 0 = omega arith in
      ap (λ k. map number_cell (take count numbers) ++ take k values) none ∙ append-nil (map number_cell (take count numbers))
      ∙ sym (take-map number_cell count numbers) ∙ sym (take-append-le count (map number_cell numbers) values (omega (arith, less, length-map numbers number_cell)))
  | inr more ↦
      let whole : length (map number_cell numbers) + (count - length numbers) ≡ count = omega (arith, more, length-map numbers number_cell) in
      ap (λ ns. map number_cell ns ++ take (count - length numbers) values) (take_all count numbers more)
      ∙ sym (take-append-add (map number_cell numbers) values (count - length numbers)) ∙ ap (λ k. take k (map number_cell numbers ++ values)) whole
]

-- a cell of the first part
pub cell-number : (numbers : List (Option ℤ)) (place : ℕ) (number : Option ℤ) → slice_get numbers place ≡ Some number → number_cell number ≡ cell_at (map number_cell numbers) place
cell-number numbers place number e =
    sym (ap number_cell (get_or_from_slice_get numbers place number number e))
    ∙ sym (get_or-map number_cell numbers place number Null (slice_get_within numbers place number e)) ∙ sym (cell_at-get_or (map number_cell numbers) place)

pub cell-before : (numbers : List (Option ℤ)) (values : List Value) (place : ℕ) → place < length numbers → cell_at (map number_cell numbers ++ values) place ≡ cell_at (map number_cell numbers) place
cell-before numbers values place l =
    cell_at-get_or (map number_cell numbers ++ values) place
    ∙ get_or_append_left (map number_cell numbers) values Null place (omega (arith, l, length-map numbers number_cell)) ∙ sym (cell_at-get_or (map number_cell numbers) place)

-- a cell of the second
pub cell-behind : (numbers : List (Option ℤ)) (values : List Value) (place : ℕ) → length numbers ≤ place → cell_at (map number_cell numbers ++ values) place ≡ cell_at values (place - length numbers)
cell-behind numbers values place l =
    cell_at-get_or (map number_cell numbers ++ values) place
    ∙ get_or-append_right (map number_cell numbers) values (length numbers) place Null (length-map numbers number_cell) l ∙ sym (cell_at-get_or values (place - length numbers))

pub cell-past : (numbers : List (Option ℤ)) (place : ℕ) → length numbers ≤ place → Null ≡ cell_at (map number_cell numbers) place
cell-past numbers place l =
    sym (cell_at-get_or (map number_cell numbers) place ∙ get_or_past (map number_cell numbers) place Null (omega (arith, l, length-map numbers number_cell)))
