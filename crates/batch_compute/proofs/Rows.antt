-- The rows that columns over a series are of.
use Rattle.std.proofs.Common.{◌≡◌, ℕ, ℤ, zero, suc, ◌+◌, ◌<◌, List, [], ◌∷◌, ◌++◌, length, map, take, get_or, All, refl, sym, ap, subst, ◌∙◌, add-one, arith}
use Rattle.std.specs.Prelude.{Result, Ok, Option, None, Some, slice_get, unwrap_or}
use Rattle.std.specs.declared.alloc.Global.{Global}
use Rattle.std.specs.declared.vec.Vec.{Vec}
use Rattle.std.specs.List.{range_with_len}
use Rattle.std.specs.Option.{option_map}
use Rattle.std.proofs.lemmas.List.{get_or-map, length-map}
use Rattle.std.proofs.lemmas.List.Elements.{All-map}
use Rattle.std.proofs.lemmas.List.FromFn.{fill_by_all}
use Rattle.std.proofs.lemmas.Option.{slice_get-map}
use Rattle.std.proofs.lemmas.Simd.{map-map}
use Rattle.cs_types.specs.declared.Column.{Column}
use Rattle.cs_types.specs.declared.Value.{Value}
use Rattle.cs_types.specs.declared.Value.TheVariants.{Null}
use Rattle.cs_types.specs.Rows.{cell_at, number_cell}
use Rattle.cs_model.specs.declared.expr.Expr.{Expr}
use Rattle.cs_model.specs.Answers.{cell_onto, cells_from, given, row_onto, rows_from}
use Rattle.batch_compute.specs.Columns.{kept_over, KeepsOver, GivesColumns}

-- ---- cells and rows, place by place

-- what is kept over the number at a place is the cell there
kept_at : (kept : ℤ → Result Value ℕ) (numbers : List ℤ) (cells : List (Option ℤ)) (i : ℕ) (number : ℤ) → map kept numbers ≡ map (λ cell. Ok (number_cell cell)) cells
    → i < length numbers → number ≡ get_or numbers i number → kept number ≡ Ok (number_cell (get_or cells i None))
kept_at kept numbers cells i number are within is =
    let long : length numbers ≡ length cells = sym (length-map numbers kept) ∙ ap length are ∙ length-map cells (λ cell. Ok (number_cell cell)) in
    ap kept is ∙ sym (get_or-map kept numbers i number (Ok Null) within) ∙ ap (λ xs. get_or xs i (Ok Null)) are
    ∙ get_or-map (λ cell. Ok (number_cell cell)) cells i None (Ok Null) (omega (arith, within, long))

-- rows that are one function of the number at a place, and another of the place
rows_by_place : (row : ℤ → Result (List Value) (ℕ × ℕ)) (at : ℕ → List Value) (n first : ℕ) (numbers : List ℤ)
    → ((i : ℕ) (number : ℤ) → i < length numbers → number ≡ get_or numbers i number → (j : ℕ) → j ≡ first + i → row number ≡ Ok (at j))
    → rows_from row n numbers ≡ Ok (map at (range_with_len first (length numbers)))
rows_by_place row at n first [] each = refl
rows_by_place row at n first (number ∷ rest) each =
    ap (λ one. row_onto n one (rows_from row (n + 1) rest)) (each 0 number (omega arith) refl first (omega arith))
    ∙ ap (row_onto n (Ok (at first)))
    (rows_by_place row at (n + 1) (first + 1) rest (λ i other within is j e. each (suc i) other (omega (arith, within)) is j (omega (arith, e))))

-- ---- columns that are made one by one

module _ (columns : List ℕ) (exprs : List Expr) (numbers : List ℤ) where
  -- each column of the list, of which the first one has the number j, keeps the cells that are made of it
  abbrev pub AreMade : ℕ → List Column → List (Vec (Option ℤ) Global) → Type 0
  AreMade j [] [] = Unit {0}
  AreMade j [] (cells ∷ more) = ⊥
  AreMade j (column ∷ rest) [] = ⊥
  AreMade j (column ∷ rest) (cells ∷ more) = KeepsOver column (given columns exprs j) numbers cells.items × AreMade (j + 1) rest more

  made_onto : (j : ℕ) (list : List Column) (made : List (Vec (Option ℤ) Global)) (k : ℕ) (column : Column) (cells : Vec (Option ℤ) Global) → k < length list → column ≡ get_or list k column
      → KeepsOver column (given columns exprs (j + k)) numbers cells.items → AreMade j (take k list) made → AreMade j (take (suc k) list) (made ++ cells ∷ [])
  made_onto j [] made k column cells within is keeps are = absurd (omega (arith, within))
  made_onto j (one ∷ rest) [] zero column cells within is keeps are =
      let here : j + 0 ≡ j = omega arith in
      (subst (λ c. KeepsOver c (given columns exprs j) numbers cells.items) is (subst (λ n. KeepsOver column (given columns exprs n) numbers cells.items) here keeps), tt)
  made_onto j (one ∷ rest) (first ∷ made) zero column cells within is keeps are = absurd are
  made_onto j (one ∷ rest) [] (suc k) column cells within is keeps are = absurd are
  made_onto j (one ∷ rest) (first ∷ made) (suc k) column cells within is keeps are =
      let here : j + suc k ≡ j + 1 + k = omega arith in
      (are.0, made_onto (j + 1) rest made k column cells (omega (arith, within)) is (subst (λ n. KeepsOver column (given columns exprs n) numbers cells.items) here keeps) are.1)

  pub made_more : (list : List Column) (made : List (Vec (Option ℤ) Global)) (k : ℕ) (column : Column) (cells : Vec (Option ℤ) Global) → k < length list → column ≡ get_or list k column
      → KeepsOver column (given columns exprs k) numbers cells.items → AreMade 0 (take k list) made → AreMade 0 (take (k + 1) list) (made ++ cells ∷ [])
  made_more list made k column cells within is keeps are =
      let here : k ≡ 0 + k = omega arith in
      subst (λ n. AreMade 0 (take n list) (made ++ cells ∷ [])) (sym (add-one k))
      (made_onto 0 list made k column cells within is (subst (λ n. KeepsOver column (given columns exprs n) numbers cells.items) here keeps) are)

  made_many : (j : ℕ) (list : List Column) (made : List (Vec (Option ℤ) Global)) → AreMade j list made → length made ≡ length list
  made_many j [] [] are = refl
  made_many j [] (cells ∷ more) are = absurd are
  made_many j (column ∷ rest) [] are = absurd are
  made_many j (column ∷ rest) (cells ∷ more) are = ap suc (made_many (j + 1) rest more are.1)

  made_long : (j : ℕ) (list : List Column) (made : List (Vec (Option ℤ) Global)) (c : ℕ) (cells : Vec (Option ℤ) Global) → AreMade j list made → slice_get made c ≡ Some cells → length cells.items ≡ length numbers
  made_long j list [] c cells are is = absurd (cc)
  made_long j [] (first ∷ more) c cells are is = absurd are
  made_long j (column ∷ rest) (first ∷ more) zero cells are is =
      let same : first ≡ cells = cc in
      subst (λ (v : Vec (Option ℤ) Global). length v.items ≡ length numbers) same
      (sym (length-map first.items (λ cell. Ok (number_cell cell))) ∙ sym (ap length are.0) ∙ length-map numbers (kept_over column (given columns exprs j)))
  made_long j (column ∷ rest) (first ∷ more) (suc c) cells are is = made_long (j + 1) rest more c cells are.1 is

  -- the row of a place
  abbrev at_place : List (Vec (Option ℤ) Global) → ℕ → List Value
  at_place made i = map (λ (cells : Vec (Option ℤ) Global). number_cell (get_or cells.items i None)) made

  made_row : (j : ℕ) (list : List Column) (made : List (Vec (Option ℤ) Global)) (i : ℕ) (number : ℤ) → AreMade j list made → i < length numbers → number ≡ get_or numbers i number
      → cells_from (λ n column. kept_over column (given columns exprs n) number) j list ≡ Ok (at_place made i)
  made_row j [] [] i number are within is = refl
  made_row j [] (cells ∷ more) i number are within is = absurd are
  made_row j (column ∷ rest) [] i number are within is = absurd are
  made_row j (column ∷ rest) (cells ∷ more) i number are within is =
      ap (λ one. cell_onto j one (cells_from (λ n c. kept_over c (given columns exprs n) number) (j + 1) rest)) (kept_at (kept_over column (given columns exprs j)) numbers cells.items i number are.0 within is)
      ∙ ap (cell_onto j (Ok (number_cell (get_or cells.items i None)))) (made_row (j + 1) rest more i number are.1 within is)

  -- the cells of a column stand in it
  made_cells : (list : List Column) (made : List (Vec (Option ℤ) Global)) → AreMade 0 list made → (c : ℕ) (cells : Vec (Option ℤ) Global) → slice_get made c ≡ Some cells
      → map (λ row. cell_at row c) (map (at_place made) (range_with_len 0 (length numbers))) ≡ map number_cell cells.items
  made_cells list made are c cells is =
      let long = made_long 0 list made c cells are is in
      let cell = λ (i : ℕ) (v : Vec (Option ℤ) Global). number_cell (get_or v.items i None) in
      map-map (λ row. cell_at row c) (at_place made) (range_with_len 0 (length numbers))
      ∙ ap (λ (f : ℕ → Value). map f (range_with_len 0 (length numbers))) (λ k i. (ap (λ o. unwrap_or o Null) (slice_get-map (cell i) made c ∙ ap (option_map (cell i)) is)) k)
      ∙ sym (fill_by_all (λ i. number_cell (get_or cells.items i None)) (map number_cell cells.items) (length numbers) Null (length-map cells.items number_cell ∙ long)
      (λ k within. get_or-map number_cell cells.items k None Null (omega (arith, within, long))))

  wide_each : (made : List (Vec (Option ℤ) Global)) (width : ℕ) → length made ≡ width → (first n : ℕ) → All (λ row. length row ≡ width) (map (at_place made) (range_with_len first n))
  wide_each made width many first n =
      All-map (λ row. length row ≡ width) (at_place made) (range_with_len first n) (λ k i l. length-map made (λ (cells : Vec (Option ℤ) Global). number_cell (get_or cells.items (get_or (range_with_len first n) k i) None)) ∙ many)

  -- what is made of all columns is that of the rows
  pub made_whole : (list : List Column) (made : List (Vec (Option ℤ) Global)) → AreMade 0 list made
      → GivesColumns (length list) (rows_from (λ number. cells_from (λ n column. kept_over column (given columns exprs n) number) 0 list) 1 numbers) made
  made_whole list made are = (
    map (at_place made) (range_with_len 0 (length numbers)),
    rows_by_place (λ number. cells_from (λ n column. kept_over column (given columns exprs n) number) 0 list) (at_place made) 1 0 numbers
        (λ i number within is j e. let same : i ≡ j = omega (arith, e) in subst (λ k. cells_from (λ n column. kept_over column (given columns exprs n) number) 0 list ≡ Ok (at_place made k)) same (made_row 0 list made i number are within is)),
    record {
      many = made_many 0 list made are;
      wide = wide_each made (length list) (made_many 0 list made are) 0 (length numbers);
      cells = made_cells list made are;
    },
  )
