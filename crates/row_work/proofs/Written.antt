-- Cells and rows that are written one by one.
use Rattle.std.proofs.Common.{◌≡◌, ◌≢◌, ℕ, ℤ, pos, ◌+ℤ◌, ◌==◌, zero, suc, ◌+◌, ◌<◌, ◌≤◌, List, [], ◌∷◌, ◌++◌, length, drop, get_or, refl, sym, ap, subst, ◌∙◌, append_assoc, arith, cond, Bool, true, false, IsTrue, All}
use Rattle.std.specs.Prelude.{Result, Ok, Err, Some, None, Option, slice_get}
use Rattle.std.specs.List.{AllByRecursion, find}
use Rattle.std.proofs.lemmas.Bool.Decides.{nat_tests}
use Rattle.std.proofs.lemmas.List.Elements.{All-nil, All-cons, All-head, All-tail}
use Rattle.std.proofs.lemmas.List.{drop_more, drop_all, append-nil}
use Rattle.std.proofs.lemmas.List.FromFn.{length-map-range_with_len, get_or-map-range_with_len}
use Rattle.cs_types.specs.declared.Column.{Column}
use Rattle.cs_types.specs.declared.Key.{Key}
use Rattle.cs_types.specs.declared.Schema.{Schema}
use Rattle.cs_types.specs.declared.Value.{Value}
use Rattle.cs_types.specs.declared.Value.TheVariants.{Null, Number, Text}
use Rattle.cs_types.specs.declared.Loose.TheVariants as loose
use Rattle.cs_types.specs.declared.refusal.ValueRefusal.{ValueRefusal}
use Rattle.cs_types.specs.declared.refusal.ValueRefusal.TheVariants.{NullHere, TooLong, Overflow}
use Rattle.cs_types.specs.Fit.{rounded, range_refusal}
use Rattle.cs_types.specs.Kinds.{scale_of, is_short, keeps}
use Rattle.cs_types.specs.Rows.{cell_at, number_in, key_in}
use Rattle.cs_types.specs.Schemas.{IsSchema, IsRowOf, may_hold}
use Rattle.cs_model.specs.declared.expr.Expr.{Expr}
use Rattle.cs_model.specs.declared.entry.Refusal.{Refusal}
use Rattle.cs_model.specs.declared.entry.Refusal.TheVariants.{Valued}
use Rattle.cs_model.specs.Expressions.{Computed, compute}
use Rattle.cs_model.specs.Answers.{with_number, kept, computed_of, given, cell_onto, cells_from, row_onto, rows_from, inserted_cell, series_len, series, updated_by, updated_cell, updated_row}
use Rattle.row_work.specs.declared.refusal.WriteRefusal.{WriteRefusal}
use Rattle.row_work.specs.declared.refusal.WriteRefusal.TheVariants as refusal
use Rattle.cs_model.specs.Held.{IsRowAt}
use Rattle.row_work.specs.Gives.{RefusesCell, RefusesRow, RefusesRows}

-- what stands after a prefix, or its refusal
abbrev pub behind : {X E : Type 0} → List X → Result (List X) E → Result (List X) E
behind front (Ok rest) = Ok (front ++ rest)
behind front (Err e) = Err e

-- ---- cells

behind_cell : (i : ℕ) (cells : List Value) (v : Value) (rest : Result (List Value) (ℕ × ℕ)) → behind (cells ++ v ∷ []) rest ≡ behind cells (cell_onto i (Ok v) rest)
behind_cell i cells v (Ok more) = ap Ok (append_assoc cells (v ∷ []) more)
behind_cell i cells v (Err e) = refl

module _ (cell : ℕ → Column → Result Value ℕ) (columns : List Column) where
  abbrev pub all_cells : Result (List Value) (ℕ × ℕ)
  all_cells = cells_from cell 0 columns

  -- the cells so far, and those of the columns after them
  abbrev pub with_rest : List Value → ℕ → Result (List Value) (ℕ × ℕ)
  with_rest cells i = behind cells (cells_from cell i (drop i columns))

  at_column : (i : ℕ) (column : Column) (k : Result Value ℕ) → i < length columns → column ≡ get_or columns i column → cell i column ≡ k
      → cells_from cell i (drop i columns) ≡ cell_onto i k (cells_from cell (i + 1) (drop (i + 1) columns))
  at_column i column k within is e =
      ap (cells_from cell i) (drop_more columns i column within ∙ ap (λ x. x ∷ drop (i + 1) columns) (sym is))
      ∙ ap (λ x. cell_onto i x (cells_from cell (i + 1) (drop (i + 1) columns))) e

  pub cells_more : (cells new : List Value) (i : ℕ) (column : Column) (v : Value) → i < length columns → column ≡ get_or columns i column → cell i column ≡ Ok v
      → new ≡ cells ++ v ∷ [] → with_rest cells i ≡ all_cells → with_rest new (i + 1) ≡ all_cells
  cells_more cells new i column v within is e pushed before =
      ap (λ front. with_rest front (i + 1)) pushed
      ∙ behind_cell i cells v (cells_from cell (i + 1) (drop (i + 1) columns))
      ∙ ap (behind cells) (sym (at_column i column (Ok v) within is e)) ∙ before

  pub cells_refused : (row : ℕ) (cells : List Value) (i : ℕ) (column : Column) (e : WriteRefusal) → i < length columns → column ≡ get_or columns i column
      → RefusesCell row i (cell i column) e → with_rest cells i ≡ all_cells → RefusesRow row all_cells e
  cells_refused row cells i column (refusal.Value number r c) within is h before =
      (sym before ∙ ap (behind cells) (at_column i column (Err number) within is h.0) ∙ ap (λ k. Err (number, k)) (sym h.2), h.1)
  cells_refused row cells i column refusal.Memory within is h before = tt

  pub cells_done : (cells : List Value) (i : ℕ) → length columns ≤ i → with_rest cells i ≡ all_cells → all_cells ≡ Ok cells
  cells_done cells i end before = sym before ∙ ap (λ rest. behind cells (cells_from cell i rest)) (drop_all i columns end) ∙ ap Ok (append-nil cells)

-- ---- rows

pub behind_row : {Y : Type 0} (n : ℕ) (rows : List Y) (row : Y) (rest : Result (List Y) Refusal) → behind (rows ++ row ∷ []) rest ≡ behind rows (row_onto n (Ok row) rest)
behind_row n rows row (Ok more) = ap Ok (append_assoc rows (row ∷ []) more)
behind_row n rows row (Err e) = refl

module _ {X Y : Type 0} (row_of : X → Result Y (ℕ × ℕ)) (plan : List X) where
  abbrev pub all_rows : Result (List Y) Refusal
  all_rows = rows_from row_of 1 plan

  abbrev pub rows_with : List Y → ℕ → Result (List Y) Refusal
  rows_with rows i = behind rows (rows_from row_of (i + 1) (drop i plan))

  at_row : (i : ℕ) (x : X) (k : Result Y (ℕ × ℕ)) → i < length plan → x ≡ get_or plan i x → row_of x ≡ k
      → rows_from row_of (i + 1) (drop i plan) ≡ row_onto (i + 1) k (rows_from row_of (i + 1 + 1) (drop (i + 1) plan))
  at_row i x k within is e =
      ap (rows_from row_of (i + 1)) (drop_more plan i x within ∙ ap (λ y. y ∷ drop (i + 1) plan) (sym is))
      ∙ ap (λ y. row_onto (i + 1) y (rows_from row_of (i + 1 + 1) (drop (i + 1) plan))) e

  pub rows_more : (rows new : List Y) (i : ℕ) (x : X) (row : Y) → i < length plan → x ≡ get_or plan i x
      → row_of x ≡ Ok row → new ≡ rows ++ row ∷ [] → rows_with rows i ≡ all_rows → rows_with new (i + 1) ≡ all_rows
  rows_more rows new i x row within is e pushed before =
      ap (λ front. rows_with front (i + 1)) pushed
      ∙ behind_row (i + 1) rows row (rows_from row_of (i + 1 + 1) (drop (i + 1) plan))
      ∙ ap (behind rows) (sym (at_row i x (Ok row) within is e)) ∙ before

  pub rows_refused : (rows : List Y) (i : ℕ) (x : X) (e : WriteRefusal) → i < length plan → x ≡ get_or plan i x
      → RefusesRow (i + 1) (row_of x) e → rows_with rows i ≡ all_rows → RefusesRows all_rows e
  rows_refused rows i x (refusal.Value number row c) within is h before =
      sym before ∙ ap (behind rows) (at_row i x (Err (number, c)) within is h.0) ∙ ap (λ n. Err (Valued number n c)) (sym h.1)
  rows_refused rows i x refusal.Memory within is h before = tt

  pub rows_done : (rows : List Y) (i : ℕ) → length plan ≤ i → rows_with rows i ≡ all_rows → all_rows ≡ Ok rows
  rows_done rows i end before = sym before ∙ ap (λ rest. behind rows (rows_from row_of (i + 1) rest)) (drop_all i plan end) ∙ ap Ok (append-nil rows)

-- ---- columns hold what they keep

kept_when : (column : Column) (b : Bool) (w v : Value) (e : ValueRefusal) → (IsTrue b → IsTrue (may_hold column w)) → with_number (cond b (Ok w) (Err e)) ≡ Ok v → IsTrue (may_hold column v)
kept_when column true w v e h is = let same : w ≡ v = cc in subst (λ x. IsTrue (may_hold column x)) same (h refl)
kept_when column false w v e h is = absurd (cc)

kept_holds : (column : Column) (x : Computed) (v : Value) → kept column x ≡ Ok v → IsTrue (may_hold column v)
kept_holds column (Err e) v is = absurd (cc)
kept_holds column (Ok loose.Null) v is = kept_when column column.nullable Null v NullHere (λ h. h) is
kept_holds column (Ok (loose.Number m s)) v is = kept_when column (keeps column.kind (Number (rounded m s (scale_of column.kind)))) (Number (rounded m s (scale_of column.kind))) v (range_refusal column.kind) (λ h. h) is
kept_holds column (Ok (loose.Text t)) v is = kept_when column (is_short column.kind t) (Text t) v TooLong (λ h. h) is
kept_holds column (Ok (loose.Day d)) v is = kept_when column (keeps column.kind (Number d)) (Number d) v Overflow (λ h. h) is

abbrev Holds : List Column → List Value → Type 0
Holds list cells = (k : ℕ) (column : Column) → slice_get list k ≡ Some column → IsTrue (may_hold column (cell_at cells k))

onto_held : (i : ℕ) (c : Column) (list : List Column) (k : Result Value ℕ) (rest : Result (List Value) (ℕ × ℕ)) (cells : List Value) → ((v : Value) → k ≡ Ok v → IsTrue (may_hold c v))
    → ((more : List Value) → rest ≡ Ok more → Holds list more) → cell_onto i k rest ≡ Ok cells → Holds (c ∷ list) cells
onto_held i c list (Err number) rest cells one all is = absurd (cc)
onto_held i c list (Ok v) (Err e) cells one all is = absurd (cc)
onto_held i c list (Ok v) (Ok more) cells one all is = let same : v ∷ more ≡ cells = cc in subst (Holds (c ∷ list)) same both
  where
    both : Holds (c ∷ list) (v ∷ more)
    both zero column e = let here : c ≡ column = cc in subst (λ x. IsTrue (may_hold x v)) here (one v refl)
    both (suc k) column e = all more refl k column e

-- each column of the list holds what is written to it
abbrev CellsHeld : (ℕ → Column → Result Value ℕ) → ℕ → List Column → Type 0
CellsHeld cell i list = (k : ℕ) (column : Column) → slice_get list k ≡ Some column → (j : ℕ) → j ≡ i + k → (v : Value) → cell j column ≡ Ok v → IsTrue (may_hold column v)

cells_held : (cell : ℕ → Column → Result Value ℕ) (i : ℕ) (list : List Column) (cells : List Value) → CellsHeld cell i list → cells_from cell i list ≡ Ok cells → Holds list cells
cells_held cell i [] cells all is = λ k column e. absurd (cc)
cells_held cell i (c ∷ list) cells all is =
    onto_held i c list (cell i c) (cells_from cell (i + 1) list) cells (all 0 c refl i (omega arith))
    (λ more. cells_held cell (i + 1) list more (λ k column e j at. all (suc k) column e j (omega (arith, at)))) is

-- ---- as many cells as columns

onto_wide : (i n : ℕ) (k : Result Value ℕ) (rest : Result (List Value) (ℕ × ℕ)) (cells : List Value) → ((more : List Value) → rest ≡ Ok more → length more ≡ n) → cell_onto i k rest ≡ Ok cells → length cells ≡ suc n
onto_wide i n (Err number) rest cells wide is = absurd (cc)
onto_wide i n (Ok v) (Err e) cells wide is = absurd (cc)
onto_wide i n (Ok v) (Ok more) cells wide is = let same : v ∷ more ≡ cells = cc in sym (ap length same) ∙ ap suc (wide more refl)

pub cells_wide : (cell : ℕ → Column → Result Value ℕ) (i : ℕ) (list : List Column) (cells : List Value) → cells_from cell i list ≡ Ok cells → length cells ≡ length list
cells_wide cell i [] cells is = let same : [] ≡ cells = cc in sym (ap length same)
cells_wide cell i (c ∷ list) cells is = onto_wide i (length list) (cell i c) (cells_from cell (i + 1) list) cells (λ more. cells_wide cell (i + 1) list more) is

-- ---- rows of the table under their keys

-- a row whose columns hold what is written to them fits
written_fits : (schema : Schema) (cell : ℕ → Column → Result Value ℕ) (cells : List Value) → CellsHeld cell 0 schema.columns → cells_from cell 0 schema.columns ≡ Ok cells → IsRowOf schema cells
written_fits schema cell cells all is = record {
  short = (let wide = cells_wide cell 0 schema.columns cells is in omega (arith, wide));
  held = cells_held cell 0 schema.columns cells all is;
}

set_held : (schema : Schema) (row : List Value) (k : ℕ) (column : Column) (set : Option (ℕ × Expr)) (v : Value) → IsTrue (may_hold column (cell_at row k)) → updated_by schema row k column set ≡ Ok v → IsTrue (may_hold column v)
set_held schema row k column None v was is = let same : cell_at row k ≡ v = cc in subst (λ x. IsTrue (may_hold column x)) same was
set_held schema row k column (Some set) v was is = kept_holds column (compute set.1 row schema) v is

pub inserted_is_row : (schema source : Schema) (columns : List ℕ) (read : List Value) (exprs : List Expr) (cells : List Value)
    → cells_from (inserted_cell source read columns exprs) 0 schema.columns ≡ Ok cells → IsRowAt schema (key_in schema.key cells) cells
inserted_is_row schema source columns read exprs cells is = record {
  row = written_fits schema (inserted_cell source read columns exprs) cells (λ k column e j at v. kept_holds column (computed_of source read (given columns exprs j)) v) is;
  under = refl;
}

updated_fits : (schema : Schema) (sets : List (ℕ × Expr)) (row cells : List Value) → IsRowOf schema row → updated_row schema sets row ≡ Ok cells → IsRowOf schema cells
updated_fits schema sets row cells fits is =
    written_fits schema (updated_cell schema sets row) cells
    (λ k column e j at v. set_held schema row j column (find (λ (set : ℕ × Expr). set.0 == j) sets) v
    (let same : k ≡ j = omega (arith, at) in subst (λ n. IsTrue (may_hold column (cell_at row n))) same (fits.held k column e))) is

-- the cell that is written at a place
abbrev IsWritten : (ℕ → Column → Result Value ℕ) → ℕ → ℕ → List Value → Type 0
IsWritten cell k j cells = (column : Column) × (cell j column ≡ Ok (cell_at cells k))

onto_written : (i : ℕ) (x : Result Value ℕ) (rest : Result (List Value) (ℕ × ℕ)) (cells : List Value) → cell_onto i x rest ≡ Ok cells → (v : Value) × (more : List Value) × (x ≡ Ok v) × (rest ≡ Ok more) × (v ∷ more ≡ cells)
onto_written i (Err number) rest cells is = absurd (cc)
onto_written i (Ok v) (Err e) cells is = absurd (cc)
onto_written i (Ok v) (Ok more) cells is = (v, more, refl, refl, cc)

cell_written : (cell : ℕ → Column → Result Value ℕ) (i : ℕ) (list : List Column) (cells : List Value) (k j : ℕ) → k < length list → j ≡ i + k → cells_from cell i list ≡ Ok cells → IsWritten cell k j cells
cell_written cell i [] cells k j within at is = absurd (omega arith)
cell_written cell i (c ∷ list) cells zero j within at is =
    let parts = onto_written i (cell i c) (cells_from cell (i + 1) list) cells is in
    let here : i ≡ j = omega (arith, at) in
    (c, subst (λ n. cell n c ≡ Ok (cell_at cells 0)) here (parts.2 ∙ ap (λ row. Ok (cell_at row 0)) parts.4))
cell_written cell i (c ∷ list) cells (suc k) j within at is =
    let parts = onto_written i (cell i c) (cells_from cell (i + 1) list) cells is in
    let rest = cell_written cell (i + 1) list parts.1 k j (omega (arith, within)) (omega (arith, at)) parts.3 in
    (rest.0, rest.1 ∙ ap (λ row. Ok (cell_at row (suc k))) parts.4)

-- no set is of this column
none_sets : (sets : List (ℕ × Expr)) (i : ℕ) → All (λ (set : ℕ × Expr). set.0 ≢ i) sets → find (λ (set : ℕ × Expr). set.0 == i) sets ≡ None
none_sets [] i others = refl
none_sets (set ∷ sets) i others = at (set.0 == i) refl (none_sets sets i (All-tail (λ (s : ℕ × Expr). s.0 ≢ i) set sets others))
  where
    at : (t : Bool) → (set.0 == i) ≡ t → find (λ (s : ℕ × Expr). s.0 == i) sets ≡ None → cond t (Some set) (find (λ (s : ℕ × Expr). s.0 == i) sets) ≡ None
    at true e rest = let same : set.0 ≡ i = grind (arith, nat_tests, e) in absurd (All-head (λ (s : ℕ × Expr). s.0 ≢ i) set sets others same)
    at false e rest = rest

-- an UPDATE that sets no key leaves a row under its key
pub updated_row_at : (schema : Schema) (sets : List (ℕ × Expr)) (key : Key) (row cells : List Value) → IsSchema schema → All (λ (set : ℕ × Expr). set.0 ≢ schema.key) sets
    → IsRowAt schema key row → updated_row schema sets row ≡ Ok cells → IsRowAt schema key cells
updated_row_at schema sets key row cells is others at written =
    let there = cell_written (updated_cell schema sets row) 0 schema.columns cells schema.key schema.key is.key_there (omega arith) written in
    let stays : Ok (cell_at row schema.key) ≡ Ok (cell_at cells schema.key) = sym (ap (updated_by schema row schema.key there.0) (none_sets sets schema.key others)) ∙ there.1 in
    let same : cell_at cells schema.key ≡ cell_at row schema.key = cc in
    record {
      row = updated_fits schema sets row cells at.row written;
      under = ap (λ v. record { 0 = number_in v }) same ∙ at.under;
    }

rows_onto_all : {Y : Type 0} (P : Y → Type 0) (n : ℕ) (row : Result Y (ℕ × ℕ)) (rest : Result (List Y) Refusal) (rows : List Y) → ((y : Y) → row ≡ Ok y → P y) → ((more : List Y) → rest ≡ Ok more → All P more)
    → row_onto n row rest ≡ Ok rows → All P rows
rows_onto_all P n (Err e) rest rows one all is = absurd (cc)
rows_onto_all P n (Ok y) (Err e) rows one all is = absurd (cc)
rows_onto_all P n (Ok y) (Ok more) rows one all is = let same : y ∷ more ≡ rows = cc in subst (All P) same (All-cons P y more (one y refl) (all more refl))

-- what is written of elements that Q holds of
pub rows_each : {X Y : Type 0} (P : Y → Type 0) (Q : X → Type 0) (row_of : X → Result Y (ℕ × ℕ)) (n : ℕ) (plan : List X) (rows : List Y) → ((x : X) (y : Y) → Q x → row_of x ≡ Ok y → P y) → AllByRecursion Q plan
    → rows_from row_of n plan ≡ Ok rows → All P rows
rows_each P Q row_of n [] rows one all is = let same : [] ≡ rows = cc in subst (All P) same (All-nil P)
rows_each P Q row_of n (x ∷ rest) rows one all is =
    rows_onto_all P n (row_of x) (rows_from row_of (n + 1) rest) rows (λ y. one x y all.0) (λ more. rows_each P Q row_of (n + 1) rest more one all.1) is

-- all elements are such
pub each : {X : Type 0} (xs : List X) → AllByRecursion (λ _. Unit {0}) xs
each [] = tt
each (x ∷ xs) = (tt, each xs)

-- ---- rows over the numbers of a series

module _ {Y : Type 0} (row_of : ℤ → Result Y (ℕ × ℕ)) (start stop : ℤ) (count : ℕ) (is : count ≡ series_len start stop) where
  abbrev at : ℕ → ℤ
  at i = start +ℤ pos i

  numbers : length (series (start, stop)) ≡ count
  numbers = length-map-range_with_len at 0 (series_len start stop) ∙ sym is

  number_is : (i : ℕ) (x : ℤ) → i < count → x ≡ start +ℤ pos i → x ≡ get_or (series (start, stop)) i x
  number_is i x within e = let there : i < series_len start stop = omega (arith, within, is) in let same : 0 + i ≡ i = omega arith in
      e ∙ sym (get_or-map-range_with_len at 0 (series_len start stop) i i x there same)

  pub series_more : (rows new : List Y) (i : ℕ) (x : ℤ) (row : Y) → i < count → x ≡ start +ℤ pos i → row_of x ≡ Ok row → new ≡ rows ++ row ∷ []
      → rows_with row_of (series (start, stop)) rows i ≡ all_rows row_of (series (start, stop)) → rows_with row_of (series (start, stop)) new (i + 1) ≡ all_rows row_of (series (start, stop))
  series_more rows new i x row within e gives pushed before =
      let there : i < length (series (start, stop)) = omega (arith, within, numbers) in
      rows_more row_of (series (start, stop)) rows new i x row there (number_is i x within e) gives pushed before

  pub series_refused : (rows : List Y) (i : ℕ) (x : ℤ) (e : WriteRefusal) → i < count → x ≡ start +ℤ pos i → RefusesRow (i + 1) (row_of x) e
      → rows_with row_of (series (start, stop)) rows i ≡ all_rows row_of (series (start, stop)) → RefusesRows (all_rows row_of (series (start, stop))) e
  series_refused rows i x e within is_x h before =
      let there : i < length (series (start, stop)) = omega (arith, within, numbers) in
      rows_refused row_of (series (start, stop)) rows i x e there (number_is i x within is_x) h before

  pub series_done : (rows : List Y) (i : ℕ) → count ≤ i → rows_with row_of (series (start, stop)) rows i ≡ all_rows row_of (series (start, stop)) → all_rows row_of (series (start, stop)) ≡ Ok rows
  series_done rows i end before =
      let there : length (series (start, stop)) ≤ i = omega (arith, end, numbers) in
      rows_done row_of (series (start, stop)) rows i there before
