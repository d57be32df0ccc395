-- The columns of rows whose cells are numbers and NULLs.
use Rattle.std.specs.Prelude.{◌≡◌, ℕ, ℤ, List, [], ◌∷◌, length, map, slice_get, All, Option, Some, Result, Ok}
use Rattle.std.specs.declared.alloc.Global.{Global}
use Rattle.std.specs.declared.vec.Vec.{Vec}
use Rattle.cs_types.specs.declared.Column.{Column}
use Rattle.cs_types.specs.declared.Value.{Value}
use Rattle.cs_types.specs.declared.Value.TheVariants.{Number}
use Rattle.cs_types.specs.Rows.{cell_at, number_cell}
use Rattle.cs_model.specs.declared.entry.Refusal.{Refusal}
use Rattle.cs_model.specs.declared.expr.Expr.{Expr}
use Rattle.cs_model.specs.Answers.{computed_of, kept}
use Rattle.cs_model.specs.Series.{series_schema}

-- what a column keeps of what it is given over a number of a series, or why it keeps nothing
abbrev pub kept_over : Column → Option Expr → ℤ → Result Value ℕ
kept_over column expr number = kept column (computed_of series_schema (Number number ∷ []) expr)

-- a column keeps these cells over these numbers, one over each
abbrev pub KeepsOver : Column → Option Expr → List ℤ → List (Option ℤ) → Type 0
KeepsOver column expr numbers cells = map (kept_over column expr) numbers ≡ map (λ cell. Ok (number_cell cell)) cells

-- there are as many columns as each row has cells, and in each column stand the rows' cells of its number, in the order of the rows
pub record AreColumnsOf (width : ℕ) (rows : List (List Value)) (columns : List (Vec (Option ℤ) Global)) : Type 0 where
  pub many : length columns ≡ width
  pub wide : All (λ row. length row ≡ width) rows
  pub cells : (i : ℕ) (column : Vec (Option ℤ) Global) → slice_get columns i ≡ Some column → map (λ row. cell_at row i) rows ≡ map number_cell column.items

-- rows are written, no value of them is refused, and they have these columns
abbrev pub GivesColumns : ℕ → Result (List (List Value)) Refusal → List (Vec (Option ℤ) Global) → Type 0
GivesColumns width written columns = (rows : List (List Value)) × (written ≡ Ok rows) × AreColumnsOf width rows columns
