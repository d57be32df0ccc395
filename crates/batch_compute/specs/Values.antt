-- The values of an expression over numbers, place by place.
use Rattle.std.specs.Prelude.{◌≡◌, ℕ, ◌<◌, ℤ, pos, List, [], ◌∷◌, length, slice_index_or, Ok}
use Rattle.cs_types.specs.declared.Column.{Column}
use Rattle.cs_types.specs.declared.Loose.TheVariants.{Number}
use Rattle.cs_types.specs.declared.Value.TheVariants as cells
use Rattle.cs_model.specs.declared.expr.Expr.{Expr}
use Rattle.cs_model.specs.Answers.{kept}
use Rattle.cs_model.specs.Expressions.{Computed, compute}
use Rattle.cs_model.specs.Series.{series_schema}

-- the number at a place, 0 past the last
abbrev pub at : List ℤ → ℕ → ℤ
at numbers k = slice_index_or numbers k (pos 0)

-- the value of an expression over a number of a series, or its refusal
abbrev pub over : ℤ → Expr → Computed
over number expr = compute expr (cells.Number number ∷ []) series_schema

-- there are as many values as numbers, and what is computed over each number is the value at its place and no refusal
abbrev pub AreOver : (ℤ → Computed) → List ℤ → List ℤ → Type 0
AreOver computed numbers values = (length values ≡ length numbers) × ((k : ℕ) → k < length numbers → computed (at numbers k) ≡ Ok (Number (at values k) 0))

-- the same of two lists of numbers: over those of one place the value there, and past the end of the second list over 0
abbrev pub AreOverBoth : (ℤ → ℤ → Computed) → List ℤ → List ℤ → List ℤ → Type 0
AreOverBoth computed left right values = (length values ≡ length left) × ((k : ℕ) → k < length left → computed (at left k) (at right k) ≡ Ok (Number (at values k) 0))

-- there are as many cells as numbers, and what a column keeps of each number is the one at its place: no NULL, and no refusal
abbrev pub AreKept : Column → List ℤ → List ℤ → Type 0
AreKept column numbers kept_ones = (length kept_ones ≡ length numbers) × ((k : ℕ) → k < length numbers → kept column (Ok (Number (at numbers k) 0)) ≡ Ok (cells.Number (at kept_ones k)))
