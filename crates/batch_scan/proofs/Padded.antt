-- A predicate says the same of a row in its own cells and in the table's.
use Rattle.std.proofs.Common.{◌≡◌, ℕ, List, length, refl, sym, ap}
use Rattle.std.specs.Prelude.{Option, None, Some, slice_get}
use Rattle.std.proofs.lemmas.Option.{slice_get_within}
use Rattle.cs_types.specs.declared.Column.{Column}
use Rattle.cs_types.specs.declared.Schema.{Schema}
use Rattle.cs_types.specs.declared.Value.{Value}
use Rattle.cs_types.specs.Rows.{cell_at, padded}
use Rattle.cs_types.proofs.PaddedLemmas.{padded_cell}
use Rattle.cs_model.specs.declared.pred.Operand.{Operand}
use Rattle.cs_model.specs.declared.pred.Operand.TheVariants as operand
use Rattle.cs_model.specs.declared.pred.Pred.{Pred}
use Rattle.cs_model.specs.declared.pred.Pred.TheOpen.{Pred-F}
use Rattle.cs_model.specs.declared.pred.Pred.TheFolds.{fold-Pred}
use Rattle.cs_model.specs.declared.truth.Truth.{Truth}
use Rattle.cs_model.specs.Cells.{loose_at, loose_in}
use Rattle.cs_model.specs.Queries.{is_true, keeps}
use Rattle.cs_model.specs.Truths.{truth, truth_step, operand_of, compare, not_if, between, among, like, truth_if, is_null}

module _ (schema : Schema) where
  abbrev width : ℕ
  width = length schema.columns

  at_column : (row : List Value) (i : ℕ) (column : Option Column) → slice_get schema.columns i ≡ column → loose_in column (cell_at row i) ≡ loose_in column (cell_at (padded width row) i)
  at_column row i None is = refl
  at_column row i (Some column) is =
      let within = slice_get_within schema.columns i column is in
      ap (loose_in (Some column)) (sym (padded_cell width row i within))

  -- in each column a row stands for the same in the table's cells
  pub one_loose : (row : List Value) (i : ℕ) → loose_at schema row i ≡ loose_at schema (padded width row) i
  one_loose row i = at_column row i (slice_get schema.columns i) refl

  -- where two rows stand for the same in each column, a node of a predicate is judged alike
  module _ (row other : List Value) (same : (i : ℕ) → loose_at schema row i ≡ loose_at schema other i) where
    one_operand : (o : Operand) → operand_of schema row o ≡ operand_of schema other o
    one_operand (operand.Column i) = same i
    one_operand (operand.Constant constant) = refl

    one_step : (x : Pred-F Truth) → truth_step schema row x ≡ truth_step schema other x
    one_step (Pred-F.AnyOf parts) = refl
    one_step (Pred-F.AllOf parts) = refl
    one_step (Pred-F.Not part) = refl
    one_step (Pred-F.Compare left sign right) = λ k. compare sign (one_operand left k) (one_operand right k)
    one_step (Pred-F.Between i negated low high) = ap (λ cell. not_if negated (between low high cell)) (same i)
    one_step (Pred-F.Among i negated list) = ap (λ cell. not_if negated (among cell list)) (same i)
    one_step (Pred-F.Like i negated pattern) = ap (λ cell. not_if negated (like pattern cell)) (same i)
    one_step (Pred-F.IsNull i negated) = ap (λ cell. not_if negated (truth_if (is_null cell))) (same i)

    one_truth : (pred : Pred) → truth pred row schema ≡ truth pred other schema
    one_truth pred = ap (λ (step : Pred-F Truth → Truth). fold-Pred Truth step pred) (λ k x. one_step x k)

  -- a condition keeps a row exactly where it keeps it in the table's cells
  pub keeps_padded : (condition : Option Pred) (row : List Value) → keeps schema condition row ≡ keeps schema condition (padded width row)
  keeps_padded None row = refl
  keeps_padded (Some pred) row = ap is_true (one_truth row (padded width row) (one_loose row) pred)
