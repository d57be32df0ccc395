-- The columns that a predicate names.
use Rattle.std.specs.Prelude.{ℕ, zero, suc, List, [], ◌∷◌, ◌++◌}
use Rattle.std.specs.List.{flat_map}
use Rattle.cs_types.specs.declared.Value.{Value}
use Rattle.cs_types.specs.declared.Value.TheVariants.{Null}
use Rattle.cs_model.specs.declared.pred.Operand.{Operand}
use Rattle.cs_model.specs.declared.pred.Operand.TheVariants.{Column, Constant}
use Rattle.cs_model.specs.declared.pred.Pred.{Pred}
use Rattle.cs_model.specs.declared.pred.Pred.TheOpen.{Pred-F}
use Rattle.cs_model.specs.declared.pred.Pred.TheFolds.{fold-Pred}

abbrev pub column_of_operand : Operand → List ℕ
column_of_operand (Column i) = i ∷ []
column_of_operand (Constant constant) = []

abbrev pub named_step : Pred-F (List ℕ) → List ℕ
named_step (Pred-F.AnyOf parts) = flat_map (λ part. part) parts
named_step (Pred-F.AllOf parts) = flat_map (λ part. part) parts
named_step (Pred-F.Not part) = part
named_step (Pred-F.Compare left sign right) = column_of_operand left ++ column_of_operand right
named_step (Pred-F.Between i negated low high) = i ∷ []
named_step (Pred-F.Among i negated list) = i ∷ []
named_step (Pred-F.Like i negated pattern) = i ∷ []
named_step (Pred-F.IsNull i negated) = i ∷ []

-- the numbers of the columns that a predicate names
abbrev pub named : Pred → List ℕ
named pred = fold-Pred (List ℕ) named_step pred

-- a row with a cell in this column, and NULL in each before it
abbrev pub lone_row : ℕ → Value → List Value
lone_row zero cell = cell ∷ []
lone_row (suc column) cell = Null ∷ lone_row column cell
