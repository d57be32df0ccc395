-- Segment elimination: when the cells of a group's columns tell that a predicate keeps none of its rows. They tell it by their
-- least and greatest, and IS NULL and IS NOT NULL by whether a cell is NULL.
use Rattle.std.specs.Prelude.{ℕ, Bool, true, false, not, ◌&&◌, ◌||◌, List, map, slice_get}
use Rattle.std.specs.List.{list_all, list_any}
use Rattle.cs_types.specs.declared.Schema.{Schema}
use Rattle.cs_types.specs.declared.Value.{Value}
use Rattle.cs_types.specs.declared.Loose.{Loose}
use Rattle.cs_model.specs.declared.pred.Relation.{Relation}
use Rattle.cs_model.specs.declared.pred.Relation.TheVariants.{Equal, NotEqual, Less, LessEqual, Greater, GreaterEqual}
use Rattle.cs_model.specs.declared.pred.Operand.{Operand}
use Rattle.cs_model.specs.declared.pred.Operand.TheVariants.{Column, Constant}
use Rattle.cs_model.specs.declared.pred.Pred.{Pred}
use Rattle.cs_model.specs.declared.pred.Pred.TheOpen.{Pred-F}
use Rattle.cs_model.specs.declared.pred.Pred.TheFolds.{fold-Pred}
use Rattle.cs_model.specs.Cells.{loose_in}
use Rattle.cs_model.specs.Queries.{is_true}
use Rattle.cs_model.specs.Truths.{compare, is_null}

-- what the cells of a column stand for
abbrev pub loose_cells : Schema → (ℕ → List Value) → ℕ → List Loose
loose_cells schema cells i = map (loose_in (slice_get schema.columns i)) (cells i)

-- no cell stands so to the constant. A cell that is NULL stands so to none, and no cell to NULL
abbrev pub none_stands : Relation → List Loose → Loose → Bool
none_stands sign cells constant = list_all (λ cell. not (is_true (compare sign cell constant))) cells

-- a comparison of a column with a constant. `=` skips where all cells are above the constant, or all below it, and so not
-- where it is the least or the greatest cell, nor where it lies between them; `<`, `<=`, `>`, `>=` where no cell is below,
-- at most, above, at least the constant; `<>` where each cell is equal to it. A cell that is NULL stands in no one's way
abbrev pub skips_compare : Relation → List Loose → Loose → Bool
skips_compare Equal cells constant = none_stands LessEqual cells constant || none_stands GreaterEqual cells constant
skips_compare NotEqual cells constant = none_stands NotEqual cells constant
skips_compare Less cells constant = none_stands Less cells constant
skips_compare LessEqual cells constant = none_stands LessEqual cells constant
skips_compare Greater cells constant = none_stands Greater cells constant
skips_compare GreaterEqual cells constant = none_stands GreaterEqual cells constant

-- a sign between the two sides exchanged
abbrev pub turned : Relation → Relation
turned Equal = Equal
turned NotEqual = NotEqual
turned Less = Greater
turned LessEqual = GreaterEqual
turned Greater = Less
turned GreaterEqual = LessEqual

-- a constant on the left is turned round; a column with a column never skips, nor a constant with a constant
abbrev pub skips_operands : (ℕ → List Loose) → Operand → Relation → Operand → Bool
skips_operands cells (Column i) sign (Constant constant) = skips_compare sign (cells i) constant
skips_operands cells (Constant constant) sign (Column i) = skips_compare (turned sign) (cells i) constant
skips_operands cells (Column i) sign (Column j) = false
skips_operands cells (Constant a) sign (Constant b) = false

-- one of its two comparisons skips
abbrev pub skips_between : List Loose → Loose → Loose → Bool
skips_between cells low high = skips_compare GreaterEqual cells low || skips_compare LessEqual cells high

-- IS NULL skips where no cell is NULL, IS NOT NULL where all are
abbrev pub skips_null : Bool → List Loose → Bool
skips_null false cells = list_all (λ cell. not (is_null cell)) cells
skips_null true cells = list_all is_null cells

-- AND skips where one part does, OR where all do, IN where each of its equalities does. NOT before a condition never does, nor
-- NOT BETWEEN, NOT IN and LIKE; of the forms with NOT, IS NOT NULL alone does
abbrev pub skips_step : (ℕ → List Loose) → Pred-F Bool → Bool
skips_step cells (Pred-F.AnyOf parts) = list_all (λ part. part) parts
skips_step cells (Pred-F.AllOf parts) = list_any (λ part. part) parts
skips_step cells (Pred-F.Not part) = false
skips_step cells (Pred-F.Compare left sign right) = skips_operands cells left sign right
skips_step cells (Pred-F.Between i negated low high) = not negated && skips_between (cells i) low high
skips_step cells (Pred-F.Among i negated list) = not negated && list_all (skips_compare Equal (cells i)) list
skips_step cells (Pred-F.Like i negated pattern) = false
skips_step cells (Pred-F.IsNull i negated) = skips_null negated (cells i)

-- a group is skipped by a predicate: its cells are given by column. Where this is true, no row of the group is kept: the
-- law `skips_loses_no_row`
abbrev pub skips : Schema → Pred → (ℕ → List Value) → Bool
skips schema pred cells = fold-Pred Bool (skips_step (loose_cells schema cells)) pred
