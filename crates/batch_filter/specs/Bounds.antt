-- What the least and the greatest of some cells tell of comparisons with a constant.
use Rattle.std.specs.Prelude.{◌≡◌, Bool, not, List}
use Rattle.std.specs.List.{list_all}
use Rattle.cs_types.specs.declared.Loose.{Loose}
use Rattle.cs_model.specs.declared.pred.Relation.TheVariants.{Less, LessEqual, Greater, GreaterEqual}
use Rattle.cs_model.specs.Truths.{compare, is_null}
use Rattle.cs_model.specs.Queries.{is_true}
use Rattle.cs_model.specs.Skips.{none_stands}

-- no cell is below a constant, or at most it, exactly where the least is not; no cell above it, or at least it, exactly
-- where the greatest is not. The flag says that a cell is NULL, and all are exactly where the least is
pub record AreBounds (cells : List Loose) (least greatest : Loose) (nulls : Bool) : Type 0 where
  pub below : (constant : Loose) → none_stands Less cells constant ≡ not (is_true (compare Less least constant))
  pub at_most : (constant : Loose) → none_stands LessEqual cells constant ≡ not (is_true (compare LessEqual least constant))
  pub above : (constant : Loose) → none_stands Greater cells constant ≡ not (is_true (compare Greater greatest constant))
  pub at_least : (constant : Loose) → none_stands GreaterEqual cells constant ≡ not (is_true (compare GreaterEqual greatest constant))
  pub none_null : list_all (λ cell. not (is_null cell)) cells ≡ not nulls
  pub all_null : list_all is_null cells ≡ is_null least
