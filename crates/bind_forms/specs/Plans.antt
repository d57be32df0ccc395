-- What an INSERT, an UPDATE and a SELECT are bound to.
use Rattle.std.specs.Prelude.{ℕ, List, [], ◌∷◌, map, Bool, ◌||◌, Option, None, Some}
use Rattle.std.specs.List.{zip}
use Rattle.std.specs.Option.{is_some}
use Rattle.cs_types.specs.declared.Schema.{Schema}
use Rattle.tsql_trees.specs.declared.leaf.NameTree.{NameTree}
use Rattle.tsql_trees.specs.declared.expr.ExprTree.{ExprTree}
use Rattle.tsql_trees.specs.declared.pred.PredTree.{PredTree}
use Rattle.tsql_trees.specs.declared.statement.SourceTree.{SourceTree}
use Rattle.tsql_trees.specs.declared.statement.SourceTree.TheVariants as sources
use Rattle.tsql_trees.specs.declared.statement.SetTree.{SetTree}
use Rattle.tsql_trees.specs.declared.statement.ItemsTree.{ItemsTree}
use Rattle.tsql_trees.specs.declared.statement.ItemsTree.TheVariants as shown
use Rattle.tsql_trees.specs.declared.statement.ItemTree.{ItemTree}
use Rattle.tsql_trees.specs.declared.statement.ItemTree.TheVariants as trees
use Rattle.tsql_trees.specs.declared.statement.Aggregate.{Aggregate}
use Rattle.tsql_trees.specs.declared.statement.Aggregate.TheVariants as aggregates
use Rattle.tsql_trees.specs.declared.statement.OitemTree.{OitemTree}
use Rattle.cs_model.specs.declared.expr.Expr.{Expr}
use Rattle.cs_model.specs.declared.plan.InsertPlan.{InsertPlan}
use Rattle.cs_model.specs.declared.plan.UpdatePlan.{UpdatePlan}
use Rattle.cs_model.specs.declared.plan.Query.{Query}
use Rattle.cs_model.specs.declared.plan.Item.{Item}
use Rattle.cs_model.specs.declared.plan.Item.TheVariants as items
use Rattle.cs_model.specs.Series.{series_schema}
use Rattle.bind_names.specs.Shown.{has_aggregate}
use Rattle.bind_forms.specs.Literals.{column_of, columns_of, all_columns, series_end}
use Rattle.bind_forms.specs.Exprs.{value_for}
use Rattle.bind_forms.specs.Preds.{filter_of}

-- ---- INSERT and UPDATE

-- the columns that an INSERT names, or else all in order
abbrev pub insert_columns : Schema → Option (List NameTree) → List ℕ
insert_columns schema None = all_columns schema
insert_columns schema (Some names) = columns_of schema names

-- the values of a row, each for its column; their numbers are equal in a statement without faults
abbrev pub row_of : Schema → Schema → List ℕ → List ExprTree → List Expr
row_of names schema columns exprs = map (λ p. value_for names schema p.0 p.1) (zip columns exprs)

-- the rows of VALUES, or one row over the numbers of a series
abbrev pub source_of : Schema → List ℕ → SourceTree → InsertPlan
source_of schema columns (sources.Values rows) =
    record { columns = columns; rows = map (λ row. row_of schema schema columns row.exprs) rows; series = None }
source_of schema columns (sources.Series series) =
    record { columns = columns; rows = row_of series_schema schema columns series.exprs ∷ []; series = Some (series_end series.start, series_end series.stop) }

abbrev pub insert_plan : Schema → Option (List NameTree) → SourceTree → InsertPlan
insert_plan schema names source = source_of schema (insert_columns schema names) source

abbrev pub set_of : Schema → SetTree → ℕ × Expr
set_of schema set = (column_of schema set.name, value_for schema schema (column_of schema set.name) set.expr)

abbrev pub update_plan : Schema → List SetTree → Option PredTree → UpdatePlan
update_plan schema sets filter = record { sets = map (set_of schema) sets; filter = filter_of schema filter }

-- ---- SELECT

abbrev pub aggregate_of : Aggregate → ℕ → Item
aggregate_of aggregates.Count column = items.Count column
aggregate_of aggregates.Sum column = items.Sum column
aggregate_of aggregates.Min column = items.Min column
aggregate_of aggregates.Max column = items.Max column
aggregate_of aggregates.Avg column = items.Avg column

abbrev pub item_of : Schema → ItemTree → Item
item_of schema (trees.Name name) = items.Column (column_of schema name)
item_of schema (trees.CountAll place) = items.CountAll
item_of schema (trees.Aggregate place aggregate name) = aggregate_of aggregate (column_of schema name)

-- `*` is all columns in order
abbrev pub items_of : Schema → ItemsTree → List Item
items_of schema (shown.All place) = map items.Column (all_columns schema)
items_of schema (shown.List list) = map (item_of schema) list

-- the columns of GROUP BY
abbrev pub groups_of : Schema → Option (List NameTree) → List ℕ
groups_of schema None = []
groups_of schema (Some names) = columns_of schema names

abbrev pub oitem_of : Schema → OitemTree → ℕ × Bool
oitem_of schema oitem = (column_of schema oitem.name, oitem.descending)

-- the columns of ORDER BY
abbrev pub order_of : Schema → Option (List OitemTree) → List (ℕ × Bool)
order_of schema None = []
order_of schema (Some list) = map (oitem_of schema) list

-- rows are put together by GROUP BY, or by an aggregate
abbrev pub query : Schema → ItemsTree → Option PredTree → Option (List NameTree) → Option (List OitemTree) → Query
query schema list filter groups order = record {
  items = items_of schema list;
  filter = filter_of schema filter;
  groups = groups_of schema groups;
  grouped = is_some groups || has_aggregate list;
  order = order_of schema order;
}
