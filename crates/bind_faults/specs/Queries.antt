-- The faults of what a SELECT shows, groups by and orders by.
use Rattle.std.specs.Prelude.{ℕ, List, [], ◌++◌, Bool, true, not, ◌&&◌, is_some, Option, None, Some}
use Rattle.std.specs.List.{flat_map, list_any}
use Rattle.cs_types.specs.declared.ColumnType.{ColumnType}
use Rattle.cs_types.specs.declared.Schema.{Schema}
use Rattle.tsql_trees.specs.declared.leaf.NameTree.{NameTree}
use Rattle.tsql_trees.specs.declared.statement.Aggregate.{Aggregate}
use Rattle.tsql_trees.specs.declared.statement.Aggregate.TheVariants as aggregates
use Rattle.tsql_trees.specs.declared.statement.ItemsTree.{ItemsTree}
use Rattle.tsql_trees.specs.declared.statement.ItemsTree.TheVariants as shown
use Rattle.tsql_trees.specs.declared.statement.ItemTree.{ItemTree}
use Rattle.tsql_trees.specs.declared.statement.ItemTree.TheVariants as items
use Rattle.tsql_trees.specs.declared.statement.OitemTree.{OitemTree}
use Rattle.bind_names.specs.Shown.{has_aggregate}
use Rattle.bind_faults.specs.declared.fault.Fault.{Fault}
use Rattle.bind_faults.specs.declared.family.Family.TheVariants as families
use Rattle.bind_faults.specs.Least.{fault_if}
use Rattle.bind_faults.specs.Families.{kind_named, named_in, unknown_column, family_of, differ}
use Rattle.bind_faults.specs.Values.{is_decimal}

-- the grouping columns
abbrev pub group_names : Option (List NameTree) → List NameTree
group_names None = []
group_names (Some names) = names

-- a query with GROUP BY or an aggregate
abbrev pub is_grouping : Option (List NameTree) → ItemsTree → Bool
is_grouping (Some names) list = true
is_grouping None list = has_aggregate list

-- 207: a name that is no column; and in a grouping query another number where the column is not grouped
abbrev pub name_faults : Schema → Bool → List NameTree → ℕ → NameTree → List Fault
name_faults schema grouping groups number name =
    unknown_column schema name
    ++ fault_if (grouping && is_some (kind_named schema name.bytes) && not (named_in groups name.bytes)) number name.place

-- 8117: SUM or AVG of a date or a text; 50001: AVG of a decimal
abbrev pub aggregate_faults : Aggregate → Option ColumnType → ℕ → List Fault
aggregate_faults aggregates.Count kind at = []
aggregate_faults aggregates.Sum kind at = fault_if (differ families.Number (family_of kind)) 8117 at
aggregate_faults aggregates.Min kind at = []
aggregate_faults aggregates.Max kind at = []
aggregate_faults aggregates.Avg kind at =
    fault_if (differ families.Number (family_of kind)) 8117 at ++ fault_if (is_decimal kind) 50001 at

-- 8120: an item's column that is not grouped
abbrev pub item_faults : Schema → Bool → List NameTree → ItemTree → List Fault
item_faults schema grouping groups (items.Name name) = name_faults schema grouping groups 8120 name
item_faults schema grouping groups (items.CountAll at) = []
item_faults schema grouping groups (items.Aggregate at aggregate name) =
    aggregate_faults aggregate (kind_named schema name.bytes) at ++ unknown_column schema name

-- some column of the table is not grouped
abbrev pub lacks_column : Schema → List NameTree → Bool
lacks_column schema groups = list_any (λ c. not (named_in groups c.name)) schema.columns

abbrev pub items_faults : Schema → Bool → List NameTree → ItemsTree → List Fault
items_faults schema grouping groups (shown.All at) = fault_if (grouping && lacks_column schema groups) 8120 at
items_faults schema grouping groups (shown.List list) = flat_map (item_faults schema grouping groups) list

-- 8127: a column of ORDER BY that is not grouped
abbrev pub order_item_faults : Schema → Bool → List NameTree → OitemTree → List Fault
order_item_faults schema grouping groups item = name_faults schema grouping groups 8127 item.name

abbrev pub order_faults : Schema → Bool → List NameTree → Option (List OitemTree) → List Fault
order_faults schema grouping groups None = []
order_faults schema grouping groups (Some list) = flat_map (order_item_faults schema grouping groups) list

abbrev pub query_faults : Schema → ItemsTree → Option (List NameTree) → Option (List OitemTree) → List Fault
query_faults schema list groups order =
    items_faults schema (is_grouping groups list) (group_names groups) list
    ++ flat_map (unknown_column schema) (group_names groups)
    ++ order_faults schema (is_grouping groups list) (group_names groups) order
