-- What a SELECT shows.
use Rattle.std.specs.Prelude.{Bool, true, false}
use Rattle.std.specs.List.{list_any}
use Rattle.tsql_trees.specs.declared.statement.ItemsTree.{ItemsTree}
use Rattle.tsql_trees.specs.declared.statement.ItemsTree.TheVariants as shown
use Rattle.tsql_trees.specs.declared.statement.ItemTree.{ItemTree}
use Rattle.tsql_trees.specs.declared.statement.ItemTree.TheVariants as items

abbrev pub is_aggregate : ItemTree → Bool
is_aggregate (items.Name name) = false
is_aggregate (items.CountAll place) = true
is_aggregate (items.Aggregate place aggregate name) = true

-- an aggregate is among what is shown
abbrev pub has_aggregate : ItemsTree → Bool
has_aggregate (shown.All place) = false
has_aggregate (shown.List list) = list_any is_aggregate list
