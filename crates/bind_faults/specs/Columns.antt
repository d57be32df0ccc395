-- The columns that an INSERT names or an UPDATE sets.
use Rattle.std.specs.Prelude.{List, map, drop}
use Rattle.std.specs.List.{filter, flat_map}
use Rattle.cs_types.specs.declared.Column.{Column}
use Rattle.cs_types.specs.declared.Schema.{Schema}
use Rattle.tsql_trees.specs.declared.leaf.NameTree.{NameTree}
use Rattle.cs_base.specs.Names.{same_name}
use Rattle.bind_faults.specs.declared.fault.Fault.{Fault}
use Rattle.bind_faults.specs.Least.{fault}

-- the names of a column
abbrev pub names_of : Column → List NameTree → List NameTree
names_of column names = filter (λ n. same_name column.name n.bytes) names

-- each name of a column but the first one
abbrev pub again_faults : List NameTree → Column → List Fault
again_faults names column = map (λ n. fault 50001 n.place) (drop 1 (names_of column names))

-- 50001: a column named twice
abbrev pub twice_faults : Schema → List NameTree → List Fault
twice_faults schema names = flat_map (again_faults names) schema.columns
