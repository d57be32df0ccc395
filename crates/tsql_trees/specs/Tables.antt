-- Names of tables.
use Rattle.std.specs.Prelude.{ℕ, List, Option, None, Some}
use Rattle.tsql_trees.specs.declared.leaf.NameTree.{NameTree}
use Rattle.tsql_trees.specs.declared.leaf.TableTree.{TableTree}

-- the name of a table is the last part of it
abbrev pub last_name : NameTree → Option NameTree → NameTree
last_name first None = first
last_name first (Some second) = second

abbrev pub table_name : TableTree → List ℕ
table_name table = (last_name table.first table.second).bytes
