-- The faults of SET in an UPDATE.
use Rattle.std.specs.Prelude.{ℕ, ◌==◌, List, ◌++◌, map, Bool, false, Option, None, Some}
use Rattle.std.specs.List.{flat_map}
use Rattle.cs_types.specs.declared.Schema.{Schema}
use Rattle.tsql_trees.specs.declared.statement.SetTree.{SetTree}
use Rattle.bind_names.specs.Names.{column_named}
use Rattle.bind_faults.specs.declared.fault.Fault.{Fault}
use Rattle.bind_faults.specs.declared.setting.Scope.TheVariants as scopes
use Rattle.bind_faults.specs.Least.{fault_if}
use Rattle.bind_faults.specs.Families.{kind_named, unknown_column}
use Rattle.bind_faults.specs.Columns.{twice_faults}
use Rattle.bind_faults.specs.Values.{expr_faults}

abbrev pub is_number : ℕ → Option ℕ → Bool
is_number key None = false
is_number key (Some column) = column == key

-- the name of the key
abbrev pub is_key : Schema → List ℕ → Bool
is_key schema name = is_number schema.key (column_named schema name)

-- of the value, which goes to the column
abbrev pub value_faults : Schema → SetTree → List Fault
value_faults schema s = expr_faults schema scopes.Table (kind_named schema s.name.bytes) s.expr

-- 207: a name that is no column; 50001: SET of the key
abbrev pub set_faults : Schema → SetTree → List Fault
set_faults schema s = unknown_column schema s.name ++ fault_if (is_key schema s.name.bytes) 50001 s.name.place ++ value_faults schema s

-- and a column that is set twice
abbrev pub sets_faults : Schema → List SetTree → List Fault
sets_faults schema sets = flat_map (set_faults schema) sets ++ twice_faults schema (map (λ s. s.name) sets)
