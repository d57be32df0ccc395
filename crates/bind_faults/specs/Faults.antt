-- The faults of a statement, and the one that it is refused for.
use Rattle.std.specs.Prelude.{ℕ, ◌==◌, List, [], ◌++◌, not, Option, None, Some, if◌then◌else◌}
use Rattle.cs_types.specs.declared.Schema.{Schema}
use Rattle.tsql_trees.specs.declared.leaf.NumberTree.{NumberTree}
use Rattle.tsql_trees.specs.declared.leaf.TableTree.{TableTree}
use Rattle.tsql_trees.specs.declared.statement.Statement.{Statement}
use Rattle.tsql_trees.specs.declared.statement.Statement.TheVariants as statements
use Rattle.cs_base.specs.Names.{same_name}
use Rattle.tsql_trees.specs.Tables.{table_name}
use Rattle.bind_faults.specs.declared.fault.Fault.{Fault}
use Rattle.bind_faults.specs.Least.{fault, fault_if, least}
use Rattle.bind_faults.specs.Inserts.{insert_faults}
use Rattle.bind_faults.specs.Updates.{sets_faults}
use Rattle.bind_faults.specs.Predicates.{filter_faults}
use Rattle.bind_faults.specs.Queries.{query_faults}

-- 50001: a LOCK_TIMEOUT other than 0
abbrev pub timeout_faults : NumberTree → List Fault
timeout_faults number = fault_if (not (number.digits == 0)) 50001 number.place

-- the faults of a statement other than that of its table
abbrev pub faults : Schema → Statement → List Fault
faults schema statements.Begin = []
faults schema statements.Commit = []
faults schema statements.Rollback = []
faults schema statements.SetSnapshot = []
faults schema (statements.SetStatistics on) = []
faults schema (statements.SetLockTimeout number) = timeout_faults number
faults schema (statements.AlterIndex index table compress) = []
faults schema (statements.Insert table names source) = insert_faults schema names source
faults schema (statements.Update table sets filter) = sets_faults schema sets ++ filter_faults schema filter
faults schema (statements.Delete table filter) = filter_faults schema filter
faults schema (statements.Select items table filter groups order) = query_faults schema items groups order ++ filter_faults schema filter

-- the first byte of a table that has another name
abbrev pub not_this : Schema → TableTree → Option ℕ
not_this schema table = if same_name schema.name (table_name table) then None else Some table.first.place

-- the place of a table that is not there
abbrev pub wrong_table : Schema → Statement → Option ℕ
wrong_table schema statements.Begin = None
wrong_table schema statements.Commit = None
wrong_table schema statements.Rollback = None
wrong_table schema statements.SetSnapshot = None
wrong_table schema (statements.SetStatistics on) = None
wrong_table schema (statements.SetLockTimeout number) = None
wrong_table schema (statements.AlterIndex index table compress) = not_this schema table
wrong_table schema (statements.Insert table names source) = not_this schema table
wrong_table schema (statements.Update table sets filter) = not_this schema table
wrong_table schema (statements.Delete table filter) = not_this schema table
wrong_table schema (statements.Select items table filter groups order) = not_this schema table

-- 208 comes first
abbrev pub before_all : Option ℕ → Option Fault → Option Fault
before_all None found = found
before_all (Some at) found = Some (fault 208 at)

-- the fault that a statement is refused for
abbrev pub first_fault : Schema → Statement → Option Fault
first_fault schema statement = before_all (wrong_table schema statement) (least (faults schema statement))
