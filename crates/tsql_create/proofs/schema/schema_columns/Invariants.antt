use Rattle.std.proofs.Common.{◌≡◌, ◌++◌, drop}
use Rattle.tsql_create.specs.Tables.{columns_from}
use Rattle.tsql_create.proofs.schema.schema_columns.Given as goal

abbrev pub invariant-loop-i : goal.invariant-loop-i
invariant-loop-i l = l.made ++ columns_from l.key l.i (drop l.i l.columns) ≡ columns_from l.key 0 l.columns
