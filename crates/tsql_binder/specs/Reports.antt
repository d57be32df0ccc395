-- The two reports on row groups, and which statements ask for them.
use Rattle.std.specs.Prelude.{◌≡◌, ℕ, List, codes, Bool, false, ◌&&◌, IsTrue, is_none, Option, None, Some, if◌then◌else◌}
use Rattle.cs_base.specs.Names.{same_name}
use Rattle.cs_model.specs.declared.entry.Bound.{Bound}
use Rattle.cs_model.specs.declared.entry.Bound.TheVariants.{GroupReport, SegmentReport}
use Rattle.tsql_trees.specs.declared.leaf.NameTree.{NameTree}
use Rattle.tsql_trees.specs.declared.statement.ItemsTree.TheVariants as shown
use Rattle.tsql_trees.specs.declared.statement.Statement.{Statement}
use Rattle.tsql_trees.specs.declared.statement.Statement.TheVariants as statements

-- the report on row groups
abbrev pub groups_name : List ℕ
groups_name = codes "dm_db_column_store_row_group_physical_stats"

-- the report on segments
abbrev pub segments_name : List ℕ
segments_name = codes "column_store_segments"

-- the report of a name after `sys.`
abbrev pub report_named : List ℕ → Option Bound
report_named name =
    if same_name name groups_name then Some GroupReport
    else if same_name name segments_name then Some SegmentReport
    else None

abbrev pub report_behind : NameTree → Option NameTree → Option Bound
report_behind first None = None
report_behind first (Some second) = if same_name first.bytes (codes "sys") then report_named second.bytes else None

-- the report that a SELECT reads: it is known by the last part of its name, and no table is in its way
abbrev pub report_in : Statement → Option Bound
report_in statements.Begin = None
report_in statements.Commit = None
report_in statements.Rollback = None
report_in statements.SetSnapshot = None
report_in (statements.SetStatistics on) = None
report_in (statements.SetLockTimeout number) = None
report_in (statements.AlterIndex index table compress) = None
report_in (statements.Insert table names source) = None
report_in (statements.Update table sets filter) = None
report_in (statements.Delete table filter) = None
report_in (statements.Select items table filter groups order) = report_behind table.first table.second

-- `SELECT * FROM` something, and no more
abbrev pub is_whole : Statement → Bool
is_whole (statements.Select (shown.All place) table filter groups order) = is_none filter && is_none groups && is_none order
is_whole other = false

-- a statement `SELECT * FROM sys.` and this name
pub record AsksFor (name : List ℕ) (statement : Statement) : Type 0 where
  pub place : ℕ
  pub first : NameTree
  pub second : NameTree
  pub is_select : statement ≡ statements.Select (shown.All place) (record { first = first; second = Some second }) None None None
  pub is_sys : IsTrue (same_name first.bytes (codes "sys"))
  pub is_name : IsTrue (same_name second.bytes name)
