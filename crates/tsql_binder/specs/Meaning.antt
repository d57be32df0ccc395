-- What a statement means over a schema: its bound form, or its first fault.
use Rattle.std.specs.Prelude.{◌≡◌, Bool, true, false, Option, None, Some, unwrap_or, Result, Ok, Err}
use Rattle.cs_types.specs.declared.Schema.{Schema}
use Rattle.cs_model.specs.declared.entry.Bound.{Bound}
use Rattle.cs_model.specs.declared.entry.Bound.TheVariants.{Begin, Commit, Rollback, Nothing, Statistics, Insert, Update, Delete, Select, Reorganize}
use Rattle.tsql_trees.specs.declared.statement.Statement.{Statement}
use Rattle.tsql_trees.specs.declared.statement.Statement.TheVariants as statements
use Rattle.bind_faults.specs.declared.fault.Fault.{Fault}
use Rattle.bind_faults.specs.Least.{fault}
use Rattle.bind_faults.specs.Faults.{first_fault}
use Rattle.bind_forms.specs.Preds.{filter_of}
use Rattle.bind_forms.specs.Plans.{insert_plan, update_plan, query}
use Rattle.tsql_binder.specs.declared.refusal.BindRefusal.{BindRefusal}
use Rattle.tsql_binder.specs.declared.refusal.BindRefusal.TheVariants.{At, Memory}
use Rattle.tsql_binder.specs.Reports.{report_in, is_whole}

-- the bound form of a statement without a fault: a REORGANIZE closes the open store where its WITH says ON, under any index name
abbrev pub plan_of : Schema → Statement → Bound
plan_of schema statements.Begin = Begin
plan_of schema statements.Commit = Commit
plan_of schema statements.Rollback = Rollback
plan_of schema statements.SetSnapshot = Nothing
plan_of schema (statements.SetStatistics on) = Statistics on
plan_of schema (statements.SetLockTimeout number) = Nothing
plan_of schema (statements.AlterIndex index table compress) = Reorganize (unwrap_or compress false)
plan_of schema (statements.Insert table names source) = Insert (insert_plan schema names source)
plan_of schema (statements.Update table sets filter) = Update (update_plan schema sets filter)
plan_of schema (statements.Delete table filter) = Delete (filter_of schema filter)
plan_of schema (statements.Select items table filter groups order) = Select (query schema items filter groups order)

abbrev pub unless : Option Fault → Bound → Result Bound Fault
unless None bound = Ok bound
unless (Some f) bound = Err f

-- a SELECT from a report: its bound form where it is `SELECT * FROM` it, and 50001 at the first byte for any other form
abbrev pub reported : Bool → Bound → Result Bound Fault
reported true report = Ok report
reported false report = Err (fault 50001 1)

-- what is no report is looked for faults
abbrev pub bound_but_for : Schema → Statement → Option Bound → Result Bound Fault
bound_but_for schema statement None = unless (first_fault schema statement) (plan_of schema statement)
bound_but_for schema statement (Some report) = reported (is_whole statement) report

-- the bound form of a statement, or its first fault
abbrev pub bound_of : Schema → Statement → Result Bound Fault
bound_of schema statement = bound_but_for schema statement (report_in statement)

-- ---- what binding answers

abbrev pub RefusesBound : Result Bound Fault → BindRefusal → Type 0
RefusesBound wanted (At number at) = wanted ≡ Err (fault number at)
RefusesBound wanted Memory = Unit {0}

-- what the definition has, or want of memory
abbrev pub GivesBound : Result Bound Fault → Result Bound BindRefusal → Type 0
GivesBound wanted (Ok bound) = wanted ≡ Ok bound
GivesBound wanted (Err e) = RefusesBound wanted e
