-- The script that a workload is.
use Rattle.std.specs.Prelude.{ℕ, ◌+◌, ◌%◌, List, [], ◌∷◌, codes, map, drop, Bool, true, false}
use Rattle.std.specs.List.{range_with_len}
use Rattle.cs_types.specs.declared.ColumnType.TheVariants as kinds
use Rattle.cs_types.specs.declared.Column.{Column}
use Rattle.cs_types.specs.declared.Schema.{Schema}
use Rattle.script_reader.specs.declared.script.Script.{Script}
use Rattle.script_reader.specs.declared.script.Step.{Step}
use Rattle.script_reader.specs.declared.script.Step.TheVariants.{Whole, Begun, Finished, Turn, Claiming, Installing}
use Rattle.script_reader.specs.Scripts.{sessions_of}
use Rattle.script_workload.specs.declared.statement.Statement.{Statement}
use Rattle.script_workload.specs.declared.statement.Statement.TheVariants.{Mover}
use Rattle.script_workload.specs.Workload.{text_of, statement_after, number_at}

-- the table: a key, a number and a short text
abbrev pub workload_columns : List Column
workload_columns =
    record { name = codes "k"; kind = kinds.Int; nullable = false }
    ∷ record { name = codes "v"; kind = kinds.Int; nullable = true }
    ∷ record { name = codes "w"; kind = kinds.VarChar 8; nullable = true } ∷ []

abbrev pub workload_table : Schema
workload_table = record { name = codes "t"; columns = workload_columns; key = 0 }

-- the text of a statement: what stands in its line after the session and a space
abbrev pub sql_of : Statement → List ℕ
sql_of statement = drop 1 (text_of statement)

-- what the line of a statement asks for: a turn of mover 1, or the whole statement, of this session
abbrev pub step_of : ℕ → Statement → Step
step_of session Mover = Turn 1
step_of session statement = Whole session (sql_of statement)

-- what line i after the setup line asks for, from 0 on
abbrev pub step_at : ℕ → ℕ → ℕ → Step
step_at number sessions i = step_of (1 + i % sessions) (statement_after (number_at number i))

abbrev pub steps : ℕ → ℕ → ℕ → List Step
steps number sessions statements = map (step_at number sessions) (range_with_len 0 statements)

-- the script of the workload of a number, for so many sessions and statements
abbrev pub workload_script : ℕ → ℕ → ℕ → Script
workload_script number sessions statements =
    record { schema = workload_table; lines = steps number sessions statements; sessions = sessions_of (steps number sessions statements) }

-- a step that leaves nothing half done: a statement or a turn, from its start to its end
abbrev pub is_whole : Step → Bool
is_whole (Whole session text) = true
is_whole (Begun session text) = false
is_whole (Finished session) = false
is_whole (Turn mover) = true
is_whole (Claiming mover) = false
is_whole (Installing mover) = false
