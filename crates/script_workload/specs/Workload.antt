-- The generated workload: a script whose lines are drawn, one after the other, from the sequence of a number.
use Rattle.std.specs.Prelude.{ℕ, zero, suc, ◌+◌, ◌%◌, ◌==◌, nat_le, List, [], ◌++◌, codes, decimal, if◌then◌else◌}
use Rattle.std.specs.List.{flat_map, range_with_len}
use Rattle.script_workload.specs.declared.statement.Statement.{Statement}
use Rattle.script_workload.specs.declared.statement.Statement.TheVariants.{Begin, Commit, Rollback, Insert, Update, Delete, Select, Mover}
use Rattle.script_workload.specs.Sequence.{after, drawn}

-- ---- statements

-- the statement of a choice, with the draws after the first one as its numbers
abbrev pub chosen : ℕ → ℕ → Statement
chosen choice x =
    if choice == 0 then Begin
    else (if choice == 1 then Commit
    else (if choice == 2 then Rollback
    else (if nat_le choice 7 then Insert (drawn 2 x % 1000) (drawn 3 x % 100) (drawn 4 x % 10)
    else (if nat_le choice 9 then Update (drawn 2 x % 1000)
    else (if choice == 10 then Delete (drawn 2 x % 1000)
    else (if nat_le choice 14 then Select (drawn 2 x % 1000)
    else Mover))))))

-- the statement that is drawn after x: the first draw is its choice
abbrev pub statement_after : ℕ → Statement
statement_after x = chosen (drawn 1 x % 16) x

-- how many draws a statement takes: its choice and its numbers
abbrev pub draws_of : Statement → ℕ
draws_of Begin = 1
draws_of Commit = 1
draws_of Rollback = 1
draws_of (Insert key value word) = 4
draws_of (Update key) = 2
draws_of (Delete key) = 2
draws_of (Select key) = 2
draws_of Mover = 1

-- ---- lines, each with byte 10 at its end

-- who a statement is of: the mover, or a session
abbrev pub actor : ℕ → Statement → List ℕ
actor session Mover = codes "m1"
actor session _ = codes "s" ++ decimal session

-- what stands after that
abbrev pub text_of : Statement → List ℕ
text_of Begin = codes " BEGIN TRANSACTION"
text_of Commit = codes " COMMIT"
text_of Rollback = codes " ROLLBACK"
text_of (Insert key value word) = codes " INSERT INTO t VALUES (" ++ decimal key ++ codes ", " ++ decimal value ++ codes ", 'w" ++ decimal word ++ codes "')"
text_of (Update key) = codes " UPDATE t SET v = v + 1 WHERE k = " ++ decimal key
text_of (Delete key) = codes " DELETE FROM t WHERE k = " ++ decimal key
text_of (Select key) = codes " SELECT COUNT(*), SUM(v) FROM t WHERE k >= " ++ decimal key
text_of Mover = []

-- the line of a statement, whose session is this one unless it is the mover's
abbrev pub line_of : ℕ → Statement → List ℕ
line_of session statement = actor session statement ++ text_of statement ++ codes "\n"

-- the first line sets up the table
abbrev pub setup_line : List ℕ
setup_line = codes "setup CREATE TABLE t (k int NOT NULL PRIMARY KEY, v int NULL, w varchar(8) NULL)\n"

-- ---- the workload of a number

-- what line i is drawn after: the number itself, and then what the draws of each line before it lead to
abbrev pub number_at : ℕ → ℕ → ℕ
number_at number zero = number
number_at number (suc i) = after (draws_of (statement_after (number_at number i))) (number_at number i)

-- line i, from 0 on: the sessions take turns
abbrev pub line_at : ℕ → ℕ → ℕ → List ℕ
line_at number sessions i = line_of (1 + i % sessions) (statement_after (number_at number i))

-- the script of a number: the setup line and so many lines
abbrev pub workload : ℕ → ℕ → ℕ → List ℕ
workload number sessions statements = setup_line ++ flat_map (line_at number sessions) (range_with_len 0 statements)
