-- Worked examples of the sequence and of its workload.
use Rattle.std.proofs.Common.{◌≡◌, ℕ, [], ◌∷◌, map, refl, append-nil}
use Rattle.script_workload.specs.Sequence.{drawn}
use Rattle.script_workload.specs.Workload.{statement_after, number_at, workload, setup_line}
use Rattle.script_workload.specs.declared.statement.Statement.TheVariants.{Rollback, Insert, Select}

-- the first seven draws of the number 1
pub first_draws : map (λ k. drawn k 1) (1 ∷ 2 ∷ 3 ∷ 4 ∷ 5 ∷ 6 ∷ 7 ∷ []) ≡ 16838 ∷ 5758 ∷ 10113 ∷ 17515 ∷ 31051 ∷ 5627 ∷ 23010 ∷ []
first_draws = refl

-- the first three statements of the number 1
pub first_statements : map (λ i. statement_after (number_at 1 i)) (0 ∷ 1 ∷ 2 ∷ []) ≡ Insert 758 13 5 ∷ Select 627 ∷ Rollback ∷ []
first_statements = refl

-- no statement: the setup line alone
pub no_line : (number sessions : ℕ) → workload number sessions 0 ≡ setup_line
no_line number sessions = append-nil setup_line
