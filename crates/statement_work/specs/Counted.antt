-- The answer of a SELECT with the counts of segments.
use Rattle.std.specs.Prelude.{◌≡◌, ℕ, List, Result, Ok, Err}
use Rattle.cs_types.specs.declared.Loose.{Loose}
use Rattle.cs_model.specs.declared.answer_refusal.AnswerRefusal.{AnswerRefusal}
use Rattle.cs_model.specs.Queries.{Gives}
use Rattle.statement_work.specs.declared.answered.Answered.{Answered}

-- what a call gives is the answer with the counts of the segments that are read and skipped, or its refusal, but for want of memory
abbrev pub GivesCounted : Result Answered AnswerRefusal → Result (List (List Loose)) (ℕ × ℕ) → ℕ × ℕ → Type 0
GivesCounted (Ok found) answered counts = (answered ≡ Ok found.rows) × ((found.read, found.skipped) ≡ counts)
GivesCounted (Err refusal) answered counts = Gives (Err refusal) answered
