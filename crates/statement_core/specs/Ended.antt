-- Which sessions have ended, by a log.
use Rattle.std.specs.Prelude.{◌≡◌, ℕ, ◌+◌, List, [], ◌∷◌, All, true}
use Rattle.cs_model.specs.declared.entry.Entry.{Entry}
use Rattle.cs_model.specs.Actors.{entries_of, has_ended, one_unless}

-- each of these sessions has its End in the log
abbrev pub HaveEnded : List Entry → List ℕ → Type 0
HaveEnded log sessions = All (λ session. has_ended (entries_of session log) ≡ true) sessions

-- how many of these sessions have no End in the log
abbrev pub without_end : List Entry → List ℕ → ℕ
without_end log [] = 0
without_end log (session ∷ sessions) = one_unless (has_ended (entries_of session log)) + without_end log sessions
