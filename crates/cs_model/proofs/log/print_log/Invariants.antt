use Rattle.std.proofs.Common.{◌≡◌, ℕ, ◌++◌, take, drop}
use Rattle.cs_model.specs.State.{begin_of}
use Rattle.cs_model.specs.Text.{statements_of, text, text_after}
use Rattle.cs_model.specs.Places.{place_in}
use Rattle.cs_model.proofs.log.print_log.Given as goal

-- the text so far and that of the rest are that of the whole, and each session's statements so far are counted
abbrev pub invariant-loop-i : goal.invariant-loop-i
invariant-loop-i l = record {
  text : l.line ++ text_after (begin_of l.schema) (take l.i l.log) (drop l.i l.log) ≡ text (begin_of l.schema) l.log;
  places : (session : ℕ) → place_in l.places session ≡ statements_of session (take l.i l.log);
}
