use Rattle.std.proofs.Common.{◌≡◌, ◌≤◌, ℕ, List}
use Rattle.column_segment.specs.Layouts.{MatchNeighbours, runs_below}
use Rattle.column_segment.proofs.layout.runs_in.Given as goal

abbrev pub invariant-loop-i : goal.invariant-loop-i
invariant-loop-i l = record {
  bound : l.runs ≤ l.i;
  runs : (others : List ℕ) → MatchNeighbours l.codes others → l.runs ≡ runs_below others l.i;
}
