use Rattle.std.proofs.Common.{◌≡◌, ◌+◌, ◌≤◌, length, List, ℕ, ◌++◌}
use Rattle.script_reader.specs.Lines.{lines}
use Rattle.script_reader.specs.Reading.{IsRead}
use Rattle.script_reader.proofs.read.read_lines.Given as goal

-- the lines that were read, and those of the rest, are those of the whole
abbrev pub invariant-loop-line : goal.invariant-loop-line
invariant-loop-line l = record {
  before : List (List ℕ);
  cut : before ++ lines l.rest ≡ lines l.bytes;
  number : l.number ≡ length before + 1;
  read : IsRead l.fn.mode before l.reading;
  small : l.number + length l.rest ≤ 1 + length l.bytes;
}

abbrev pub decreases-loop-line : goal.decreases-loop-line
decreases-loop-line l = length l.rest
