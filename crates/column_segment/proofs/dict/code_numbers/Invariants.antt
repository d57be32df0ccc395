use Rattle.std.proofs.Common.{◌≡◌, ◌<◌, ℕ, ℤ, Option, length, get_or}
use Rattle.column_segment.specs.Cells.{number_of}
use Rattle.column_segment.specs.Dicts.{dict_cell}
use Rattle.column_segment.proofs.dict.code_numbers.Given as goal

abbrev pub invariant-loop-code : goal.invariant-loop-code
invariant-loop-code l = record {
  counted : length l.numbers.items ≡ l.code;
  done : (i : ℕ) (d : Option ℤ) → i < l.code → get_or l.numbers.items i d ≡ number_of (dict_cell l.dict i);
}
