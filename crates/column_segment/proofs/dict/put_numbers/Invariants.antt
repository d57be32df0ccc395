use Rattle.std.proofs.Common.{◌≡◌, ◌<◌, ◌≤◌, ℕ, pos, length, slice_index, slice_index_or}
use Rattle.cs_types.specs.Rows.{number_in}
use Rattle.column_segment.specs.Dicts.{dict_cell}
use Rattle.column_segment.proofs.dict.put_numbers.Given as goal

abbrev pub invariant-loop-i : goal.invariant-loop-i
invariant-loop-i l = record {
  len : length l.numbers ≡ 1024;
  numbers : (k : ℕ) → k < l.i → slice_index_or l.numbers k (pos 0) ≡ number_in (dict_cell l.dict (slice_index l.codes k));
  others : (k : ℕ) → l.i ≤ k → slice_index_or l.numbers k (pos 0) ≡ slice_index_or l.initial.numbers k (pos 0);
}
