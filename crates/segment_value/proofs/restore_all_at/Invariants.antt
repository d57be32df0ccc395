use Rattle.std.proofs.Common.{◌≡◌, ◌<◌, ◌≤◌, ℕ, pos, length, slice_index, slice_index_or, unwrap_or}
use Rattle.segment_value.specs.Scales.{cell_of}
use Rattle.segment_value.proofs.restore_all_at.Given as goal

abbrev pub invariant-loop-i : goal.invariant-loop-i
invariant-loop-i g l = record {
  len : length l.numbers ≡ 1024;
  numbers : (k : ℕ) → k < l.i → slice_index_or l.numbers k (pos 0) ≡ unwrap_or (cell_of l.scale (slice_index l.codes k)) (pos 0);
  others : (k : ℕ) → l.i ≤ k → slice_index_or l.numbers k (pos 0) ≡ slice_index_or l.initial.numbers k (pos 0);
}
