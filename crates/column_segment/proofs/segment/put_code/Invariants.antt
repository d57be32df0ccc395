use Rattle.std.proofs.Common.{◌≡◌, ◌<◌, ◌≤◌, ◌⊎◌, ℕ, length, slice_index}
use Rattle.column_segment.proofs.segment.put_code.Given as goal

abbrev pub invariant-loop-place : goal.invariant-loop-place
invariant-loop-place l = record {
  len : length l.out ≡ 1024;
  near : l.to < l.from → l.place ≤ l.from;
  put : (i : ℕ) → l.from ≤ i → i < l.place → slice_index l.out i ≡ l.code;
  others : (i : ℕ) → (i < l.from) ⊎ (l.place ≤ i) → slice_index l.out i ≡ slice_index l.initial.out i;
}
