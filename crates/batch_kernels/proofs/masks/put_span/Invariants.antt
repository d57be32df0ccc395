use Rattle.std.proofs.Common.{◌≡◌, ◌<◌, ◌≤◌, ℕ, ◌||◌, false, length, slice_index_or}
use Rattle.batch_kernels.specs.Masks.{in_span}
use Rattle.batch_kernels.proofs.masks.put_span.Given as goal

-- the codes so far are put, and the others are as they were
abbrev pub invariant-loop-code : goal.invariant-loop-code
invariant-loop-code l = record {
  same : length l.table ≡ length l.initial.table;
  done : (k : ℕ) → k < l.code → k < length l.table → slice_index_or l.table k false ≡ (slice_index_or l.initial.table k false || in_span l.span k);
  rest : (k : ℕ) → l.code ≤ k → slice_index_or l.table k false ≡ slice_index_or l.initial.table k false;
}
