use Rattle.std.proofs.Common.{◌≡◌, ◌<◌, ◌&&◌, ℕ, Some, false, length, nat_lt, slice_index_or}
use Rattle.cs_model.specs.Queries.{keeps}
use Rattle.batch_filter.specs.Batches.{row_count, batch_row}
use Rattle.batch_filter.proofs.batch.filter_batch.Given as goal

-- the places before have their rows' verdicts
abbrev pub invariant-loop-place : goal.invariant-loop-place
invariant-loop-place l = record {
  same : length l.mask ≡ 1024;
  done : (i : ℕ) → i < l.place → slice_index_or l.mask i false ≡ (nat_lt i (row_count l.pred l.columns) && keeps l.schema (Some l.pred) (batch_row l.columns i));
}
