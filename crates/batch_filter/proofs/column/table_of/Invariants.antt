use Rattle.std.proofs.Common.{◌≡◌, ◌<◌, ℕ, false, List, length, slice_index_or}
use Rattle.cs_types.specs.declared.Value.{Value}
use Rattle.cs_types.specs.Rows.{cell_at}
use Rattle.cs_model.specs.Truths.{truth}
use Rattle.column_segment.specs.Bodies.{cell_of_code}
use Rattle.batch_filter.specs.Sieves.{is_asked}
use Rattle.batch_filter.proofs.column.table_of.Given as goal

-- each code so far has its bool
abbrev pub invariant-loop-code : goal.invariant-loop-code
invariant-loop-code l = record {
  counted : length l.table ≡ l.code;
  judged : (row : List Value) (k : ℕ) → k < l.code → cell_at row l.column ≡ cell_of_code l.segment.body k → slice_index_or l.table k false ≡ is_asked l.holds (truth l.pred row l.schema);
}
