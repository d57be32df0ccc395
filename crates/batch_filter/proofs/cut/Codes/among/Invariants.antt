use Rattle.std.proofs.Common.{◌≡◌, ◌+◌, ◌≤◌, ℕ, false, true, length, slice_index_or, take}
use Rattle.cs_types.specs.Text.{loose_of}
use Rattle.cs_model.specs.Truths.{among}
use Rattle.column_segment.specs.Bodies.{cell_of_code}
use Rattle.batch_filter.specs.Sieves.{is_asked}
use Rattle.batch_filter.proofs.cut.Codes.among.Given as goal

-- each code whose cell equals one of the constants so far has its bool
abbrev pub invariant-loop-constant : goal.invariant-loop-constant
invariant-loop-constant l = record {
  counted : length l.table.items ≡ l.self.last + 1;
  put : (code : ℕ) → code ≤ l.self.last → slice_index_or l.table.items code false ≡ is_asked true (among (loose_of l.self.kind (cell_of_code l.segment.body code)) (take l.constant-index l.list));
}
