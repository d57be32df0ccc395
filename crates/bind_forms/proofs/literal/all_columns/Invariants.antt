use Rattle.std.proofs.Common.{◌≡◌, ◌++◌, ◌-◌, length}
use Rattle.std.specs.List.{range_with_len}
use Rattle.bind_forms.specs.Literals.{all_columns}
use Rattle.bind_forms.proofs.literal.all_columns.Given as goal

abbrev pub invariant-loop-column : goal.invariant-loop-column
invariant-loop-column l = l.made ++ range_with_len l.column (length l.schema.columns - l.column) ≡ all_columns l.schema
