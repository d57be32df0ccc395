use Rattle.std.proofs.Common.{◌≡◌, ◌++◌, replicate}
use Rattle.cs_types.specs.declared.Value.TheVariants.{Null}
use Rattle.row_group.proofs.columns.add_nulls.Given as goal

abbrev pub invariant-loop-place : goal.invariant-loop-place
invariant-loop-place l = l.column ≡ l.initial.column ++ replicate l._place Null
