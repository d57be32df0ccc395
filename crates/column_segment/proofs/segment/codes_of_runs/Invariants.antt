use Rattle.std.proofs.Common.{◌≡◌, ◌<◌, ◌≤◌, ◌+◌, ◌-◌, ℕ, slice_index}
use Rattle.column_segment.specs.Layouts.{code_in_runs}
use Rattle.column_segment.proofs.segment.codes_of_runs.Given as goal

abbrev pub invariant-loop-done : goal.invariant-loop-done
invariant-loop-done l = record {
  within : l.done ≤ l.count;
  codes : (i : ℕ) → i < l.done → slice_index l.out i ≡ code_in_runs l.runs.codes l.runs.ends (l.from + i);
  others : (i : ℕ) → l.count ≤ i → slice_index l.out i ≡ slice_index l.initial.out i;
}

abbrev pub decreases-loop-done : goal.decreases-loop-done
decreases-loop-done l = l.count - l.done
