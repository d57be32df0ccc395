use Rattle.std.proofs.Common.{◌≡◌, ◌++◌}
use Rattle.std.specs.List.{flat_map, range_with_len}
use Rattle.script_workload.specs.Workload.{setup_line, number_at, line_at}
use Rattle.script_workload.proofs.workload.Given as goal

abbrev pub invariant-loop-i : goal.invariant-loop-i
invariant-loop-i l = record {
  script : l.script ≡ setup_line ++ flat_map (line_at l.number l.sessions) (range_with_len 0 l.i);
  sequence : l.sequence ≡ number_at l.number l.i;
}
