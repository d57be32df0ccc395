use Rattle.std.proofs.Common.{◌≤◌, length, ◌-◌, ◌+◌}
use Rattle.cs_outside.specs.Outside.{Takes}
use Rattle.cs_outside.proofs.source.read_all.Given as goal

abbrev pub invariant-loop-bytes : goal.invariant-loop-bytes
invariant-loop-bytes g l = record {
  came : Takes (g.I.Source.left l.fn.source) (g.I.Source.left l.source) l.bytes.items;
  within : length l.bytes.items ≤ l.limit;
  later : g.I.Source.faults l.fn.source ≤ g.I.Source.faults l.source;
  turns : g.I.Source.calls l.source ≤ g.I.Source.calls l.fn.source + length l.bytes.items;
}

-- each turn takes a byte or ends
abbrev pub decreases-loop-bytes : goal.decreases-loop-bytes
decreases-loop-bytes g l = l.limit - length l.bytes.items
