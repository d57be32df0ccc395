use Rattle.std.proofs.Common.{◌≤◌, length, ◌-◌, ◌+◌, take}
use Rattle.cs_outside.specs.Outside.{Adds}
use Rattle.cs_outside.proofs.sink.write_whole.Given as goal

abbrev pub invariant-loop-done : goal.invariant-loop-done
invariant-loop-done g l = record {
  within : l.done ≤ length l.bytes;
  added : Adds (g.O.Sink.held l.fn.sink) (g.O.Sink.held l.sink) (take l.done l.bytes);
  later : g.O.Sink.faults l.fn.sink ≤ g.O.Sink.faults l.sink;
  turns : g.O.Sink.calls l.sink ≤ g.O.Sink.calls l.fn.sink + l.done;
}

abbrev pub decreases-loop-done : goal.decreases-loop-done
decreases-loop-done g l = length l.bytes - l.done
