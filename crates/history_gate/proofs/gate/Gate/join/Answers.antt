use Rattle.std.proofs.Common.{rules}
use Rattle.history_gate.proofs.Ends.{joining}
use Rattle.history_gate.proofs.gate.Gate.join.Goals as goal

pub join_seat-requires : goal.join_seat-requires
join_seat-requires g c = (search rules, search rules, search rules, search rules, joining _ _ _ _ _ _ _ c.pass.invariant.3 c.other.invariant.0 c.other.invariant.1)
