use Rattle.std.proofs.Common.{rules}
use Rattle.history_gate.proofs.Keeps.{looking}
use Rattle.history_gate.proofs.steps.look.Goals as goal

pub load-requires : goal.load-requires
load-requires g c = (search rules, search rules, looking _ _ _ _ _ _ c.requires.ticket.0 c.requires.ticket.1 c.requires.waits)
