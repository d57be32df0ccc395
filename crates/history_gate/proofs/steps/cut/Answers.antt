use Rattle.std.proofs.Common.{rules}
use Rattle.history_gate.proofs.Ends.{splitting}
use Rattle.history_gate.proofs.steps.cut.Goals as goal

pub split_seat-requires : goal.split_seat-requires
split_seat-requires g c = rw c.requires.number.0 (search rules, search rules, splitting _ _ _ _ _ c.args.number c.requires.idle.0 c.requires.idle.1 c.requires.number.1)
