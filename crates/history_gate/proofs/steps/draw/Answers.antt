use Rattle.std.proofs.Common.{rules}
use Rattle.history_gate.proofs.Keeps.{drawing}
use Rattle.history_gate.proofs.steps.draw.Goals as goal

pub fetch_add-requires : goal.fetch_add-requires
fetch_add-requires g c = (search rules, search rules, drawing _ _ _ _ _ _ c.requires.idle c.requires.number)
