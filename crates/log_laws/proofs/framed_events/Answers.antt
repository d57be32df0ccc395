use Rattle.log_laws.proofs.Framed.{framed}
use Rattle.log_laws.proofs.framed_events.Goals as goal

pub returns : goal.returns
returns c = λ begin m after entry step. framed begin m entry after step
