use Rattle.log_laws.proofs.StartedOn.{start_shows, started_through}
use Rattle.log_laws.proofs.started_stays.Goals as goal

pub returns-clause-starts : goal.returns-clause-starts
returns-clause-starts c = λ begin log m after session b begun l rests same st. start_shows begin log m after session b begun l rests same st

pub returns-clause-stays : goal.returns-clause-stays
returns-clause-stays c = λ begin log rest session begun none k. started_through begin log rest session begun none k
