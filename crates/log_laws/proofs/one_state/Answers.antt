use Rattle.log_laws.proofs.Logs.{legal_one}
use Rattle.log_laws.proofs.one_state.Goals as goal

pub returns : goal.returns
returns c = λ begin log a b x y. legal_one begin log a b x y
