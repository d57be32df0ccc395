use Rattle.log_laws.proofs.Floors.{floor_one, floor_rises}
use Rattle.log_laws.proofs.floor_stays.Goals as goal

pub returns-clause-one : goal.returns-clause-one
returns-clause-one c = λ taken clock a b x y. floor_one taken clock a b x y

pub returns-clause-rises : goal.returns-clause-rises
returns-clause-rises c = λ begin log rest m after floor later may l all f g. floor_rises begin log rest m after floor later may l all f g
