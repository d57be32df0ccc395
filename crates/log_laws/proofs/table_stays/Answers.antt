use Rattle.log_laws.proofs.Floors.{table_kept}
use Rattle.log_laws.proofs.table_stays.Goals as goal

pub returns : goal.returns
returns c = λ begin log rest m after s l all le. table_kept begin log rest m after s l all le
