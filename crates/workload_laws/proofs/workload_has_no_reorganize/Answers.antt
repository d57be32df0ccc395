use Rattle.workload_laws.proofs.Reorganizes.{no_reorganize}
use Rattle.workload_laws.proofs.workload_has_no_reorganize.Goals as goal

pub returns : goal.returns
returns c = no_reorganize
