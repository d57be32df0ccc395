use Rattle.batch_filter.proofs.NamedLemmas.{same_truth}
use Rattle.batch_filter.proofs.laws.truth_of_named.Goals as goal

pub returns : goal.returns
returns c = λ pred row other schema agree. same_truth schema row other pred agree
