use Rattle.batch_filter.specs.Batches.{batches_of}
use Rattle.batch_filter.specs.Named.{named}
use Rattle.batch_filter.proofs.BatchLemmas.{counted}
use Rattle.batch_filter.proofs.laws.rows_of_batches.Goals as goal

pub returns : goal.returns
returns c = λ pred columns n some all. counted (batches_of columns (named pred)) columns n some all
