use Rattle.batch_filter.proofs.SkipLemmas.{loses_none}
use Rattle.batch_filter.proofs.laws.skips_loses_no_row.Goals as goal

pub returns : goal.returns
returns c = λ schema pred rows skipped. loses_none schema pred rows skipped
