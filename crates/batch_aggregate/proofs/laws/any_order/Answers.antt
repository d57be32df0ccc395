use Rattle.batch_aggregate.proofs.Stands.{StandsFor_any_order}
use Rattle.batch_aggregate.proofs.TallyLemmas.{tally_of-append, tally_of-moved}
use Rattle.batch_aggregate.proofs.laws.any_order.Goals as goal

pub returns : goal.returns
returns c = record {
  stands = StandsFor_any_order;
  tallies = λ item rows others moved. tally_of-moved rows others moved item;
  joined = λ item rows more. tally_of-append rows more item;
}
