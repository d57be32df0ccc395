use Rattle.column_segment.proofs.Orders.{codes-compare, codes-same}
use Rattle.column_segment.proofs.laws.codes_in_order.Goals as goal

pub returns-clause-order : goal.returns-clause-order
returns-clause-order c = λ body code other known known_other. codes-compare body code other known known_other

pub returns-clause-same : goal.returns-clause-same
returns-clause-same c = λ body code other known known_other e. codes-same body code other known known_other e
