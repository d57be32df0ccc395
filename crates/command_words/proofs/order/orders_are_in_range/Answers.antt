use Rattle.command_words.proofs.WordPairs.{in_range}
use Rattle.command_words.proofs.order.orders_are_in_range.Goals as goal

pub returns : goal.returns
returns c = in_range
