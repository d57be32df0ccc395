use Rattle.std.proofs.Common.{string_bytes}
use Rattle.command_words.proofs.Ordering.{found_in, only_in}
use Rattle.command_words.proofs.order.Order.of_words.Goals as goal

pub returns-clause-found : goal.returns-clause-found
returns-clause-found c = found_in string_bytes c.in_ok-mode.mode c.in_ok-word.word.now c.in_ok-word.pairs.now c.args.words.now c.as_str.result.now c.order.result c.in_ok-word.ensures.cases.0 c.as_str.ensures.value c.in_ok-mode.ensures c.order.ensures

pub returns-clause-only : goal.returns-clause-only
returns-clause-only c = only_in string_bytes c.in_ok-mode.mode c.in_ok-word.word.now c.in_ok-word.pairs.now c.args.words.now c.as_str.result.now c.order.result c.in_ok-word.ensures.cases.0 c.as_str.ensures.value c.in_ok-mode.ensures c.order.ensures
