use Rattle.std.proofs.Common.{sym, ◌∙◌}
use Rattle.batch_filter.proofs.CutLemmas.{codes_from}
use Rattle.batch_filter.proofs.cut.Codes.of.Goals as goal

pub returns-clause-codes : goal.returns-clause-codes
returns-clause-codes c =
    codes_from c.args.segment.now.body c.past_null-first.result c.last_code-last.result c.last_code-last.ensures.known (c.codes_in_order.ensures.order c.args.segment.now.body) c.past_null-first.ensures.most
    (λ some. sym c.cell_of.ensures ∙ c.past_null-first.ensures.null some) (λ none e. c.past_null-first.ensures.some none (c.cell_of.ensures ∙ e))
