use Rattle.std.proofs.Common.{◌∙◌, sym}
use Rattle.batch_filter.proofs.BatchLemmas.{needed_some, needed_none}
use Rattle.batch_filter.proofs.batch.+needed.Goals as goal

pub count_of_parts-returns-in-Some : goal.count_of_parts-returns-in-Some
count_of_parts-returns-in-Some t c =
    sym (needed_some c.args.columns.now c.args.parts.now c.loop-part.part-index c.part-item.result c.in-Some.count c.loop-part-test.true c.part-item.is (sym c.count_needed.ensures ∙ c.in-Some.is))
    ∙ c.loop-part.invariant

pub count_of_parts-loop-part-preserved : goal.count_of_parts-loop-part-preserved
count_of_parts-loop-part-preserved t c =
    sym (needed_none c.args.columns.now c.args.parts.now c.loop-part.part-index c.part-item.result c.loop-part-test.true c.part-item.is (λ n some. c.in_default.not-Some n (c.count_needed.ensures ∙ some)))
    ∙ c.loop-part.invariant
