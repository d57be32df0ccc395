use Rattle.std.proofs.Common.{◌==◌, sym, ◌∙◌}
use Rattle.batch_filter.proofs.NamedLemmas.{named_from}
use Rattle.batch_filter.proofs.named.+names.Goals as goal

pub each_names-returns-then-not-names_only : goal.each_names-returns-then-not-names_only
each_names-returns-then-not-names_only t c =
    sym (named_from (λ i. i == c.args.column) c.args.parts.now c.loop-part.part-index c.part-item.result c.loop-part-test.true c.part-item.is (sym c.names_only.ensures ∙ c.if-not-names_only.true))
    ∙ c.loop-part.invariant
