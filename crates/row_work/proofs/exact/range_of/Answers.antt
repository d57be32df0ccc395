use Rattle.std.proofs.Common.{◌∙◌, ap, arith, sym}
use Rattle.cs_model.specs.Truths.{truth_if}
use Rattle.row_work.proofs.KeptRange.{two_parts}
use Rattle.row_work.proofs.exact.range_of.Goals as goal

pub returns-in_ok-range_of_part-in-len2-2 : goal.returns-in_ok-range_of_part-in-len2-2
returns-in_ok-range_of_part-in-len2-2 c = λ key row stands.
    two_parts c.args.schema.now row c.args.pred.now c.in-AllOf.parts c.as_slice.result.now c.in-AllOf.is c.as_slice.ensures (omega (arith, c.in-len2.len_at_least)) (omega (arith, c.in-len2.len_below)) c.first-item.result c.second-item.result
    c.first-item.is c.second-item.is _ _ (c.in_ok-range_of_part-in-len2.ensures key row stands) (c.in_ok-range_of_part-in-len2-2.ensures key row stands)
    ∙ ap truth_if (sym (c.meet.ensures key))
