use Rattle.std.proofs.Common.{◌∙◌, ap, sym}
use Rattle.cs_model.specs.Truths.{truth_if}
use Rattle.row_work.proofs.KeptRange.{range_between}
use Rattle.row_work.proofs.exact.range_of_part.Goals as goal

pub returns-in_ok-below-in-Between-default-false-default-default : goal.returns-in_ok-below-in-Between-default-false-default-default
returns-in_ok-below-in-Between-default-false-default-default c = λ key row stands.
    let case = c.in-Between-default-false-default-default in
    range_between c.args.schema.now row c.args.pred.now case.column case.negated case.low case.high _ _ case.is (sym case.negated-is ∙ case.negated-test) c.if-column-schema.true
    (c.in_ok-above-in-Between-default-false-default-default.ensures key row stands) (c.in_ok-below-in-Between-default-false-default-default.ensures key row stands)
    ∙ ap truth_if (sym (c.meet.ensures key))
