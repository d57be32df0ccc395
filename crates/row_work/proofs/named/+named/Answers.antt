use Rattle.cs_model.specs.Truths.{truth}
use Rattle.row_work.proofs.NamedRows.{part_true}
use Rattle.row_work.proofs.named.+named.Goals as goal

pub constants_of_all-returns-in-Some : goal.constants_of_all-returns-in-Some
constants_of_all-returns-in-Some t c = λ row all.
    c.in-Some.ensures row (part_true (λ part. truth part row c.args.schema.now) c.args.parts.now c.loop-part.part-index c.part-item.result c.loop-part-test.true c.part-item.is all)
