use Rattle.std.proofs.Common.{◌∙◌, ◌+◌, ◌&&◌, refl, ap, sym, arith}
use Rattle.column_segment.specs.Bodies.{code_in}
use Rattle.batch_filter.specs.Codes.{takes}
use Rattle.batch_filter.proofs.CellLemmas.{none_between}
use Rattle.batch_filter.proofs.choice.Choice.narrow_batch.Goals as goal

pub returns-then-not-has_any : goal.returns-then-not-has_any
returns-then-not-has_any c =
    let none = none_between c.args.mask.now c.args.from c.args.count _ (omega arith) c.requires.within (sym c.has_any.ensures ∙ c.if-not-has_any.true) in (
      refl,
      λ i l. none i l ∙ sym (ap (λ b. b && takes c.args.self.now (code_in c.args.segment.now.body (c.args.from + i))) (none i l)),
      λ i past. refl,
    )
