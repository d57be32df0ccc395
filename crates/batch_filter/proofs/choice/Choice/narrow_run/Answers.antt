use Rattle.std.proofs.Common.{◌&&◌, false, slice_index_or, ◌+◌, refl, ap, sym, ◌∙◌}
use Rattle.std.proofs.Math.Bool.{and-true}
use Rattle.batch_filter.specs.Codes.{takes}
use Rattle.batch_filter.proofs.SieveLemmas.{narrowed_at_alike}
use Rattle.batch_filter.proofs.choice.Choice.narrow_run.Goals as goal

pub returns-then-takes : goal.returns-then-takes
returns-then-takes c =
    let mask = c.args.mask.now in (
      refl,
      (λ i l. sym (ap (λ b. slice_index_or mask (c.args.from + i) false && b) (sym c.takes.ensures ∙ c.if-takes.true) ∙ and-true (slice_index_or mask (c.args.from + i) false))),
      λ i out. refl,
    )

pub returns : goal.returns
returns c =
    narrowed_at_alike c.args.from c.args.count (λ _. false) (λ _. takes c.args.self.now c.args.code) c.args.mask.now c.keep_none.new.mask
    (λ i l. sym (sym c.takes.ensures ∙ c.if-takes.false)) c.keep_none.ensures
