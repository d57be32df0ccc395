use Rattle.std.proofs.Common.{◌≡◌, inl, inr, ◌∙◌, ap, arith, get_or}
use Rattle.std.proofs.lemmas.Bool.{cases_lt}
use Rattle.std.proofs.lemmas.List.{get_or_default}
use Rattle.row_group.proofs.pack.are_all.Goals as goal

pub loop-begin-preserved : goal.loop-begin-preserved
loop-begin-preserved c = λ i d l. elim (cases_lt i c.loop-begin.begin-index) [
  | inl earlier ↦ c.loop-begin.invariant i d earlier
  | inr n ↦
      let is : i ≡ c.loop-begin.begin-index = omega arith in
      ap (λ j. get_or c.args.begins.now j d) is ∙ get_or_default c.args.begins.now c.loop-begin.begin-index d 0 c.loop-begin-test.true ∙ c.if-begin-floor.false
]

pub returns : goal.returns
returns c = λ i d l. c.loop-begin.invariant i d (omega (arith, l, c.loop-begin-test.false))
