use Rattle.std.proofs.Common.{◌≡◌, true, false, inl, inr, sym, ap, ◌∙◌, arith}
use Rattle.std.proofs.lemmas.Bool.{cases_lt}
use Rattle.column_segment.specs.Cells.{is_below}
use Rattle.column_segment.specs.Bodies.{code_in}
use Rattle.column_segment.proofs.Orders.{below-down, below-up}
use Rattle.column_segment.proofs.segment.Segment.cut.Goals as goal

pub cell_of-requires : goal.cell_of-requires
cell_of-requires c = c.last_code-last.ensures.known _ (omega (arith, c.loop-low.invariant.within))

pub loop-low-preserved-then-is_below : goal.loop-low-preserved-then-is_below
loop-low-preserved-then-is_below c = record {
  ordered = omega arith;
  within = c.loop-low.invariant.within;
  before = λ code low. below-down c.args.self.now.body c.args.tied c.args.bound.now code _ (c.last_code-last.ensures.known _ (omega (arith, c.loop-low.invariant.within))) (omega (arith, low))
      (sym (ap (is_below c.args.tied c.args.bound.now) c.cell_of.ensures) ∙ sym c.is_below.ensures ∙ c.if-is_below.true);
  after = c.loop-low.invariant.after;
}

pub loop-low-preserved : goal.loop-low-preserved
loop-low-preserved c = record {
  ordered = omega arith;
  within = let within = c.loop-low.invariant.within in omega arith;
  before = c.loop-low.invariant.before;
  after = λ code high last. below-up c.args.self.now.body c.args.tied c.args.bound.now _ code (c.last_code-last.ensures.known code last) high (sym (ap (is_below c.args.tied c.args.bound.now) c.cell_of.ensures) ∙ sym c.is_below.ensures ∙ c.if-is_below.false);
}

pub returns : goal.returns
returns c = λ i there.
    let most = c.last_code-last.ensures.most i there in (
      (λ less. c.loop-low.invariant.before (code_in c.args.self.now.body i) less),
      (λ is. elim (cases_lt (code_in c.args.self.now.body i) c.loop-low.low) [
        | inl less ↦ less
        | inr high ↦
            let no = c.loop-low.invariant.after (code_in c.args.self.now.body i) (omega (arith, high)) most in
            let f : true ≡ false = sym is ∙ no in
            cc
      ]),
    )
