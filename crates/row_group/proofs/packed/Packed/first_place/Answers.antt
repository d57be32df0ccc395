use Rattle.std.proofs.Common.{arith}
use Rattle.row_group.proofs.packed.Packed.first_place.Goals as goal

pub loop-low-preserved-then-is_before : goal.loop-low-preserved-then-is_before
loop-low-preserved-then-is_before c = record {
  ordered = omega arith;
  within = c.loop-low.invariant.within;
  before = λ i l. c.if-is_before.ensures.before i (omega arith);
  after = c.loop-low.invariant.after;
}

pub loop-low-preserved : goal.loop-low-preserved
loop-low-preserved c = record {
  ordered = omega arith;
  within = let inner = c.loop-low.invariant.within in omega arith;
  before = c.loop-low.invariant.before;
  after = c.if-is_before.ensures.after;
}

pub returns : goal.returns
returns c = record {
  within = omega (arith, c.loop-low.invariant.ordered, c.loop-low.invariant.within);
  before = c.loop-low.invariant.before;
  after = λ i l m. c.loop-low.invariant.after i (omega arith) m;
}
