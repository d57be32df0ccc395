use Rattle.std.proofs.Common.{arith}
use Rattle.delete_bitmap.proofs.EndLemmas.{settled-ends_of, count-settling, AreKept-filter}
use Rattle.delete_bitmap.proofs.Marks.settle.Goals as goal

pub invariant_of-self : goal.invariant_of-self
invariant_of-self c = rw c.keep_above.ensures.kept (AreKept-filter c.args.floor c.self.inside.ended c.self.inside.stamps.items c.self.inside.count c.self.invariant)

pub returns-clause-marks : goal.returns-clause-marks
returns-clause-marks c =
    rw (c.keep_above.ensures.kept, ← c.self.view_is)
    (settled-ends_of c.args.floor c.self.inside.stamps.items c.self.inside.ended c.self.invariant.in_order c.self.invariant.marked)

pub returns-clause-count : goal.returns-clause-count
returns-clause-count c =
    let settling = count-settling c.args.floor c.self.inside.stamps.items c.self.inside.ended c.self.invariant.in_order c.self.invariant.marked in
    let counted = rw c.keep_above.ensures.kept at c.keep_above.ensures.count in
    rw (← c.self.view_is) (omega (arith, settling, counted))
