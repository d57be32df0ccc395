use Rattle.std.proofs.Common.{arith}
use Rattle.delta_store.proofs.Cuts.{stretch_cut, stretch_order}
use Rattle.delta_store.proofs.run.Run.between.Goals as goal

pub returns-clause-order : goal.returns-clause-order
returns-clause-order c =
    let start = rw (← c.self.view_is) at c.start_of-from.ensures in
    let last = rw (← c.self.view_is) at c.end_of.ensures in
    rw c.deref.ensures.value (stretch_order c.self.inside.pairs.items c.self.invariant.0 c.args.least c.args.greatest c.start_of-from.result c.max-to.result c.end_of.result start last (grind (arith, c.max-to.ensures)))

pub returns-clause-places : goal.returns-clause-places
returns-clause-places c =
    let start = rw (← c.self.view_is) at c.start_of-from.ensures in
    let last = rw (← c.self.view_is) at c.end_of.ensures in
    rw (c.deref.ensures.value, ← c.self.view_is) (stretch_cut c.self.inside.pairs.items c.self.invariant.0 c.args.least c.args.greatest c.start_of-from.result c.max-to.result c.end_of.result start last (grind (arith, c.max-to.ensures)))
