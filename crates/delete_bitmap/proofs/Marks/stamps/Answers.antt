use Rattle.delete_bitmap.proofs.EndBatches.{stamped_at, stamp_of}
use Rattle.delete_bitmap.proofs.Marks.stamps.Goals as goal

pub returns-clause-stamps : goal.returns-clause-stamps
returns-clause-stamps c = λ p commit.
    rw (c.as_slice.ensures.value, ← c.self.view_is) (
      stamped_at c.self.inside.stamps.items c.self.inside.ended p commit c.self.invariant.in_order c.self.invariant.marked,
      stamp_of c.self.inside.stamps.items c.self.inside.ended p commit c.self.invariant.in_order c.self.invariant.marked,
    )
