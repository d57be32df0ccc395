use Rattle.std.proofs.Common.{sym, ◌∙◌}
use Rattle.delete_bitmap.proofs.EndLemmas.{count-marked}
use Rattle.delete_bitmap.proofs.Marks.count.Goals as goal

pub returns : goal.returns
returns c =
    rw (← c.self.view_is) (c.self.invariant.counted ∙ sym (count-marked c.self.inside.stamps.items c.self.inside.ended c.self.invariant.in_order c.self.invariant.marked))
