use Rattle.std.proofs.Common.{◌≡◌, ap, ◌∙◌, arith}
use Rattle.delete_bitmap.proofs.EndLemmas.{above_in, count-removable}
use Rattle.delete_bitmap.proofs.Marks.removable.Goals as goal

pub overflow_sub-result : goal.overflow_sub-result
overflow_sub-result c =
    let all = count-removable c.args.floor c.self.inside.stamps.items c.self.inside.ended c.self.invariant.in_order c.self.invariant.marked in
    let above : c.count_above.result ≡ above_in c.args.floor c.self.inside.stamps.items = c.count_above.ensures ∙ ap (above_in c.args.floor) c.deref.ensures.value in
    omega (arith, all, above, c.self.invariant.counted)

pub returns : goal.returns
returns c =
    let all = count-removable c.args.floor c.self.inside.stamps.items c.self.inside.ended c.self.invariant.in_order c.self.invariant.marked in
    let above : c.count_above.result ≡ above_in c.args.floor c.self.inside.stamps.items = c.count_above.ensures ∙ ap (above_in c.args.floor) c.deref.ensures.value in
    rw (← c.self.view_is) (omega (arith, all, above, c.self.invariant.counted))
