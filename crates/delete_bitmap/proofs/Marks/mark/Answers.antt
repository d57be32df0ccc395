use Rattle.std.proofs.Common.{List, Bool, Some, true, set, ap, ◌∙◌, arith}
use Rattle.std.proofs.lemmas.List.Sums.{count_by-le-length}
use Rattle.delete_bitmap.specs.declared.MarkedEnd.TheVariants.{Stamped}
use Rattle.delete_bitmap.specs.Kept.{no_stamp}
use Rattle.delete_bitmap.proofs.EndLemmas.{End, IsFree-unmarked, ends_of-insert}
use Rattle.delete_bitmap.proofs.StampSearch.{count-set, AreKept-insert}
use Rattle.delete_bitmap.proofs.Marks.mark.Goals as goal

pub unreachable-requires : goal.unreachable-requires
unreachable-requires c =
    let free = IsFree-unmarked c.self.inside.stamps.items c.self.inside.ended c.args.position c.self.invariant.in_order c.self.invariant.marked (rw (← c.self.view_is) at c.requires) in
    let found = rw (c.deref.ensures.value, c.in_ok-reserve.ensures.items) at c.in-Ok.ensures.found in
    free.none c.in-Ok.field-0 no_stamp found.there found.is_of

pub insert-requires : goal.insert-requires
insert-requires c =
    let free = IsFree-unmarked c.self.inside.stamps.items c.self.inside.ended c.args.position c.self.invariant.in_order c.self.invariant.marked (rw (← c.self.view_is) at c.requires) in
    free.within

-- a bit was not set, so there are fewer that are than bits
pub overflow_add-self : goal.overflow_add-self
overflow_add-self c =
    let free = IsFree-unmarked c.self.inside.stamps.items c.self.inside.ended c.args.position c.self.invariant.in_order c.self.invariant.marked (rw (← c.self.view_is) at c.requires) in
    let more = count-set c.self.inside.ended c.args.position free.within free.unset in
    let small = rw c.in_ok-insert.ensures.ok at c.in_ok-insert.ensures.small in
    omega (arith, more, small, c.self.invariant.counted, count_by-le-length (λ (bit : Bool). bit) (set c.self.inside.ended c.args.position true))

pub invariant_of-self-2 : goal.invariant_of-self-2
invariant_of-self-2 c =
    let free = IsFree-unmarked c.self.inside.stamps.items c.self.inside.ended c.args.position c.self.invariant.in_order c.self.invariant.marked (rw (← c.self.view_is) at c.requires) in
    let gap = rw (c.deref.ensures.value, c.in_ok-reserve.ensures.items) at c.in-Err.ensures.absent in
    rw (c.in_ok-insert.ensures.ok, c.in-Ok-insert.ensures.items, c.in_ok-reserve.ensures.items)
    (AreKept-insert c.self.inside.ended c.self.inside.stamps.items c.self.inside.count c.args.position c.args.end c.in-Err.place c.self.invariant free.within free.unset gap)

pub returns-clause-ok : goal.returns-clause-ok
returns-clause-ok c =
    let free = IsFree-unmarked c.self.inside.stamps.items c.self.inside.ended c.args.position c.self.invariant.in_order c.self.invariant.marked (rw (← c.self.view_is) at c.requires) in
    rw (c.in_ok-insert.ensures.ok, c.in-Ok-insert.ensures.items, c.in_ok-reserve.ensures.items) (
    ends_of-insert c.self.inside.stamps.items c.self.inside.ended c.in-Err.place c.args.position c.args.end free.none
    ∙ ap (λ (ends : List End). set ends c.args.position (Some (Stamped c.args.end))) c.self.view_is)
