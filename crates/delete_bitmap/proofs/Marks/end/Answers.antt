use Rattle.std.proofs.Common.{Some, sym, ap, ◌∙◌}
use Rattle.std.proofs.lemmas.List.{get_or_default}
use Rattle.delete_bitmap.specs.declared.MarkedEnd.TheVariants.{Stamped}
use Rattle.delete_bitmap.specs.Kept.{Stamp, no_stamp}
use Rattle.delete_bitmap.proofs.EndLemmas.{end-unset, end-plain, end-stamp}
use Rattle.delete_bitmap.proofs.StampSearch.{HasNone-gap}
use Rattle.delete_bitmap.proofs.Marks.end.Goals as goal

pub returns-then-not-contains : goal.returns-then-not-contains
returns-then-not-contains c =
    rw (← c.self.view_is) (sym (end-unset c.self.inside.stamps.items c.self.inside.ended c.args.position c.self.invariant.marked (sym c.if-not-contains.ensures)))

pub returns-in-Ok : goal.returns-in-Ok
returns-in-Ok c =
    let at = rw c.deref.ensures.value at c.in-Ok.ensures.found in
    let read = c.index.ensures ∙ get_or_default c.self.inside.stamps.items c.in-Ok.place c.index.result.now no_stamp at.there in
    rw (← c.self.view_is) (
    ap (λ (s : Stamp). Some (Stamped s.1)) read
    ∙ sym (end-stamp c.self.inside.stamps.items c.self.inside.ended c.args.position c.in-Ok.place c.self.invariant.in_order c.self.invariant.marked at))

pub returns-in-Err : goal.returns-in-Err
returns-in-Err c =
    let gap = rw c.deref.ensures.value at c.in-Err.ensures.absent in
    rw (← c.self.view_is)
    (sym (end-plain c.self.inside.stamps.items c.self.inside.ended c.args.position (HasNone-gap c.self.inside.stamps.items c.args.position c.in-Err.field-0 gap) (sym c.if-not-contains.ensures)))
