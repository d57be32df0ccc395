use Rattle.std.proofs.Common.{◌≡◌, ℕ, List, Bool, false, length, get_or, map, sym, ap, ◌∙◌, Result, Ok, Err, OnOk}
use Rattle.std.specs.Prelude.{◌||◌}
use Rattle.delete_bitmap.specs.Kept.{Stamp, ends_of, without_above}
use Rattle.delete_bitmap.specs.Marks.{end_at, is_removable}
use Rattle.delete_bitmap.proofs.EndLemmas.{End, length-ends_of, set_within}
use Rattle.delete_bitmap.proofs.EndBatches.{length-without_above, removable-ends_of, removable_at}
use Rattle.delete_bitmap.proofs.Marks.take_ended.Goals as goal

pub take_out_above-requires : goal.take_out_above-requires
take_out_above-requires c = rw (c.in_ok-ended.ensures, c.deref.ensures.value) (λ k d there. set_within c.self.inside.ended _ (c.self.invariant.marked k d there))

pub join-requires : goal.join-requires
join-requires c =
    c.requires ∙ sym (ap length c.self.view_is) ∙ length-ends_of c.self.inside.stamps.items c.self.inside.ended
    ∙ sym (ap length c.take_out_above.ensures ∙ length-without_above c.args.s c.deref.result.now c.in_ok-ended.ended ∙ ap length c.in_ok-ended.ensures)

pub returns-clause-ok : goal.returns-clause-ok
returns-clause-ok c = weaker c.join.result (λ joined p. joined p ∙ ap (λ (b : Bool). get_or c.args.positions.now p false || b) (ended p)) c.join.ensures.ok
  where
    weaker : {P Q T E : Type 0} (r : Result T E) → (P → Q) → OnOk r P → OnOk r Q
    weaker (Ok x) f h = f h
    weaker (Err e) f h = h

    left : c.take_out_above.new.positions ≡ map (is_removable c.args.s) (ends_of c.self.inside.stamps.items c.self.inside.ended)
    left =
        c.take_out_above.ensures ∙ ap (λ (xs : List Stamp). without_above c.args.s xs c.in_ok-ended.ended) c.deref.ensures.value
        ∙ ap (without_above c.args.s c.self.inside.stamps.items) c.in_ok-ended.ensures
        ∙ sym (removable-ends_of c.args.s c.self.inside.stamps.items c.self.inside.ended c.self.invariant.in_order c.self.invariant.marked)

    ended : (p : ℕ) → get_or c.take_out_above.new.positions p false ≡ is_removable c.args.s (end_at c.args.self.now p)
    ended p =
        ap (λ (bits : List Bool). get_or bits p false) left ∙ removable_at c.args.s (ends_of c.self.inside.stamps.items c.self.inside.ended) p
        ∙ ap (λ (ends : List End). is_removable c.args.s (end_at ends p)) c.self.view_is
