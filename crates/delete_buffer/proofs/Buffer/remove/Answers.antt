use Rattle.std.proofs.Common.{inl, inr, refl, arith}
use Rattle.delete_buffer.specs.Entries.{Entry}
use Rattle.delete_buffer.proofs.Changes.{recent_gone, recent_less, settled_gone, settled_less}
use Rattle.delete_buffer.proofs.TwoParts.{in_order-merged, in_recent, in_settled, merged_cases}
use Rattle.delete_buffer.proofs.Buffer.remove.Goals as goal

pub invariant_of-self : goal.invariant_of-self
invariant_of-self c =
    let entry : Entry = (c.args.key, c.args.end) in
    rw c.forget.ensures (record {
      parts = recent_less c.self.inside.settled.items c.self.inside.recent.items c.remove.new.entries.items entry c.self.invariant.parts c.if-remove.ensures.order c.if-remove.ensures.gone;
      shared_same = c.self.invariant.shared_same;
      shown_same = tt;
    })

pub returns-then-remove-clause-there : goal.returns-then-remove-clause-there
returns-then-remove-clause-there c =
    rw (← c.self.view_is)
    ((λ yes. in_recent c.self.inside.settled.items c.self.inside.recent.items (c.args.key, c.args.end) (c.if-remove.ensures.there.0 yes)), (λ has. refl))

pub returns-then-remove-clause-gone : goal.returns-then-remove-clause-gone
returns-then-remove-clause-gone c =
    rw (← c.self.view_is)
    (recent_gone c.self.inside.settled.items c.self.inside.recent.items c.remove.new.entries.items (c.args.key, c.args.end) c.if-remove.ensures.gone)

pub returns-then-remove-clause-order : goal.returns-then-remove-clause-order
returns-then-remove-clause-order c =
    in_order-merged c.self.inside.settled.items c.remove.new.entries.items
    (recent_less c.self.inside.settled.items c.self.inside.recent.items c.remove.new.entries.items (c.args.key, c.args.end) c.self.invariant.parts c.if-remove.ensures.order c.if-remove.ensures.gone)

pub invariant_of-self-then-remove-2 : goal.invariant_of-self-then-remove-2
invariant_of-self-then-remove-2 c =
    let entry : Entry = (c.args.key, c.args.end) in
    rw (c.if-remove.ensures.kept, c.forget-then-remove-2.ensures, c.forget-then-remove-2-2.ensures) (record {
      parts = settled_less c.self.inside.settled.items c.self.inside.recent.items c.remove-2.new.entries.items entry c.self.invariant.parts c.if-remove-2.ensures.order c.if-remove-2.ensures.gone;
      shared_same = tt;
      shown_same = tt;
    })

pub returns-then-remove-2-clause-there : goal.returns-then-remove-2-clause-there
returns-then-remove-2-clause-there c =
    rw (← c.self.view_is)
    ((λ yes. in_settled c.self.inside.settled.items c.self.inside.recent.items (c.args.key, c.args.end) (c.if-remove-2.ensures.there.0 yes)), (λ has. refl))

pub returns-then-remove-2-clause-gone : goal.returns-then-remove-2-clause-gone
returns-then-remove-2-clause-gone c =
    rw (← c.self.view_is, c.if-remove.ensures.kept)
    (settled_gone c.self.inside.settled.items c.self.inside.recent.items c.remove-2.new.entries.items (c.args.key, c.args.end) c.if-remove-2.ensures.gone)

pub returns-then-remove-2-clause-order : goal.returns-then-remove-2-clause-order
returns-then-remove-2-clause-order c =
    rw c.if-remove.ensures.kept
    (in_order-merged c.remove-2.new.entries.items c.self.inside.recent.items
    (settled_less c.self.inside.settled.items c.self.inside.recent.items c.remove-2.new.entries.items (c.args.key, c.args.end) c.self.invariant.parts c.if-remove-2.ensures.order c.if-remove-2.ensures.gone))

pub returns-clause-there : goal.returns-clause-there
returns-clause-there c =
    rw (← c.self.view_is) (
      (λ never. absurd (grind arith)),
      (λ has. elim (merged_cases c.self.inside.settled.items c.self.inside.recent.items (c.args.key, c.args.end) has) [
        | inl there ↦ c.if-remove-2.ensures.there.1 there
        | inr there ↦ c.if-remove.ensures.there.1 there
      ]),
    )

pub returns-clause-order : goal.returns-clause-order
returns-clause-order c =
    rw (c.if-remove.ensures.kept, c.if-remove-2.ensures.kept) (in_order-merged c.self.inside.settled.items c.self.inside.recent.items c.self.invariant.parts)
