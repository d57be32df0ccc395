use Rattle.delete_buffer.specs.Entries.{without}
use Rattle.delete_buffer.proofs.Changes.{AreParts-without, without-merged}
use Rattle.delete_buffer.proofs.Merges.{none_taken}
use Rattle.delete_buffer.proofs.TwoParts.{in_order-merged}
use Rattle.delete_buffer.proofs.Buffer.remove_all.Goals as goal

pub returns-then-is_empty-clause-entries : goal.returns-then-is_empty-clause-entries
returns-then-is_empty-clause-entries c = none_taken c.args.taken.now c.args.self.now.entries c.if-is_empty.ensures

pub invariant_of-self : goal.invariant_of-self
invariant_of-self c =
    rw (c.remove_all.ensures.entries, c.remove_all-2.ensures.entries, c.forget.ensures, c.forget-then-remove_all.ensures) (record {
      parts = AreParts-without c.args.taken.now c.self.inside.settled.items c.self.inside.recent.items c.self.invariant.parts;
      shared_same = tt;
      shown_same = tt;
    })

pub invariant_of-self-else-remove_all : goal.invariant_of-self-else-remove_all
invariant_of-self-else-remove_all c =
    rw (c.remove_all.ensures.entries, c.forget.ensures) (record {
      parts = rw c.remove_all-2.ensures.entries (AreParts-without c.args.taken.now c.self.inside.settled.items c.self.inside.recent.items c.self.invariant.parts);
      shared_same = rw c.if-remove_all.ensures.kept c.self.invariant.shared_same;
      shown_same = tt;
    })

pub returns-then-remove_all-clause-entries : goal.returns-then-remove_all-clause-entries
returns-then-remove_all-clause-entries c =
    rw (← c.self.view_is, c.remove_all.ensures.entries, c.remove_all-2.ensures.entries)
    (without-merged c.args.taken.now c.self.inside.settled.items c.self.inside.recent.items c.self.invariant.parts)

pub returns-then-remove_all-clause-order : goal.returns-then-remove_all-clause-order
returns-then-remove_all-clause-order c =
    rw (c.remove_all.ensures.entries, c.remove_all-2.ensures.entries)
    (in_order-merged (without c.args.taken.now c.self.inside.settled.items) (without c.args.taken.now c.self.inside.recent.items)
    (AreParts-without c.args.taken.now c.self.inside.settled.items c.self.inside.recent.items c.self.invariant.parts))

pub returns-else-remove_all-clause-entries : goal.returns-else-remove_all-clause-entries
returns-else-remove_all-clause-entries c =
    rw (← c.self.view_is, c.remove_all.ensures.entries, c.remove_all-2.ensures.entries)
    (without-merged c.args.taken.now c.self.inside.settled.items c.self.inside.recent.items c.self.invariant.parts)

pub returns-else-remove_all-clause-order : goal.returns-else-remove_all-clause-order
returns-else-remove_all-clause-order c =
    rw (c.remove_all.ensures.entries, c.remove_all-2.ensures.entries)
    (in_order-merged (without c.args.taken.now c.self.inside.settled.items) (without c.args.taken.now c.self.inside.recent.items)
    (AreParts-without c.args.taken.now c.self.inside.settled.items c.self.inside.recent.items c.self.invariant.parts))
