use Rattle.delete_buffer.specs.Entries.{ended, merged}
use Rattle.delete_buffer.proofs.Changes.{added_apart, added_moved, added_parts}
use Rattle.delete_buffer.proofs.TwoParts.{in_order-merged}
use Rattle.delete_buffer.proofs.Buffer.add_all.Goals as goal

pub merge_in-requires-clause-parts : goal.merge_in-requires-clause-parts
merge_in-requires-clause-parts c =
    added_apart c.self.inside.settled.items c.self.inside.recent.items c.args.keys.now c.args.end c.self.invariant.parts c.requires.ascending (rw (← c.self.view_is) at c.requires.absent)

pub invariant_of-self : goal.invariant_of-self
invariant_of-self c =
    rw (c.merge_in.ensures.entries, c.forget.ensures) (record {
      parts = added_parts c.self.inside.settled.items c.self.inside.recent.items c.args.keys.now c.args.end c.self.invariant.parts c.requires.ascending (rw (← c.self.view_is) at c.requires.absent);
      shared_same = c.self.invariant.shared_same;
      shown_same = tt;
    })

pub returns-clause-entries : goal.returns-clause-entries
returns-clause-entries c =
    rw (← c.self.view_is, c.merge_in.ensures.entries)
    (added_moved c.self.inside.settled.items c.self.inside.recent.items c.args.keys.now c.args.end c.self.invariant.parts c.requires.ascending (rw (← c.self.view_is) at c.requires.absent))

pub returns-clause-order : goal.returns-clause-order
returns-clause-order c =
    rw c.merge_in.ensures.entries
    (in_order-merged c.self.inside.settled.items (merged c.self.inside.recent.items (ended c.args.keys.now c.args.end))
    (added_parts c.self.inside.settled.items c.self.inside.recent.items c.args.keys.now c.args.end c.self.invariant.parts c.requires.ascending (rw (← c.self.view_is) at c.requires.absent)))
