use Rattle.std.proofs.Common.{rules}
use Rattle.delta_store.proofs.FilterLemmas.{admitted-set}
use Rattle.delta_store.proofs.Search.{sets_only_set, sorted_insert, sets_only_insert}
use Rattle.delta_store.proofs.run.Run.set.Goals as goal

pub returns-in-Ok-clause-pairs : goal.returns-in-Ok-clause-pairs
returns-in-Ok-clause-pairs c = rw (← c.self.view_is) (sets_only_set c.self.inside.pairs.items c.self.invariant.0 c.args.key c.in-Ok.at c.in-Ok.ensures.found c.args.place)

pub invariant_of-self-in-Ok : goal.invariant_of-self-in-Ok
invariant_of-self-in-Ok c =
    let pairs = c.self.inside.pairs.items in (
      search rules,
      admitted-set c.self.inside.filter c.add.new.self c.args.key c.add.ensures.added c.add.ensures.kept pairs _ c.args.place (sets_only_set pairs c.self.invariant.0 c.args.key c.in-Ok.at c.in-Ok.ensures.found c.args.place) c.self.invariant.1,
    )

pub invariant_of-self-in-Ok-insert : goal.invariant_of-self-in-Ok-insert
invariant_of-self-in-Ok-insert c =
    let pairs = c.self.inside.pairs.items in
    rw c.in-Ok-insert.ensures.items (
      sorted_insert pairs c.args.key c.in-Err.at c.in-Err.ensures.absent c.args.place c.self.invariant.0,
      admitted-set c.self.inside.filter c.add.new.self c.args.key c.add.ensures.added c.add.ensures.kept pairs _ c.args.place (sets_only_insert pairs c.args.key c.in-Err.at c.in-Err.ensures.absent c.args.place) c.self.invariant.1,
    )

pub returns-in-Ok-insert-clause-pairs : goal.returns-in-Ok-insert-clause-pairs
returns-in-Ok-insert-clause-pairs c = rw (c.in-Ok-insert.ensures.items, ← c.self.view_is) (sets_only_insert c.self.inside.pairs.items c.args.key c.in-Err.at c.in-Err.ensures.absent c.args.place)
