use Rattle.delta_store.proofs.Search.{past_gap}
use Rattle.delta_store.proofs.run.Run.is_past.Goals as goal

pub returns-in-Some : goal.returns-in-Some
returns-in-Some c =
    let last = rw (c.in-Some.is, c.deref.ensures.value) at c.last.ensures.value in
    rw (← c.self.view_is) (past_gap c.self.inside.pairs.items c.self.invariant.0 c.args.key c.in-Some.field-0.now last c.lt.result c.lt.ensures)
