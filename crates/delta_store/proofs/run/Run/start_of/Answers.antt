use Rattle.delta_store.proofs.Cuts.{start_at, start_in_gap}
use Rattle.delta_store.proofs.run.Run.start_of.Goals as goal

pub returns-in-Ok : goal.returns-in-Ok
returns-in-Ok c = start_at _ c.search.ensures.order _ _ c.in-Ok.ensures.found

pub returns-in-Err : goal.returns-in-Err
returns-in-Err c = start_in_gap _ _ _ c.in-Err.ensures.absent
