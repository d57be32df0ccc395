use Rattle.std.proofs.Common.{arith}
use Rattle.delta_store.proofs.Cuts.{end_at, end_in_gap}
use Rattle.delta_store.proofs.run.Run.end_of.Goals as goal

pub overflow_add-result : goal.overflow_add-result
overflow_add-result c = omega (arith, c.search.ensures.small, c.in-Ok.ensures.found.in_range)

pub returns-in-Ok : goal.returns-in-Ok
returns-in-Ok c = end_at _ c.search.ensures.order _ _ c.in-Ok.ensures.found

pub returns-in-Err : goal.returns-in-Err
returns-in-Err c = end_in_gap _ _ _ c.in-Err.ensures.absent
