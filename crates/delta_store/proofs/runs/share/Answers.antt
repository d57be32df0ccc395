use Rattle.delta_store.proofs.RunLemmas.{shared-more}
use Rattle.delta_store.proofs.runs.share.Goals as goal

pub loop-run-preserved : goal.loop-run-preserved
loop-run-preserved c = rw c.in_ok-push.ensures.items (shared-more c.args.runs.now c.loop-run.shared.items c.loop-run.run-index c.run-item.result c.in_ok-try_clone.field-0 c.loop-run-test.true c.run-item.is c.in_ok-try_clone.ensures c.loop-run.invariant)
