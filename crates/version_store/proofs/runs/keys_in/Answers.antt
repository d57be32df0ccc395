use Rattle.std.proofs.Common.{◌+◌, arith}
use Rattle.version_store.proofs.LoadLaws.{length-taken, fewer_taken}
use Rattle.version_store.proofs.runs.keys_in.Goals as goal

pub overflow_add-keys : goal.overflow_add-keys
overflow_add-keys c =
    let more = length-taken c.args.runs.now c.loop-run.run-index c.run-item.result c.loop-run-test.true c.run-item.is in
    let fewer = fewer_taken (c.loop-run.run-index + 1) c.args.runs.now in
    omega (arith, more, fewer, c.requires, c.loop-run.invariant, c.len-keys.ensures)

pub loop-run-preserved : goal.loop-run-preserved
loop-run-preserved c =
    let more = length-taken c.args.runs.now c.loop-run.run-index c.run-item.result c.loop-run-test.true c.run-item.is in
    omega (arith, more, c.loop-run.invariant, c.len-keys.ensures)
