use Rattle.std.proofs.Common.{arith}
use Rattle.store_tests.proofs.Ascending.{ascends}
use Rattle.store_tests.proofs.version_store_tests.ascend.Goals as goal

pub returns : goal.returns
returns c = λ yes. ascends c.args.keys.now (λ k d within. c.loop-i.invariant k d (omega (arith, within, c.loop-i-test.false)))
