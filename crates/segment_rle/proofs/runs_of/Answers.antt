use Rattle.std.proofs.Common.{arith}
use Rattle.segment_rle.proofs.RunLemmas.{HasRuns-push, HasRuns-same}
use Rattle.segment_rle.proofs.runs_of.Goals as goal
use Rattle.segment_rle.proofs.runs_of.Goals.{then-i-codes+in_ok-push+in_ok-push-2, then-i-codes-via-then-i-codes, then-i-codes-via-else-i-codes+then-codes-i, else-i-codes+else-codes-i}

pub loop-i-preserved : goal.loop-i-preserved
loop-i-preserved c = elim c.if-i-codes.branch [
  | then-i-codes+in_ok-push+in_ok-push-2 w ↦
      rw (w.run_codes-is, w.ends-is, w.in_ok-push.ensures.items, w.in_ok-push-2.ensures.items)
      (HasRuns-push _ _ _ _ c.loop-i.invariant (omega arith) (λ more. elim w.then-i-codes.branch [
        | then-i-codes-via-then-i-codes v ↦ absurd (omega (arith, v.if-i-codes.true))
        | then-i-codes-via-else-i-codes+then-codes-i v ↦ v.if-codes-i.true
      ]))
  | else-i-codes+else-codes-i w ↦
      rw (w.run_codes-is, w.ends-is) (HasRuns-same _ _ _ _ c.loop-i.invariant (omega (arith, w.if-i-codes.false)) w.if-codes-i.false)
]
