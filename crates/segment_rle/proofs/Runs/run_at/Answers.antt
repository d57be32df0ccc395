use Rattle.std.proofs.Common.{arith}
use Rattle.segment_rle.proofs.RunLemmas.{IsRunAt-run, IsRun-at_point, at_point, ends_rise}
use Rattle.segment_rle.proofs.Runs.run_at.Goals as goal

pub ended_before-run-requires : goal.ended_before-run-requires
ended_before-run-requires c = rw c.as_slice.ensures (ends_rise _ _ c.args.self.now.in_order)

pub at-requires : goal.at-requires
at-requires c =
    let h = rw c.as_slice.ensures at c.ended_before-run.ensures in
    omega (arith, (at_point _ _ _ c.requires h.bound h.ended).1, c.args.self.now.in_order.paired)

pub at-requires-2 : goal.at-requires-2
at-requires-2 c = let h = rw c.as_slice.ensures at c.ended_before-run.ensures in (at_point _ _ _ c.requires h.bound h.ended).1

pub returns-clause-run : goal.returns-clause-run
returns-clause-run c =
    let h = rw c.as_slice.ensures at c.ended_before-run.ensures in
    IsRun-at_point _ _ _ _ _ _ c.args.self.now.in_order c.requires h.bound h.ended h.not_ended c.at.ensures.item c.at-2.ensures.item

pub returns-clause-codes : goal.returns-clause-codes
returns-clause-codes c = λ all of.
    let h = rw c.as_slice.ensures at c.ended_before-run.ensures in
    IsRunAt-run all _ _ _ _ _ of
    (IsRun-at_point _ _ _ _ _ _ c.args.self.now.in_order c.requires h.bound h.ended h.not_ended c.at.ensures.item c.at-2.ensures.item)
