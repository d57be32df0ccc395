use Rattle.std.proofs.Common.{◌≡◌, ◌<◌, ℕ, length, false, slice_index, arith, min}
use Rattle.std.specs.Prelude.{slice_index_or}
use Rattle.batch_kernels.proofs.OneMore.{by_inside, table-more}
use Rattle.batch_kernels.proofs.turns.least_in_turn.Goals as goal

pub loop-i-preserved : goal.loop-i-preserved
loop-i-preserved c =
    let key : ℕ = slice_index c.args.keys.now c.loop-i.i in
    let len : length c.loop-i.least ≡ length c.args.least.now = c.loop-i.auto.least in
    let within : key < length c.args.least.now = c.requires.keys c.loop-i.i c.loop-i-test.true in
    λ k there. table-more c.args.mask.now c.args.keys.now (λ m i. min m (slice_index c.args.codes.now i)) c.args.least.now c.loop-i.least c.loop-i.i
    c.lesser.result 0
    (omega arith)
    (by_inside (slice_index_or c.args.mask.now c.loop-i.i false) _ _ _ c.lesser.ensures.inside c.lesser.ensures.outside)
    (λ j below. c.loop-i.invariant j (omega arith)) k (omega arith)
