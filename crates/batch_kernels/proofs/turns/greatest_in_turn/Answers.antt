use Rattle.std.proofs.Common.{◌≡◌, ◌<◌, ℕ, length, false, slice_index, arith, max}
use Rattle.std.specs.Prelude.{slice_index_or}
use Rattle.batch_kernels.proofs.OneMore.{by_inside, table-more}
use Rattle.batch_kernels.proofs.turns.greatest_in_turn.Goals as goal

pub loop-i-preserved : goal.loop-i-preserved
loop-i-preserved c =
    let key : ℕ = slice_index c.args.keys.now c.loop-i.i in
    let len : length c.loop-i.greatest ≡ length c.args.greatest.now = c.loop-i.auto.greatest in
    let within : key < length c.args.greatest.now = c.requires.keys c.loop-i.i c.loop-i-test.true in
    λ k there. table-more c.args.mask.now c.args.keys.now (λ m i. max m (slice_index c.args.codes.now i)) c.args.greatest.now c.loop-i.greatest c.loop-i.i
    c.greater.result 0
    (omega arith)
    (by_inside (slice_index_or c.args.mask.now c.loop-i.i false) _ _ _ c.greater.ensures.inside c.greater.ensures.outside)
    (λ j below. c.loop-i.invariant j (omega arith)) k (omega arith)
