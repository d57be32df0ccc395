use Rattle.std.proofs.Common.{false, slice_index, cond, ap, sym, ◌∙◌, min}
use Rattle.std.specs.Prelude.{slice_index_or}
use Rattle.batch_kernels.proofs.OneMore.{by_inside, fold-more}
use Rattle.batch_kernels.proofs.sums.least_chosen.Goals as goal

pub loop-i-preserved : goal.loop-i-preserved
loop-i-preserved c =
    let b = slice_index_or c.args.mask.now c.loop-i.i false in
    by_inside b c.lesser-all.result (min c.loop-i.all (slice_index c.args.codes.now c.loop-i.i)) c.loop-i.all c.lesser-all.ensures.inside c.lesser-all.ensures.outside
    ∙ ap (λ m. cond b (min m (slice_index c.args.codes.now c.loop-i.i)) m) c.loop-i.invariant
    ∙ sym (fold-more (λ i. slice_index_or c.args.mask.now i false) (λ m i. min m (slice_index c.args.codes.now i)) c.args.least c.loop-i.i)
