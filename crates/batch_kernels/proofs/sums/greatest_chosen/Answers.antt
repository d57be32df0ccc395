use Rattle.std.proofs.Common.{false, slice_index, cond, ap, sym, ◌∙◌, max}
use Rattle.std.specs.Prelude.{slice_index_or}
use Rattle.batch_kernels.proofs.OneMore.{by_inside, fold-more}
use Rattle.batch_kernels.proofs.sums.greatest_chosen.Goals as goal

pub loop-i-preserved : goal.loop-i-preserved
loop-i-preserved c =
    let b = slice_index_or c.args.mask.now c.loop-i.i false in
    by_inside b c.greater-all.result (max c.loop-i.all (slice_index c.args.codes.now c.loop-i.i)) c.loop-i.all c.greater-all.ensures.inside c.greater-all.ensures.outside
    ∙ ap (λ m. cond b (max m (slice_index c.args.codes.now c.loop-i.i)) m) c.loop-i.invariant
    ∙ sym (fold-more (λ i. slice_index_or c.args.mask.now i false) (λ m i. max m (slice_index c.args.codes.now i)) c.args.greatest c.loop-i.i)
