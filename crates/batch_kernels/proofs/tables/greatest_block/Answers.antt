use Rattle.std.proofs.Common.{length, slice_index, max}
use Rattle.batch_kernels.proofs.Lone.{lone-table}
use Rattle.batch_kernels.proofs.tables.greatest_block.Goals as goal

pub returns-then-are_one : goal.returns-then-are_one
returns-then-are_one c = λ k there.
    let keys = c.args.keys.now in
    lone-table c.args.mask.now (λ m i. max m (slice_index c.args.codes.now i)) c.args.greatest.now 0 c.greatest_chosen.result (slice_index keys 0) k (length keys)
    (c.requires.keys 0 c.requires.some) c.greatest_chosen.ensures (slice_index keys) c.if-are_one.ensures
