use Rattle.std.proofs.Common.{◌+◌, ◌≤◌, length, slice_index, ap, arith}
use Rattle.batch_kernels.proofs.Lone.{lone-count, places-most}
use Rattle.batch_kernels.proofs.tables.count_block.Goals as goal

pub overflow_add-counts : goal.overflow_add-counts
overflow_add-counts c =
    let keys = c.args.keys.now in
    let most : c.chosen.result ≤ length keys = places-most c.args.mask.now (length keys) c.chosen.result c.chosen.ensures in
    omega (arith, most, c.requires.small (slice_index keys 0) (c.requires.keys 0 c.requires.some))

pub returns-then-are_one : goal.returns-then-are_one
returns-then-are_one c = λ k there.
    let keys = c.args.keys.now in
    let entry = slice_index c.args.counts.now (slice_index keys 0) in
    lone-count c.args.mask.now c.args.counts.now (entry + c.chosen.result) (slice_index keys 0) k (length keys) (c.requires.keys 0 c.requires.some)
    (ap (λ n. entry + n) c.chosen.ensures) (slice_index keys) c.if-are_one.ensures
