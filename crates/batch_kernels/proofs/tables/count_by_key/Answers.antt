use Rattle.std.proofs.Common.{◌+◌, ◌<◌, ◌≤◌, slice_index, length, ap, arith}
use Rattle.batch_kernels.specs.Places.{key_in}
use Rattle.batch_kernels.proofs.Lone.{lone-count, lone-key, lone-there, places-most}
use Rattle.batch_kernels.proofs.tables.count_by_key.Goals as goal

pub overflow_add-counts : goal.overflow_add-counts
overflow_add-counts c =
    let there : c.in-Some.key < length c.args.counts.now = lone-there c.args.keys.now c.in-Some.key c.args.count (length c.args.counts.now) c.in-Some.is c.requires.room.0 c.requires.keys in
    let most : c.chosen.result ≤ c.args.count = places-most c.args.mask.now c.args.count c.chosen.result c.chosen.ensures in
    omega (arith, most, c.requires.small c.in-Some.key there)

pub returns-in-Some : goal.returns-in-Some
returns-in-Some c = λ k there.
    lone-count c.args.mask.now c.args.counts.now (slice_index c.args.counts.now c.in-Some.key + c.chosen.result) c.in-Some.key k c.args.count
    (lone-there c.args.keys.now c.in-Some.key c.args.count (length c.args.counts.now) c.in-Some.is c.requires.room.0 c.requires.keys)
    (ap (λ n. slice_index c.args.counts.now c.in-Some.key + n) c.chosen.ensures)
    (key_in c.args.keys.now) (λ i _. lone-key c.args.keys.now c.in-Some.key c.in-Some.is i)
