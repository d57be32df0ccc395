use Rattle.std.proofs.Common.{◌≡◌, ◌+◌, ◌-◌, ◌≤◌, ◌<◌, ◌&&◌, false, length, slice_index, slice_index_or, take, drop, ap, arith}
use Rattle.std.specs.Prelude.{◌==◌}
use Rattle.batch_kernels.specs.Places.{places_with}
use Rattle.batch_kernels.proofs.Blocks.{count-block}
use Rattle.batch_kernels.proofs.OneMore.{count-most}
use Rattle.batch_kernels.proofs.tables.count_by_each.Goals as goal

pub count_block-requires-clause-small : goal.count_block-requires-clause-small
count_block-requires-clause-small c = λ k there.
    let mask = c.args.mask.now in
    let keys = c.args.keys.now in
    let from = c.loop-from.from in
    let before = c.loop-from.invariant in
    let within : k < length c.args.counts.now = omega (arith, there, before.same) in
    let most : length (places_with mask (slice_index keys) k from) ≤ from = count-most (λ i. slice_index_or mask i false && slice_index keys i == k) from in
    omega (arith, before.counts k within, most, c.requires.small k within, before.within)

pub loop-from-preserved : goal.loop-from-preserved
loop-from-preserved c =
    let mask = c.args.mask.now in
    let keys = c.args.keys.now in
    let from = c.loop-from.from in
    let n = c.min-to.result - from in
    let before = c.loop-from.invariant in
    let some : length (take n (drop from keys)) ≡ n = omega arith in
    let last : from + n ≡ c.min-to.result = omega arith in
    record {
      same = omega (arith, before.same);
      within = omega arith;
      counts = λ k there.
          let here = c.count_block.ensures k (omega (arith, there, before.same)) in
          let so_far = before.counts k there in
          let joined = count-block mask keys from n k (length (take n (drop from keys))) some in
          let ends = ap (λ m. length (places_with mask (slice_index keys) k m)) last in
          omega (arith, here, so_far, joined, ends);
    }
