use Rattle.std.proofs.Common.{◌≡◌, ◌+◌, ◌-◌, length, slice_index, take, drop, ap, ◌∙◌, min, arith}
use Rattle.batch_kernels.specs.Places.{places_with, least_with}
use Rattle.batch_kernels.proofs.Blocks.{fold-block, in-block}
use Rattle.batch_kernels.proofs.tables.least_by_each.Goals as goal

pub loop-from-preserved : goal.loop-from-preserved
loop-from-preserved c =
    let mask = c.args.mask.now in
    let keys = c.args.keys.now in
    let codes = c.args.codes.now in
    let from = c.loop-from.from in
    let n = c.min-to.result - from in
    let before = c.loop-from.invariant in
    let some : length (take n (drop from keys)) ≡ n = omega arith in
    let last : from + n ≡ c.min-to.result = omega arith in
    record {
      same = omega (arith, before.same);
      within = omega arith;
      least = λ k there.
          c.least_block.ensures k (omega (arith, there, before.same))
          ∙ fold-block mask keys from n k (λ m i. min m (slice_index codes i)) (λ m i. min m (slice_index (take n (drop from codes)) i))
          (slice_index c.args.least.now k) (slice_index c.loop-from.least k) (length (take n (drop from keys))) some
          (λ i m below. ap (min m) (in-block codes from n i 0 below)) (before.least k there)
          ∙ ap (λ m. least_with (slice_index c.args.least.now k) codes (places_with mask (slice_index keys) k m)) last;
    }
