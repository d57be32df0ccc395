use Rattle.std.proofs.Common.{◌≡◌, ◌+◌, ◌-◌, ◌≤◌, ◌<◌, ◌+ℤ◌, ℕ, pos, ◌&&◌, false, length, slice_index, take, drop, ap, ◌∙◌, arith}
use Rattle.std.specs.Prelude.{◌==◌, slice_index_or}
use Rattle.batch_kernels.specs.Places.{places_with, sum_with}
use Rattle.batch_kernels.proofs.Blocks.{count-block, fold-block, in-block}
use Rattle.batch_kernels.proofs.OneMore.{count-most, IsSumOf-more, IsSumOf-same}
use Rattle.batch_kernels.proofs.tables.sum_by_each.Goals as goal

pub sum_block-requires-clause-small : goal.sum_block-requires-clause-small
sum_block-requires-clause-small c = λ k there.
    let mask = c.args.mask.now in
    let keys = c.args.keys.now in
    let from = c.loop-from.from in
    let before = c.loop-from.invariant in
    let within : k < length c.args.sums.now = omega (arith, there, before.same) in
    let placed : ℕ = length (places_with mask (slice_index keys) k from) in
    let most : placed ≤ from = count-most (λ i. slice_index_or mask i false && slice_index keys i == k) from in
    IsSumOf-more (4611686018427387904 + placed) 4611686018427388928 (slice_index_or c.loop-from.sums k (pos 0)) (omega (arith, most, before.within, c.requires.room))
    (before.bound k 4611686018427387904 within (c.requires.small k within))

pub loop-from-preserved : goal.loop-from-preserved
loop-from-preserved c =
    let mask = c.args.mask.now in
    let keys = c.args.keys.now in
    let numbers = c.args.numbers.now in
    let from = c.loop-from.from in
    let n = c.min-to.result - from in
    let before = c.loop-from.invariant in
    let some : length (take n (drop from keys)) ≡ n = omega arith in
    let last : from + n ≡ c.min-to.result = omega arith in
    record {
      same = omega (arith, before.same);
      within = omega arith;
      sums = λ k there.
          c.sum_block.ensures.sums k (omega (arith, there, before.same))
          ∙ fold-block mask keys from n k (λ m i. m +ℤ slice_index_or numbers i (pos 0)) (λ m i. m +ℤ slice_index_or (take n (drop from numbers)) i (pos 0))
          (slice_index_or c.args.sums.now k (pos 0)) (slice_index_or c.loop-from.sums k (pos 0)) (length (take n (drop from keys))) some
          (λ i m below. ap (λ x. m +ℤ x) (in-block numbers from n i (pos 0) below)) (before.sums k there)
          ∙ ap (λ m. sum_with (slice_index_or c.args.sums.now k (pos 0)) numbers (places_with mask (slice_index keys) k m)) last;
      bound = λ k m there is.
          let placed : ℕ = length (places_with mask (slice_index keys) k from) in
          let here : ℕ = length (places_with (take n (drop from mask)) (slice_index (take n (drop from keys))) k (length (take n (drop from keys)))) in
          let joined = count-block mask keys from n k (length (take n (drop from keys))) some in
          let ends = ap (λ m. length (places_with mask (slice_index keys) k m)) last in
          IsSumOf-same (m + placed + here) (m + length (places_with mask (slice_index keys) k c.min-to.result)) (slice_index_or c.sum_block.new.sums k (pos 0))
          (omega (arith, joined, ends))
          (c.sum_block.ensures.bound k (m + placed) (omega (arith, there, before.same)) (before.bound k m there is));
    }
