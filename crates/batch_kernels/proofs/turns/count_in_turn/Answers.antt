use Rattle.std.proofs.Common.{◌≡◌, ◌+◌, ◌≤◌, ◌<◌, ℕ, ◌&&◌, false, length, slice_index, ap, ◌∙◌, arith}
use Rattle.std.specs.Prelude.{slice_index_or, ◌==◌}
use Rattle.std.proofs.lemmas.Grind.{common_steps}
use mir.Val.{bool_byte}
use Rattle.batch_kernels.specs.Places.{places_with}
use Rattle.batch_kernels.proofs.OneMore.{count-most, fold-count, byte_most, byte_added, table-more}
use Rattle.batch_kernels.proofs.turns.count_in_turn.Goals as goal

pub overflow_add-counts : goal.overflow_add-counts
overflow_add-counts c =
    let key : ℕ = slice_index c.args.keys.now c.loop-i.i in
    let within : key < length c.args.counts.now = c.requires.keys c.loop-i.i c.loop-i-test.true in
    let is : slice_index c.loop-i.counts key ≡ slice_index c.args.counts.now key + length (places_with c.args.mask.now (slice_index c.args.keys.now) key c.loop-i.i)
    = c.loop-i.invariant key within ∙ fold-count (slice_index c.args.counts.now key) (places_with c.args.mask.now (slice_index c.args.keys.now) key c.loop-i.i) in
    let most : length (places_with c.args.mask.now (slice_index c.args.keys.now) key c.loop-i.i) ≤ c.loop-i.i
    = count-most (λ i. slice_index_or c.args.mask.now i false && slice_index c.args.keys.now i == key) c.loop-i.i in
    let one : bool_byte (slice_index_or c.args.mask.now c.loop-i.i false) ≤ 1 = byte_most (slice_index_or c.args.mask.now c.loop-i.i false) in
    grind (arith, common_steps, is, most, one, c.requires.small key within, c.loop-i-test.true)

pub loop-i-preserved : goal.loop-i-preserved
loop-i-preserved c =
    let key : ℕ = slice_index c.args.keys.now c.loop-i.i in
    let len : length c.loop-i.counts ≡ length c.args.counts.now = c.loop-i.auto.counts in
    let within : key < length c.args.counts.now = c.requires.keys c.loop-i.i c.loop-i-test.true in
    λ k there. table-more c.args.mask.now c.args.keys.now (λ n _. n + 1) c.args.counts.now c.loop-i.counts c.loop-i.i
    (slice_index c.loop-i.counts key + bool_byte (slice_index_or c.args.mask.now c.loop-i.i false)) 0
    (omega arith)
    (byte_added (slice_index_or c.args.mask.now c.loop-i.i false) (slice_index c.loop-i.counts key))
    (λ j below. c.loop-i.invariant j (omega arith)) k (omega arith)

pub returns : goal.returns
returns c =
    let all : c.loop-i.i ≡ c.args.count = omega arith in
    λ k there. c.loop-i.invariant k there ∙ fold-count (slice_index c.args.counts.now k) (places_with c.args.mask.now (slice_index c.args.keys.now) k c.loop-i.i)
    ∙ ap (λ n. slice_index c.args.counts.now k + length (places_with c.args.mask.now (slice_index c.args.keys.now) k n)) all
