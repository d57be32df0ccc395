use Rattle.std.proofs.Common.{◌+◌, ◌≤◌, false, length, ap, ◌∙◌, arith}
use Rattle.std.specs.Prelude.{slice_index_or}
use Rattle.std.proofs.lemmas.Grind.{common_steps}
use mir.Val.{bool_byte}
use Rattle.batch_kernels.specs.Places.{places}
use Rattle.batch_kernels.proofs.OneMore.{count-most, count-byte, byte_most}
use Rattle.batch_kernels.proofs.masks.chosen.Goals as goal

pub overflow_add-chosen : goal.overflow_add-chosen
overflow_add-chosen c =
    let most : length (places c.args.mask.now c.loop-i.i) ≤ c.loop-i.i = count-most (λ i. slice_index_or c.args.mask.now i false) c.loop-i.i in
    let one : bool_byte (slice_index_or c.args.mask.now c.loop-i.i false) ≤ 1 = byte_most (slice_index_or c.args.mask.now c.loop-i.i false) in
    grind (arith, common_steps, c.loop-i.invariant, most, one, c.requires, c.loop-i-test.true)

pub loop-i-preserved : goal.loop-i-preserved
loop-i-preserved c =
    ap (λ n. n + bool_byte (slice_index_or c.args.mask.now c.loop-i.i false)) c.loop-i.invariant
    ∙ count-byte (λ i. slice_index_or c.args.mask.now i false) c.loop-i.i
