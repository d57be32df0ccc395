use Rattle.std.proofs.Common.{◌≡◌, ◌+◌, ◌≤◌, ℤ, pos, ◌+ℤ◌, false, length, FitsSigned, w64, to_z, of_z, cond, ap, sym, subst, ◌∙◌, rules, arith}
use Rattle.std.specs.Int.{w128}
use Rattle.std.specs.Prelude.{slice_index_or}
use Rattle.std.proofs.lemmas.Int.{to_z-of_z}
use mir.Val.{bool_byte}
use Rattle.batch_kernels.specs.Places.{places, IsSumOf}
use Rattle.batch_kernels.proofs.OneMore.{IsSumOf-more, IsSumOf-same, by_inside, fold-more, count-most, count-byte}
use Rattle.batch_kernels.proofs.sums.sum_chosen.Goals as goal

pub with_number-all-requires-clause-small : goal.with_number-all-requires-clause-small
with_number-all-requires-clause-small c =
    let same : to_z w128 (of_z w128 c.args.sum) ≡ c.args.sum = to_z-of_z w128 c.args.sum c.ranges.sum in
    let most : length (places c.args.mask.now c.loop-i.i) ≤ c.loop-i.i = count-most (λ i. slice_index_or c.args.mask.now i false) c.loop-i.i in
    IsSumOf-more (4611686018427388928 + length (places c.args.mask.now c.loop-i.i)) 4611686018427389952 (to_z w128 c.loop-i.all-bits)
    (omega (arith, most, c.requires.room, c.loop-i-test.true))
    (c.loop-i.invariant.bound 4611686018427388928 (subst (IsSumOf 4611686018427388928) (sym same) c.requires.small))

pub loop-i-preserved : goal.loop-i-preserved
loop-i-preserved c =
    let b = slice_index_or c.args.mask.now c.loop-i.i false in
    let number : ℤ = slice_index_or c.args.numbers.now c.loop-i.i (pos 0) in
    let start : ℤ = to_z w128 (of_z w128 c.args.sum) in
    let all : ℤ = to_z w128 c.loop-i.all-bits in
    let fits : FitsSigned w128 c.with_number-all.result = search rules in
    let fits_number : FitsSigned w64 number = search rules in
    let inside : bool_byte b ≡ 1 → c.with_number-all.result ≡ all +ℤ number = λ one. c.with_number-all.ensures.inside one ∙ ap (λ n. all +ℤ n) (to_z-of_z w64 number fits_number) in
    let outside : bool_byte b ≡ 0 → c.with_number-all.result ≡ all = c.with_number-all.ensures.outside in
    rw (to_z-of_z w128 c.with_number-all.result fits) (record {
      sum = by_inside b c.with_number-all.result (all +ℤ number) all inside outside
          ∙ ap (λ m. cond b (m +ℤ number) m) c.loop-i.invariant.sum
          ∙ sym (fold-more (λ i. slice_index_or c.args.mask.now i false) (λ m i. m +ℤ slice_index_or c.args.numbers.now i (pos 0)) start c.loop-i.i);
      bound = λ n is. IsSumOf-same (n + length (places c.args.mask.now c.loop-i.i) + bool_byte b) (n + length (places c.args.mask.now (c.loop-i.i + 1))) c.with_number-all.result
          (omega (arith, count-byte (λ i. slice_index_or c.args.mask.now i false) c.loop-i.i))
          (c.with_number-all.ensures.bound (n + length (places c.args.mask.now c.loop-i.i)) (c.loop-i.invariant.bound n is));
    })
