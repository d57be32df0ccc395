use Rattle.std.proofs.Common.{◌≡◌, ◌+◌, ◌≤◌, ◌<◌, ℕ, ℤ, pos, ◌+ℤ◌, false, ◌&&◌, length, FitsSigned, w64, to_z, of_z, slice_index, ap, sym, subst, ◌∙◌, rules, arith}
use Rattle.std.specs.Int.{w128}
use Rattle.std.specs.Prelude.{slice_index_or, ◌==◌}
use Rattle.std.proofs.lemmas.Int.{to_z-of_z}
use mir.Val.{bool_byte}
use Rattle.batch_kernels.specs.Places.{places_with, IsSumOf}
use Rattle.batch_kernels.proofs.OneMore.{IsSumOf-more, sum-table-bound, by_inside, table-more, count-most}
use Rattle.batch_kernels.proofs.turns.sum_in_turn.Goals as goal

pub with_number-requires-clause-small : goal.with_number-requires-clause-small
with_number-requires-clause-small c =
    let key : ℕ = slice_index c.args.keys.now c.loop-i.i in
    let within : key < length c.args.sums.now = c.requires.keys c.loop-i.i c.loop-i-test.true in
    let sum : ℤ = slice_index_or c.loop-i.sums key (pos 0) in
    let fits : FitsSigned w128 sum = search rules in
    let most : length (places_with c.args.mask.now (slice_index c.args.keys.now) key c.loop-i.i) ≤ c.loop-i.i
    = count-most (λ i. slice_index_or c.args.mask.now i false && slice_index c.args.keys.now i == key) c.loop-i.i in
    rw (to_z-of_z w128 sum fits)
    (IsSumOf-more (4611686018427388928 + length (places_with c.args.mask.now (slice_index c.args.keys.now) key c.loop-i.i)) 4611686018427389952 sum
    (omega (arith, most, c.requires.room.0, c.loop-i-test.true))
    (c.loop-i.invariant.bound key 4611686018427388928 within (c.requires.small key within)))

pub loop-i-preserved : goal.loop-i-preserved
loop-i-preserved c =
    let key : ℕ = slice_index c.args.keys.now c.loop-i.i in
    let len : length c.loop-i.sums ≡ length c.args.sums.now = c.loop-i.auto.sums in
    let within : key < length c.args.sums.now = c.requires.keys c.loop-i.i c.loop-i-test.true in
    let b = slice_index_or c.args.mask.now c.loop-i.i false in
    let number : ℤ = slice_index_or c.args.numbers.now c.loop-i.i (pos 0) in
    let sum : ℤ = slice_index_or c.loop-i.sums key (pos 0) in
    let r : ℤ = c.with_number.result in
    let fits : FitsSigned w128 c.with_number.result = search rules in
    let fits_number : FitsSigned w64 number = search rules in
    let fits_sum : FitsSigned w128 sum = search rules in
    let same : to_z w128 (of_z w128 sum) ≡ sum = to_z-of_z w128 sum fits_sum in
    let inside : bool_byte b ≡ 1 → r ≡ sum +ℤ number = λ one. c.with_number.ensures.inside one ∙ ap (λ n. to_z w128 (of_z w128 sum) +ℤ n) (to_z-of_z w64 number fits_number) ∙ ap (λ s. s +ℤ number) same in
    let outside : bool_byte b ≡ 0 → r ≡ sum = λ zero. c.with_number.ensures.outside zero ∙ same in
    let bound : (n : ℕ) → IsSumOf n sum → IsSumOf (n + bool_byte b) r = λ n is. c.with_number.ensures.bound n (subst (IsSumOf n) (sym same) is) in
    rw (to_z-of_z w128 c.with_number.result fits) (record {
      sums = λ k there. table-more c.args.mask.now c.args.keys.now (λ m i. m +ℤ slice_index_or c.args.numbers.now i (pos 0)) c.args.sums.now c.loop-i.sums c.loop-i.i
          r (pos 0) (omega arith) (by_inside b r (sum +ℤ number) sum inside outside)
          (λ j below. c.loop-i.invariant.sums j (omega arith)) k (omega arith);
      bound = λ k n there is. sum-table-bound c.args.mask.now c.args.keys.now c.loop-i.sums c.loop-i.i r k n (omega arith) bound (c.loop-i.invariant.bound k n there is);
    })
