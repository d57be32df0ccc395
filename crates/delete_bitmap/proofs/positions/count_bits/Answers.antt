use Rattle.std.proofs.Common.{◌+◌, ◌%◌, ◌≤◌, ℕ, eqb, count_by, sym, ap, ◌∙◌, arith}
use Rattle.std.specs.Int.{bit_at}
use Rattle.std.specs.List.{range_with_len}
use Rattle.delete_bitmap.specs.Bits.{bit_in}
use Rattle.delete_bitmap.proofs.BitLemmas.{bit_in-word}
use Rattle.delete_bitmap.proofs.Counts.{count-join, count-most, count-same}
use Rattle.delete_bitmap.proofs.positions.count_bits.Goals as goal

pub overflow_add-counted : goal.overflow_add-counted
overflow_add-counted c =
    let words = c.args.words.now in
    let place : ℕ = c.args.from + c.loop-done.done in
    let before : count_by (bit_in words) (range_with_len c.args.from c.loop-done.done) ≤ c.loop-done.done = count-most (bit_in words) c.args.from c.loop-done.done in
    let here : count_by (λ i. eqb (bit_at c.word_at.result i) 1) (range_with_len (place % 64) c.min-many.result) ≤ c.min-many.result
    = count-most (λ i. eqb (bit_at c.word_at.result i) 1) (place % 64) c.min-many.result in
    omega (arith, before, here, c.loop-done.invariant.counted, c.count_word-counted.ensures, c.min-many.ensures)

pub loop-done-preserved : goal.loop-done-preserved
loop-done-preserved c =
    let words = c.args.words.now in
    let from : ℕ = c.args.from in
    let done : ℕ = c.loop-done.done in
    let many : ℕ = c.min-many.result in
    record {
      within = omega (arith, c.min-many.ensures);
      counted =
          ap (λ n. n + c.count_word-counted.result) c.loop-done.invariant.counted
          ∙ ap (λ n. count_by (bit_in words) (range_with_len from done) + n) (c.count_word-counted.ensures
          ∙ count-same (λ i. eqb (bit_at c.word_at.result i) 1) (bit_in words) ((from + done) % 64) (from + done) many
          (λ i below. ap (λ w. eqb (bit_at w ((from + done) % 64 + i)) 1) c.word_at.ensures
          ∙ sym (bit_in-word words (from + done) (from + done + i) i (omega arith) (omega (arith, below, c.min-many.ensures)))))
          ∙ sym (count-join (bit_in words) from done many);
    }
