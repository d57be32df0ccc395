use Rattle.std.proofs.Common.{◌+◌, ◌-◌, ◌<◌, ◌%◌, eqb, inl, inr, sym, ap, ◌∙◌, arith}
use Rattle.std.specs.Int.{bit_at}
use Rattle.std.proofs.lemmas.Bool.{cases_lt}
use Rattle.delete_bitmap.proofs.BitLemmas.{bit_in-word}
use Rattle.delete_bitmap.proofs.positions.put_bits.Goals as goal

pub loop-done-preserved : goal.loop-done-preserved
loop-done-preserved c = record {
  within = omega (arith, c.min-stop.ensures);
  bits = λ k low. elim (cases_lt k c.loop-done.done) [
    | inl early ↦ c.put_word.ensures.others k (inl early) ∙ c.loop-done.invariant.bits k early
    | inr late ↦
        let near : (c.args.from + c.loop-done.done) % 64 + (k - c.loop-done.done) < 64 = omega (arith, low, late, c.min-stop.ensures) in
        c.put_word.ensures.bits k late low
        ∙ ap (λ w. eqb (bit_at w ((c.args.from + c.loop-done.done) % 64 + (k - c.loop-done.done))) 1) c.word_at.ensures
        ∙ sym (bit_in-word c.args.words.now (c.args.from + c.loop-done.done) (c.args.from + k) (k - c.loop-done.done) (omega (arith, late)) near)
  ];
  others = λ k high. c.put_word.ensures.others k (inr (omega (arith, high, c.min-stop.ensures))) ∙ c.loop-done.invariant.others k high;
}
