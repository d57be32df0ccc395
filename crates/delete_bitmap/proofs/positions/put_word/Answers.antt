use Rattle.std.proofs.Common.{◌+◌, ◌-◌, eqb, sym, ap, ◌∙◌, arith}
use Rattle.std.specs.Int.{bit_at}
use Rattle.std.proofs.lemmas.Nat.Bits.{bit_at-zero, bit_at_ones}
use Rattle.delete_bitmap.proofs.positions.put_word.Goals as goal

pub returns-then-word-eq0-clause-bits : goal.returns-then-word-eq0-clause-bits
returns-then-word-eq0-clause-bits c = λ i from to.
    c.put_all.ensures.put i from to
    ∙ sym (ap (λ w. eqb (bit_at w (c.args.bit + (i - c.args.from))) 1) c.if-word-eq0.true ∙ ap (λ b. eqb b 1) (bit_at-zero (c.args.bit + (i - c.args.from))))

pub returns-then-word-eq18446744073709551615-clause-bits : goal.returns-then-word-eq18446744073709551615-clause-bits
returns-then-word-eq18446744073709551615-clause-bits c = λ i from to.
    c.put_all-then-word-eq18446744073709551615.ensures.put i from to
    ∙ sym (ap (λ w. eqb (bit_at w (c.args.bit + (i - c.args.from))) 1) c.if-word-eq18446744073709551615.true
    ∙ ap (λ b. eqb b 1) (bit_at_ones 64 (c.args.bit + (i - c.args.from)) (omega (arith, from, to, c.requires.bits))))
