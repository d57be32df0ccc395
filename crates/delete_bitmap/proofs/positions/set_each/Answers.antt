use Rattle.std.proofs.Common.{◌/◌, ◌≤◌, length, get_or, sym, ap, ◌∙◌, inl, inr, arith}
use Rattle.std.specs.Prelude.{bit_or}
use Rattle.std.specs.Int.Bits.{or_zero_r}
use Rattle.std.proofs.lemmas.Bool.{cases_lt}
use Rattle.std.proofs.lemmas.List.{get_or_past}
use Rattle.delete_bitmap.proofs.BitLemmas.{bit_in-joined}
use Rattle.delete_bitmap.proofs.positions.set_each.Goals as goal

pub returns-clause-bits : goal.returns-clause-bits
returns-clause-bits c = λ k there. bit_in-joined c.loop-i.words.items c.args.words.now.items c.args.others.now k (elim (cases_lt (k / 64) c.loop-i.i) [
  | inl less ↦ c.loop-i.invariant.done (k / 64) less
  | inr more ↦
      let past : length c.args.others.now ≤ k / 64 = omega (arith, c.min-i-end.ensures, c.len.ensures, there) in
      c.loop-i.invariant.rest (k / 64) more
      ∙ sym (ap (bit_or (get_or c.args.words.now.items (k / 64) 0)) (get_or_past c.args.others.now (k / 64) 0 past) ∙ or_zero_r (get_or c.args.words.now.items (k / 64) 0))
])
