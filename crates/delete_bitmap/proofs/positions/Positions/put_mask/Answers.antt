use Rattle.std.proofs.Common.{◌≡◌, ◌+◌, ◌<◌, ◌≤◌, ℕ, Bool, true, false, nat_lt, List, inl, inr, get_or, refl, sym, ap, ◌∙◌, arith}
use Rattle.std.specs.Prelude.{◌&&◌}
use Rattle.std.proofs.lemmas.Bool.{cases_lt}
use Rattle.std.proofs.lemmas.Bool.Decides.{nat_tests}
use Rattle.std.proofs.lemmas.List.{get_or_past}
use Rattle.delete_bitmap.specs.Bits.{bit_in, bits_in}
use Rattle.delete_bitmap.proofs.BitLemmas.{length-bits_in, get_or-bits_in}
use Rattle.delete_bitmap.proofs.positions.Positions.put_mask.Goals as goal

and_false : (b : Bool) → (b && false) ≡ false
and_false true = refl
and_false false = refl

pub returns : goal.returns
returns c = λ i below.
    let n : ℕ = c.self.inside.length in
    let words : List ℕ = c.self.inside.words.items in
    let at : Bool = get_or c.args.self.now (c.args.from + i) false in
    elim (cases_lt i c.min-end.result) [
      | inl low ↦
          let short : c.args.from + i < c.self.inside.length = omega (arith, low, c.min-end.ensures, c.saturating_sub.ensures) in
          let less : i < c.args.count = omega (arith, low, c.min-end.ensures) in
          let within : nat_lt i c.args.count ≡ true = grind (arith, nat_tests) in
          c.put_all.ensures.others i (inl low) ∙ c.put_bits.ensures.bits i low ∙ ap (λ (ws : List ℕ). bit_in ws (c.args.from + i)) c.deref.ensures.value
          ∙ sym (get_or-bits_in n words (c.args.from + i) short) ∙ ap (λ (bits : List Bool). get_or bits (c.args.from + i) false) c.self.view_is
          ∙ sym (ap (λ (b : Bool). b && at) within)
      | inr high ↦ c.put_all.ensures.put i high below ∙ sym (elim (cases_lt i c.args.count) [
        | inl less ↦
            let past : c.self.inside.length ≤ c.args.from + i = omega (arith, high, less, c.min-end.ensures, c.saturating_sub.ensures) in
            let none : at ≡ false =
            ap (λ (bits : List Bool). get_or bits (c.args.from + i) false) (sym c.self.view_is) ∙ get_or_past (bits_in n words) (c.args.from + i) false (omega (arith, past, length-bits_in n words)) in
            ap (λ (b : Bool). nat_lt i c.args.count && b) none ∙ and_false (nat_lt i c.args.count)
        | inr more ↦ let without : nat_lt i c.args.count ≡ false = grind (arith, nat_tests) in ap (λ (b : Bool). b && at) without
      ])
    ]
