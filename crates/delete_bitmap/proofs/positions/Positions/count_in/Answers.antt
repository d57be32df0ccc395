use Rattle.std.proofs.Common.{◌≡◌, ◌+◌, ◌-◌, ℕ, Bool, List, false, get_or, count_by, sym, ap, ◌∙◌, arith, add-zero}
use Rattle.std.specs.List.{range_with_len}
use Rattle.std.proofs.lemmas.List.{get_or_past}
use Rattle.delete_bitmap.specs.Bits.{bit_in, bits_in}
use Rattle.delete_bitmap.proofs.BitLemmas.{length-bits_in, get_or-bits_in}
use Rattle.delete_bitmap.proofs.Counts.{count-join, count-none, count-same}
use Rattle.delete_bitmap.proofs.positions.Positions.count_in.Goals as goal

pub returns : goal.returns
returns c =
    let n : ℕ = c.self.inside.length in
    let words : List ℕ = c.self.inside.words.items in
    let from : ℕ = c.args.from in
    let there : ℕ = c.min-there.result in
    let past : ℕ = c.args.count - there in
    let kept = λ (p : ℕ). get_or (bits_in n words) p false in
    let all : there + past ≡ c.args.count = omega (arith, c.min-there.ensures) in
    let none : count_by kept (range_with_len (from + there) past) ≡ 0 =
    count-none kept (from + there) past
    (λ i below. get_or_past (bits_in n words) (from + there + i) false (omega (arith, below, length-bits_in n words, c.min-there.ensures, c.saturating_sub.ensures))) in
    c.count_bits.ensures
    ∙ ap (λ (ws : List ℕ). count_by (bit_in ws) (range_with_len from there)) c.deref.ensures.value
    ∙ count-same (bit_in words) kept from from there (λ i below. sym (get_or-bits_in n words (from + i) (omega (arith, below, c.min-there.ensures, c.saturating_sub.ensures))))
    ∙ sym (add-zero (count_by kept (range_with_len from there)))
    ∙ ap (λ m. count_by kept (range_with_len from there) + m) (sym none)
    ∙ sym (count-join kept from there past)
    ∙ ap (λ m. count_by kept (range_with_len from m)) all
    ∙ ap (λ (bits : List Bool). count_by (λ p. get_or bits p false) (range_with_len from c.args.count)) c.self.view_is
