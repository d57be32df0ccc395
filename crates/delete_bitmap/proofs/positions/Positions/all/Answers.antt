use Rattle.std.proofs.Common.{◌≡◌, ◌-◌, ◌^◌, List, ℕ, replicate, ap, ◌∙◌, arith}
use Rattle.delete_bitmap.specs.Bits.{bits_in}
use Rattle.delete_bitmap.proofs.BitLemmas.{bits_in-ones}
use Rattle.delete_bitmap.proofs.positions.Positions.all.Goals as goal

pub returns : goal.returns
returns c =
    let ones : c.in_ok-words.words.items ≡ replicate c.div_ceil.result (2 ^ 64 - 1) = c.in_ok-words.ensures.items_if_clones_equal (λ y h. h) in
    ap (λ (ws : List ℕ). bits_in c.args.length ws) ones ∙ bits_in-ones c.args.length c.div_ceil.result (omega (arith, c.div_ceil.ensures))
