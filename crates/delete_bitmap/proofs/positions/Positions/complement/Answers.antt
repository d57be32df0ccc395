use Rattle.std.proofs.Common.{◌≡◌, ◌<◌, ℕ, not, map, ap, ◌∙◌, arith}
use Rattle.delete_bitmap.specs.Bits.{bit_in}
use Rattle.delete_bitmap.proofs.BitLemmas.{bits_in-alike, bits_in-turned}
use Rattle.delete_bitmap.proofs.positions.Positions.complement.Goals as goal

pub returns-clause-ok : goal.returns-clause-ok
returns-clause-ok c =
    let n : ℕ = c.self.inside.length in
    let turned : (k : ℕ) → k < n → bit_in c.invert_each.new.words.items k ≡ not (bit_in c.cover.new.words.items k) = λ k below. c.invert_each.ensures.bits k (omega (arith, c.in_ok-cover.ensures.there)) in
    bits_in-turned n c.invert_each.new.words.items c.cover.new.words.items turned
    ∙ ap (map not) (bits_in-alike n c.cover.new.words.items c.self.inside.words.items c.cover.ensures.same ∙ c.self.view_is)
