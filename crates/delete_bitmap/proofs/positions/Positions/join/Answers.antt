use Rattle.std.proofs.Common.{◌≡◌, ◌<◌, ℕ, List, Bool, false, [], ◌∷◌, length, get_or, refl, sym, ap, ◌∙◌, arith}
use Rattle.std.specs.Prelude.{◌||◌}
use Rattle.std.proofs.lemmas.Bool.Decides.{nat_tests}
use Rattle.delete_bitmap.specs.Bits.{bit_in, bits_in}
use Rattle.delete_bitmap.proofs.BitLemmas.{length-bits_in, bits_in-alike, bits_in-joined, joined_none}
use Rattle.delete_bitmap.proofs.positions.Positions.join.Goals as goal

pub returns-then-is_empty-clause-ok : goal.returns-then-is_empty-clause-ok
returns-then-is_empty-clause-ok c = λ p.
    let zero : length c.other.inside.words.items ≡ 0 = grind (arith, nat_tests) in
    let none : c.other.inside.words.items ≡ [] = no_words c.other.inside.words.items zero in
    let n : ℕ = c.other.inside.length in
    let is : c.args.other.now ≡ bits_in n [] = sym c.other.view_is ∙ ap (bits_in n) none in
    joined_none n c.args.self.now c.args.other.now is p
  where
    no_words : (words : List ℕ) → length words ≡ 0 → words ≡ []
    no_words [] none = refl
    no_words (word ∷ words) none = absurd (omega arith)

pub returns-clause-ok : goal.returns-clause-ok
returns-clause-ok c = λ p.
    let n : ℕ = c.self.inside.length in
    let same : c.other.inside.length ≡ n =
    sym (length-bits_in c.other.inside.length c.other.inside.words.items) ∙ ap length c.other.view_is ∙ sym c.requires ∙ ap length (sym c.self.view_is) ∙ length-bits_in n c.self.inside.words.items in
    let mine : bits_in n c.cover.new.words.items ≡ c.args.self.now = bits_in-alike n c.cover.new.words.items c.self.inside.words.items c.cover.ensures.same ∙ c.self.view_is in
    let theirs : bits_in n c.other.inside.words.items ≡ c.args.other.now = ap (λ m. bits_in m c.other.inside.words.items) (sym same) ∙ c.other.view_is in
    let joined : (k : ℕ) → k < n → bit_in c.set_each.new.words.items k ≡ (bit_in c.cover.new.words.items k || bit_in c.other.inside.words.items k) =
    λ k below. c.set_each.ensures.bits k (omega (arith, c.in_ok-cover.ensures.there)) ∙ ap (λ (ws : List ℕ). bit_in c.cover.new.words.items k || bit_in ws k) c.deref.ensures.value in
    bits_in-joined n c.set_each.new.words.items c.cover.new.words.items c.other.inside.words.items joined p
    ∙ ap (λ (bits : List Bool). get_or bits p false || get_or (bits_in n c.other.inside.words.items) p false) mine
    ∙ ap (λ (bits : List Bool). get_or c.args.self.now p false || get_or bits p false) theirs
