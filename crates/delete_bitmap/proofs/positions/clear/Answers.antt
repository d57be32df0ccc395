use Rattle.std.proofs.Common.{◌≡◌, ◌<◌, ◌≤◌, ◌*◌, ◌/◌, ◌%◌, ◌^◌, ℕ, List, length, get_or, set, ap, ◌∙◌, arith}
use Rattle.std.specs.Prelude.{bit_and}
use Rattle.std.specs.Int.{bit_not, w64}
use Rattle.std.proofs.lemmas.List.{get_or_default}
use Rattle.delete_bitmap.specs.Bits.{bits_in}
use Rattle.delete_bitmap.proofs.BitLemmas.{bits_in-clear, bits_in-clear_past}
use Rattle.delete_bitmap.proofs.positions.clear.Goals as goal

pub returns-then-position-len-clause-bits : goal.returns-then-position-len-clause-bits
returns-then-position-len-clause-bits c = λ n below.
    let words : List ℕ = c.args.words.now.items in
    let there : c.args.position / 64 < length words = omega arith in
    let read : c.index-word.result.now ≡ get_or words (c.args.position / 64) 0 = c.index-word.ensures ∙ get_or_default words (c.args.position / 64) c.index-word.result.now 0 there in
    ap (λ (w : ℕ). bits_in n (set words (c.args.position / 64) (bit_and w (bit_not w64 (1 * 2 ^ (c.args.position % 64) % 2 ^ 64))))) read
    ∙ bits_in-clear words c.args.position there n below

pub returns-else-position-len-clause-bits : goal.returns-else-position-len-clause-bits
returns-else-position-len-clause-bits c = λ n below.
    let past : length c.args.words.now.items ≤ c.args.position / 64 = omega arith in
    bits_in-clear_past c.args.words.now.items c.args.position n past below
