use Rattle.std.proofs.Common.{◌≡◌, ◌*◌, ◌/◌, ◌%◌, ◌^◌, ℕ, List, get_or, set, ap, ◌∙◌}
use Rattle.std.specs.Prelude.{bit_or}
use Rattle.std.proofs.lemmas.List.{get_or_default}
use Rattle.delete_bitmap.specs.Bits.{bits_in}
use Rattle.delete_bitmap.proofs.BitLemmas.{bits_in-set}
use Rattle.delete_bitmap.proofs.positions.set.Goals as goal

pub returns-clause-bits : goal.returns-clause-bits
returns-clause-bits c = λ n below.
    let words : List ℕ = c.args.words.now.items in
    let read : c.index-word.result.now ≡ get_or words (c.args.position / 64) 0 = c.index-word.ensures ∙ get_or_default words (c.args.position / 64) c.index-word.result.now 0 c.requires in
    ap (λ (w : ℕ). bits_in n (set words (c.args.position / 64) (bit_or w (1 * 2 ^ (c.args.position % 64) % 2 ^ 64)))) read
    ∙ bits_in-set words c.args.position c.requires n below
