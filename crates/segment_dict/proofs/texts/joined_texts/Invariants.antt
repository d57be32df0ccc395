use Rattle.std.proofs.Common.{◌≡◌, IsTrue, length, map, take, List, ℕ, Bor}
use Rattle.segment_dict.specs.Texts.{texts_in, ends_rise}
use Rattle.segment_dict.proofs.texts.joined_texts.Given as goal

abbrev pub invariant-loop-text : goal.invariant-loop-text
invariant-loop-text l = (texts_in l.ends.items l.bytes.items ≡ map (λ (text : Bor (List ℕ)). text.now) (take l.text-index l.texts)) × IsTrue (ends_rise 0 l.ends.items (length l.bytes.items))
