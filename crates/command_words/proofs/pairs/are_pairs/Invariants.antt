use Rattle.std.proofs.Common.{◌≡◌, map, string_bytes, length}
use Rattle.command_words.specs.Walk.{are_pairs}
use Rattle.command_words.proofs.pairs.are_pairs.Given as goal

-- the pairs passed are good ones
abbrev pub invariant-pairs : goal.invariant-pairs
invariant-pairs l = are_pairs l.mode (map string_bytes l.rest) ≡ are_pairs l.mode (map string_bytes l.fn.words)

abbrev pub decreases-pairs : goal.decreases-pairs
decreases-pairs l = length l.rest
