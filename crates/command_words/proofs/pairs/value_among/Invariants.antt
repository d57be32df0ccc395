use Rattle.std.proofs.Common.{◌≡◌, map, string_bytes, length}
use Rattle.command_words.specs.Walk.{row_of, value_among}
use Rattle.command_words.proofs.pairs.value_among.Given as goal

-- the names passed are others
abbrev pub invariant-pairs : goal.invariant-pairs
invariant-pairs l = value_among (row_of l.option) (map string_bytes l.rest) ≡ value_among (row_of l.option) (map string_bytes l.fn.words)

abbrev pub decreases-pairs : goal.decreases-pairs
decreases-pairs l = length l.rest
