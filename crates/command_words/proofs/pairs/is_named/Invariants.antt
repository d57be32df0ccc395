use Rattle.std.proofs.Common.{◌≡◌, map, string_bytes, length}
use Rattle.command_words.specs.Walk.{is_named}
use Rattle.command_words.proofs.pairs.is_named.Given as goal

-- the names passed are others
abbrev pub invariant-pairs : goal.invariant-pairs
invariant-pairs l = is_named l.name (map string_bytes l.rest) ≡ is_named l.name (map string_bytes l.fn.words)

abbrev pub decreases-pairs : goal.decreases-pairs
decreases-pairs l = length l.rest
