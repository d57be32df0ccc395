use Rattle.std.proofs.Common.{◌≡◌, map, length}
use Rattle.std.specs.List.{list_any}
use Rattle.command_words.specs.Orders.{is_of}
use Rattle.command_words.specs.Walk.{row_of}
use Rattle.command_words.proofs.pairs.is_pair_of.Given as goal

-- the options passed are others
abbrev pub invariant-options : goal.invariant-options
invariant-options l = list_any (is_of (l.name, l.value)) (map row_of l.rest) ≡ list_any (is_of (l.name, l.value)) (map row_of l.fn.options)

abbrev pub decreases-options : goal.decreases-options
decreases-options l = length l.rest
