use Rattle.std.proofs.Common.{◌≡◌, map, take}
use Rattle.std.specs.List.{filter_map}
use Rattle.std.specs.Map.{values_of}
use Rattle.batch_aggregate.specs.Tallies.{tally_of}
use Rattle.row_work.specs.Reads.{rowed_at}
use Rattle.row_work.specs.Stores.{read_at_position}
use Rattle.row_work.proofs.listed.tallies_at.Given as goal

abbrev pub invariant-loop-position : goal.invariant-loop-position
invariant-loop-position l = l.tallies ≡ map (tally_of (values_of (filter_map (read_at_position l.width l.pinned (rowed_at l.pinned.view l.group)) (take l.position-index l.positions)))) l.items
