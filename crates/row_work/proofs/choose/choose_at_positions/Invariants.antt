use Rattle.std.proofs.Common.{◌≡◌, ◌++◌, take, map, All}
use Rattle.std.specs.List.{filter_map}
use Rattle.row_work.specs.Reads.{rowed_at}
use Rattle.row_work.specs.Sources.{chosen_edit, IsShown}
use Rattle.row_work.specs.Stores.{read_at_position}
use Rattle.row_work.proofs.Scanned.{picked}
use Rattle.row_work.proofs.choose.choose_at_positions.Given as goal

abbrev pub invariant-loop-position : goal.invariant-loop-position
invariant-loop-position l = record {
  rows : map (chosen_edit l.width l.pinned) l.chosen.items
      ≡ map (chosen_edit l.width l.pinned) l.initial.chosen.items ++ picked l.schema l.condition (filter_map (read_at_position l.width l.pinned (rowed_at l.pinned.view l.group)) (take l.position-index l.positions));
  shown : All (IsShown l.pinned) l.chosen.items;
}
