use Rattle.std.proofs.Common.{◌≡◌, ◌++◌, take, map, All}
use Rattle.std.specs.List.{filter_map}
use Rattle.row_work.specs.Reads.{read_row, rowed_at}
use Rattle.row_work.specs.Sources.{chosen_edit, IsShown}
use Rattle.row_work.proofs.Scanned.{picked}
use Rattle.row_work.proofs.choose.choose_versions.Given as goal

abbrev pub invariant-loop-position : goal.invariant-loop-position
invariant-loop-position l = record {
  rows : map (chosen_edit l.width l.pinned) l.chosen.items
      ≡ map (chosen_edit l.width l.pinned) l.initial.chosen.items ++ picked l.schema l.condition (filter_map (read_row l.width l.pinned) (take l.position (rowed_at l.pinned.view l.group)));
  shown : All (IsShown l.pinned) l.chosen.items;
}
