use Rattle.std.proofs.Common.{◌≡◌, ◌++◌, take, map, length, All}
use Rattle.std.specs.List.{filter_map}
use Rattle.row_work.specs.Reads.{own_row}
use Rattle.row_work.specs.Sources.{chosen_edit, IsShown}
use Rattle.row_work.proofs.Scanned.{picked}
use Rattle.row_work.proofs.choose.choose_own.Given as goal

abbrev pub invariant-loop-i : goal.invariant-loop-i
invariant-loop-i l = record {
  rows : map (chosen_edit (length l.schema.columns) l.pinned) l.chosen.items
      ≡ map (chosen_edit (length l.schema.columns) l.pinned) l.initial.chosen.items ++ picked l.schema l.condition (filter_map own_row (take l.i l.pinned.own));
  shown : All (IsShown l.pinned) l.chosen.items;
}
