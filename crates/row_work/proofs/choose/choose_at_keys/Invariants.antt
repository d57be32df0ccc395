use Rattle.std.proofs.Common.{◌≡◌, take, map, All}
use Rattle.row_work.specs.Named.{rows_at}
use Rattle.row_work.specs.Reads.{read_by}
use Rattle.row_work.specs.Sources.{chosen_edit, IsShown}
use Rattle.row_work.proofs.Scanned.{picked}
use Rattle.row_work.proofs.choose.choose_at_keys.Given as goal

abbrev pub invariant-loop-key : goal.invariant-loop-key
invariant-loop-key l = record {
  rows : map (chosen_edit l.width l.pinned) l.chosen.items ≡ picked l.schema l.condition (rows_at (read_by l.width l.pinned) (take l.key-index l.keys));
  shown : All (IsShown l.pinned) l.chosen.items;
}
