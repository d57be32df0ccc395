use Rattle.std.proofs.Common.{◌≡◌, ℕ, take, map, length, All}
use Rattle.std.specs.List.{filter_map, flat_map}
use Rattle.group_view.specs.declared.parts.GroupPart.{GroupPart}
use Rattle.group_view.specs.Parts.{rowed_in}
use Rattle.row_work.specs.Reads.{read_row}
use Rattle.row_work.specs.Sources.{chosen_edit, IsShown}
use Rattle.row_work.proofs.Scanned.{picked}
use Rattle.row_work.proofs.choose.choose_shown.Given as goal

abbrev pub invariant-loop-group : goal.invariant-loop-group
invariant-loop-group l = record {
  rows : map (chosen_edit (length l.schema.columns) l.pinned) l.chosen.items
      ≡ picked l.schema l.condition (filter_map (read_row (length l.schema.columns) l.pinned) (flat_map (λ (group : ℕ × GroupPart). rowed_in group.1) (take l.group l.pinned.view.groups)));
  shown : All (IsShown l.pinned) l.chosen.items;
}
