use Rattle.std.proofs.Common.{take}
use Rattle.group_view.specs.Parts.{packed_versions}
use Rattle.group_view.specs.Views.{endings_of}
use Rattle.tuple_mover.specs.Kept.{kept_of, StandIn}
use Rattle.tuple_mover.proofs.kept.kept_positions.Given as goal

abbrev pub invariant-loop-position : goal.invariant-loop-position
invariant-loop-position l =
    let versions = packed_versions l.packed.key l.packed.rows l.marks in
    StandIn versions (kept_of l.floor (endings_of l.buffer) (take l.position versions)) l.positions.items
