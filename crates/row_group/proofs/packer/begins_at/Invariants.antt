use Rattle.std.proofs.Common.{◌≡◌, map, take}
use Rattle.row_group.specs.Groups.{row_at}
use Rattle.row_group.proofs.packer.begins_at.Given as goal

abbrev pub invariant-loop-position : goal.invariant-loop-position
invariant-loop-position l = l.begins.items ≡ map (λ position. (row_at l.packed position).begin) (take l.position-index l.positions)
