use Rattle.std.proofs.Common.{◌≡◌, map, not, take}
use Rattle.std.specs.List.{filter}
use Rattle.row_group.specs.Rows.{ended_by, row_of}
use Rattle.row_group.proofs.packer.kept.Given as goal

abbrev pub invariant-loop-version : goal.invariant-loop-version
invariant-loop-version l = record {
  width : l.packer.width ≡ l.width;
  rows : l.packer.rows ≡ map (row_of l.width) (filter (λ v. not (ended_by l.floor v.end)) (take l.version-index l.version-items));
}
