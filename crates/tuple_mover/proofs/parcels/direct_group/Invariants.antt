use Rattle.std.proofs.Common.{◌≡◌, take, length, map}
use Rattle.edit_laws.specs.Edits.{edits_of}
use Rattle.tuple_mover.specs.Inserts.{rows_given, direct_row}
use Rattle.tuple_mover.proofs.parcels.direct_group.Given as goal

abbrev pub invariant-loop-write : goal.invariant-loop-write
invariant-loop-write l = record {
  width : l.packer.width ≡ length l.schema.columns;
  rows : l.packer.rows ≡ map (direct_row (length l.schema.columns)) (rows_given (edits_of (take l.write-index l.writes)));
}
