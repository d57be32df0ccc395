use Rattle.std.proofs.Common.{◌≡◌, take}
use Rattle.edit_laws.specs.Edits.{edits_of}
use Rattle.tuple_mover.specs.Inserts.{rows_given}
use Rattle.tuple_mover.proofs.parcels.entries_of.Given as goal

abbrev pub invariant-loop-write : goal.invariant-loop-write
invariant-loop-write l = l.rows.items ≡ rows_given (edits_of (take l.write-index l.writes))
