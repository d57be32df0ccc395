use Rattle.std.proofs.Common.{◌≡◌, ◌≤◌, take, length}
use Rattle.edit_laws.specs.Edits.{edits_of}
use Rattle.group_book.specs.Commits.{inserted_by}
use Rattle.tuple_mover.proofs.parcels.rows_in.Given as goal

abbrev pub invariant-loop-write : goal.invariant-loop-write
invariant-loop-write l = (l.rows ≡ length (inserted_by (edits_of (take l.write-index l.writes)))) × (l.rows ≤ l.write-index)
