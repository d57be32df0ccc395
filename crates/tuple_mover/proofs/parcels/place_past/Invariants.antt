use Rattle.std.proofs.Common.{◌≡◌, ◌+◌, take, length}
use Rattle.edit_laws.specs.Edits.{edits_of}
use Rattle.group_book.specs.Commits.{inserted_by}
use Rattle.tuple_mover.proofs.parcels.place_past.Given as goal

abbrev pub invariant-loop-place : goal.invariant-loop-place
invariant-loop-place l = l.left + length (inserted_by (edits_of (take l.place l.writes))) ≡ l.count
