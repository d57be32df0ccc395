use Rattle.std.proofs.Common.{◌≡◌, ◌++◌, length, take, map}
use Rattle.cs_types.specs.Rows.{padded}
use Rattle.row_group.specs.Groups.{row_at}
use Rattle.batch_scan.proofs.scans.scan_packed.Given as goal

abbrev pub invariant-loop-position : goal.invariant-loop-position
invariant-loop-position l = l.rows.items ≡ l.initial.rows.items ++ map (λ i. padded (length l.schema.columns) (row_at l.packed i).cells) (take l.position-index l.position-items)
