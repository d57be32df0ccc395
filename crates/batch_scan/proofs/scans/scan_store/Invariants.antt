use Rattle.std.proofs.Common.{◌≡◌, ◌++◌, length, take}
use Rattle.std.specs.List.{filter_map}
use Rattle.std.specs.Option.{option_copied}
use Rattle.batch_scan.specs.Reads.{read_row, rowed_at}
use Rattle.batch_scan.proofs.Stored.{kept_rows}
use Rattle.batch_scan.proofs.scans.scan_store.Given as goal

abbrev pub invariant-loop-position : goal.invariant-loop-position
invariant-loop-position l = l.rows.items ≡ l.initial.rows.items ++ kept_rows l.schema (option_copied l.pred) (filter_map (read_row (length l.schema.columns) l.pinned) (take l.position (rowed_at l.pinned.view l.group)))
