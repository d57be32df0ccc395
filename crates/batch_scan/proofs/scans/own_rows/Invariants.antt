use Rattle.std.proofs.Common.{◌≡◌, take}
use Rattle.std.specs.List.{filter_map}
use Rattle.std.specs.Option.{option_copied}
use Rattle.batch_scan.specs.Reads.{own_row}
use Rattle.batch_scan.proofs.Stored.{kept_rows}
use Rattle.batch_scan.proofs.scans.own_rows.Given as goal

abbrev pub invariant-loop-i : goal.invariant-loop-i
invariant-loop-i l = l.rows.items ≡ kept_rows l.schema (option_copied l.pred) (filter_map own_row (take l.i l.pinned.own))
