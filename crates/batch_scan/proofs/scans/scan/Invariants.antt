use Rattle.std.proofs.Common.{◌≡◌, length, filter}
use Rattle.std.specs.Option.{option_copied}
use Rattle.cs_model.specs.Queries.{keeps}
use Rattle.batch_scan.specs.Scans.{rows_shown}
use Rattle.batch_scan.proofs.scans.scan.Given as goal

abbrev pub invariant-loop-group : goal.invariant-loop-group
invariant-loop-group l = l.rows.items ≡ filter (keeps l.schema (option_copied l.pred)) (rows_shown (length l.schema.columns) l.pinned l.from l.group)
