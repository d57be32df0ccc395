use Rattle.std.proofs.Common.{◌∙◌, ◌++◌, length, ap}
use Rattle.std.specs.Option.{option_and_then, option_copied, option_to_list}
use Rattle.batch_scan.specs.Reads.{read_row, rowed_at}
use Rattle.batch_scan.proofs.Seen.{at_place}
use Rattle.batch_scan.proofs.Stored.{kept_more, kept_rows}
use Rattle.batch_scan.proofs.scans.scan_store.Goals as goal

pub loop-position-preserved : goal.loop-position-preserved
loop-position-preserved c =
    let schema = c.args.schema.now in
    let condition = option_copied c.args.pred in
    let pinned = c.args.pinned.now in
    let f = read_row (length schema.columns) pinned in
    let n = c.loop-position.position in
    let old = c.loop-position.rows.items in
    kept_more schema condition f (rowed_at pinned.view c.args.group) n c.args.rows.now.items old c.scan_stored.new.rows.items c.loop-position.invariant
    (c.in_ok-scan_stored.ensures ∙ ap (λ o. old ++ kept_rows schema condition (option_to_list (option_and_then f o))) (at_place pinned.view c.args.group n))
