use Rattle.std.proofs.Common.{◌∙◌, ◌++◌, [], sym, ap}
use Rattle.std.specs.Option.{option_and_then, option_copied, option_to_list}
use Rattle.batch_scan.specs.Reads.{own_row}
use Rattle.batch_scan.proofs.Stored.{kept_more, kept_rows}
use Rattle.batch_scan.proofs.scans.own_rows.Goals as goal

pub loop-i-preserved : goal.loop-i-preserved
loop-i-preserved c =
    let schema = c.args.schema.now in
    let condition = option_copied c.args.pred in
    let own = c.args.pinned.now.own in
    let old = c.loop-i.rows.items in
    kept_more schema condition own_row own c.loop-i.i [] old c.scan_own.new.rows.items c.loop-i.invariant
    (c.in_ok-scan_own.ensures ∙ ap (λ o. old ++ kept_rows schema condition (option_to_list (option_and_then own_row o))) (sym c.get.ensures))
