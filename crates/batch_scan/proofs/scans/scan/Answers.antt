use Rattle.std.proofs.Common.{◌≡◌, ◌∙◌, ℕ, ◌+◌, ◌-◌, List, [], length, drop, take, sym, ap, arith}
use Rattle.std.specs.List.{filter_map}
use Rattle.std.specs.Option.{option_copied}
use Rattle.std.proofs.lemmas.List.{drop-take}
use Rattle.std.proofs.lemmas.List.Elements.{filter_map-append}
use Rattle.group_view.specs.declared.parts.GroupPart.{GroupPart}
use Rattle.batch_scan.specs.Reads.{read_row, rowed_at}
use Rattle.batch_scan.specs.Scans.{counts_of}
use Rattle.batch_scan.proofs.Between.{between_more, rowed_between}
use Rattle.batch_scan.proofs.Stored.{kept_behind, kept_rows}
use Rattle.batch_scan.proofs.scans.scan.Goals as goal

pub loop-group-preserved : goal.loop-group-preserved
loop-group-preserved c =
    let schema = c.args.schema.now in
    let condition = option_copied c.args.pred in
    let pinned = c.args.pinned.now in
    let f = read_row (length schema.columns) pinned in
    let n = c.loop-group.group in
    let front = rowed_between pinned.view c.args.from n in
    let next = rowed_at pinned.view n in
    let more = between_more pinned.view c.args.from n (omega (arith, c.loop-group.auto.group)) (omega (arith, c.loop-group-test.true, c.requires.within)) in
    kept_behind schema condition (filter_map f front) (filter_map f next) [] c.loop-group.rows.items c.scan_group.new.rows.items c.loop-group.invariant c.in_ok-scan_group.ensures
    ∙ ap (kept_rows schema condition) (sym (filter_map-append f front next) ∙ ap (filter_map f) (sym more))
