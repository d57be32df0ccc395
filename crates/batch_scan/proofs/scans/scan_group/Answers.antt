use Rattle.std.proofs.Common.{◌∙◌, ◌++◌, ap, sym}
use Rattle.std.specs.Prelude.{slice_get}
use Rattle.std.specs.Option.{option_copied}
use Rattle.std.proofs.lemmas.List.{append-nil}
use Rattle.batch_scan.proofs.Passed.{passed_at}
use Rattle.batch_scan.proofs.Lent.{packed_known, stored_known}
use Rattle.batch_scan.proofs.scans.scan_group.Goals as goal

pub scan_packed-requires-clause-fits : goal.scan_packed-requires-clause-fits
scan_packed-requires-clause-fits c = (packed_known c.args.pinned.now c.args.group c.in-Packed.packed c.in-Packed.marks c.requires.there c.requires.fitting (rw c.in-Packed.is at c.group.ensures)).0

pub scan_packed-requires-clause-versions : goal.scan_packed-requires-clause-versions
scan_packed-requires-clause-versions c = (packed_known c.args.pinned.now c.args.group c.in-Packed.packed c.in-Packed.marks c.requires.there c.requires.fitting (rw c.in-Packed.is at c.group.ensures)).1

pub scan_store-requires : goal.scan_store-requires
scan_store-requires c = record { versions = stored_known c.args.pinned.now c.args.group c.in-Store.store c.requires.there (rw c.in-Store.is at c.group.ensures) }

pub returns-then-is_skipped : goal.returns-then-is_skipped
returns-then-is_skipped c =
    let schema = c.args.schema.now in
    let condition = option_copied c.args.pred in
    let pinned = c.args.pinned.now in
    let old = c.args.rows.now.items in
    let none = passed_at schema pinned condition c.in-Packed.packed c.in-Packed.marks (slice_get pinned.view.groups c.args.group) (rw c.in-Packed.is at c.group.ensures) (sym c.is_skipped.ensures ∙ c.if-is_skipped.true) in
    sym (append-nil old) ∙ ap (λ l. old ++ l) (sym none)
