use Rattle.std.proofs.Common.{◌≡◌, ◌∙◌, List, true, filter, length, sym, ap}
use Rattle.std.proofs.lemmas.Bool.{OnTrue_from}
use Rattle.cs_model.specs.Queries.{keeps}
use Rattle.cs_model.specs.Scans.{is_skipped}
use Rattle.row_group.specs.Rows.{column_of}
use Rattle.batch_scan.proofs.Passed.{passed_over}
use Rattle.group_view.specs.Parts.{Rowed}
use Rattle.row_work.specs.Sieved.{read_in}
use Rattle.row_work.proofs.Known.{packed_known}
use Rattle.row_work.proofs.select.is_passed_over.Goals as goal

pub returns-in-Packed : goal.returns-in-Packed
returns-in-Packed c =
    let schema = c.args.schema.now in
    let query = c.args.query.now in
    let pinned = c.args.pinned.now in
    let group = c.in-Packed.packed.now in
    let marks = c.in-Packed.field-1 in
    let known = packed_known pinned c.args.group c.in-Packed.packed marks c.requires.there c.requires.fitting (rw c.in-Packed.is at c.group.ensures) in
    OnTrue_from c.is_skipped.result _ (λ yes.
    let skipped : is_skipped schema query.filter (column_of group.rows) ≡ true = ap (λ o. is_skipped schema o (column_of group.rows)) (sym c.as_ref.ensures.value) ∙ sym c.is_skipped.ensures ∙ yes in
    ap (λ (versions : List Rowed). filter (keeps schema query.filter) (read_in (length schema.columns) pinned versions)) known.1 ∙ passed_over schema pinned group.key query.filter group.rows marks.now skipped)
