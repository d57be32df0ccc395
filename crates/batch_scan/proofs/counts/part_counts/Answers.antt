use Rattle.std.proofs.Common.{◌≡◌, ◌∙◌, sym, ap, true, false}
use Rattle.std.specs.Option.{option_copied}
use Rattle.cs_model.specs.Scans.{is_skipped}
use Rattle.row_group.specs.Groups.{Group}
use Rattle.row_group.specs.Rows.{column_of}
use Rattle.batch_scan.proofs.Counting.{counts_at}
use Rattle.batch_scan.proofs.counts.part_counts.Goals as goal

pub returns-then-is_skipped : goal.returns-then-is_skipped
returns-then-is_skipped c =
    let schema = c.args.schema.now in
    let condition = option_copied c.args.pred in
    let packed = c.in-Packed.packed in
    let verdict : is_skipped schema condition (column_of packed.value.rows) ≡ true =
    ap (λ (group : Group). is_skipped schema condition (column_of group.rows)) (sym c.deref.ensures) ∙ sym c.is_skipped.ensures ∙ c.if-is_skipped.true in
    counts_at schema condition c.args.part.now packed c.in-Packed.field-1 true c.in-Packed.is verdict

pub returns-else-is_skipped : goal.returns-else-is_skipped
returns-else-is_skipped c =
    let schema = c.args.schema.now in
    let condition = option_copied c.args.pred in
    let packed = c.in-Packed.packed in
    let verdict : is_skipped schema condition (column_of packed.value.rows) ≡ false =
    ap (λ (group : Group). is_skipped schema condition (column_of group.rows)) (sym c.deref.ensures) ∙ sym c.is_skipped.ensures ∙ c.if-is_skipped.false in
    counts_at schema condition c.args.part.now packed c.in-Packed.field-1 false c.in-Packed.is verdict
