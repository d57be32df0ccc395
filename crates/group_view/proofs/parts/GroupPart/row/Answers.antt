use Rattle.std.proofs.Common.{◌∙◌, sym, ap}
use Rattle.std.specs.Prelude.{Some}
use Rattle.std.proofs.lemmas.Result.{IfOk-weaker}
use Rattle.cs_types.specs.Rows.{padded}
use Rattle.group_view.proofs.Versions.{packed_row, packed_within, stored_row}
use Rattle.group_view.proofs.parts.GroupPart.row.Goals as goal

pub row-requires : goal.row-requires
row-requires c =
    let group = c.in-Packed.packed.value in
    let there = rw c.in-Packed.is at c.requires in
    rw c.deref.ensures (packed_within group.key group.rows c.in-Packed.field-1.value c.args.position there).0

pub returns-in_ok-row-in-Packed : goal.returns-in_ok-row-in-Packed
returns-in_ok-row-in-Packed c =
    let there = rw c.in-Packed.is at c.requires in
    let row_is = rw c.deref.ensures at c.in_ok-row-in-Packed.ensures in
    IfOk-weaker c.widened.result _ _ (λ made is. rw c.in-Packed.is
    (packed_row c.in-Packed.packed.value c.in-Packed.field-1.value c.args.position there c.args.width ∙ ap Some (ap (padded c.args.width) (sym row_is) ∙ sym is))) c.widened.ensures

pub returns-in-Store : goal.returns-in-Store
returns-in-Store c =
    let read = rw c.deref-in-Store.ensures at c.get.ensures in
    IfOk-weaker c.with_width.result _ _ (λ made is. rw c.in-Store.is
    (stored_row c.args.width c.get.result.now c.in-Store.store.value c.args.position read ∙ ap Some (sym is))) c.with_width.ensures
