use Rattle.std.proofs.Common.{◌∙◌, sym, ap}
use Rattle.std.specs.Prelude.{slice_get, Some}
use Rattle.row_work.proofs.Found.{lent_row, made_row}
use Rattle.row_work.proofs.reading.row_at.Goals as goal

pub packed_row-requires : goal.packed_row-requires
packed_row-requires c =
    (made_row c.args.width c.args.place.position (slice_get c.args.view.now.groups c.args.place.group) c.in-Packed.packed c.in-Packed.field-1 c.requires c.in-Packed.ensures).0

pub returns-in_ok-row-in-Packed : goal.returns-in_ok-row-in-Packed
returns-in_ok-row-in-Packed c =
    (made_row c.args.width c.args.place.position (slice_get c.args.view.now.groups c.args.place.group) c.in-Packed.packed c.in-Packed.field-1 c.requires c.in-Packed.ensures).1
    ∙ ap Some (sym (c.insert.ensures.value ∙ c.in_ok-row-in-Packed.ensures))

pub returns-then-len-width : goal.returns-then-len-width
returns-then-len-width c =
    lent_row c.args.width c.args.place.position (slice_get c.args.view.now.groups c.args.place.group) c.in-Store.store c.get.result.now c.requires c.in-Store.ensures c.get.ensures (sym c.len.ensures ∙ c.if-len-width.true)
