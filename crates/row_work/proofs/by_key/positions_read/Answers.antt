use Rattle.std.proofs.Common.{◌∙◌, map, ap, sym, subst}
use Rattle.std.specs.Prelude.{slice_get}
use Rattle.row_work.specs.Stores.{IsSeenOnce}
use Rattle.group_view.specs.Parts.{Rowed}
use Rattle.row_work.proofs.Known.{packed_known}
use Rattle.row_work.proofs.Sieved.{packed_keys}
use Rattle.row_work.proofs.Stored.{seen_once, store_at, there_some}
use Rattle.row_work.proofs.by_key.positions_read.Goals as goal

pub positions_in_store-requires : goal.positions_in_store-requires
positions_in_store-requires c =
    let pinned = c.args.pinned.now in
    let groups = pinned.view.groups in
    subst (IsSeenOnce pinned) (store_at pinned c.in-Store.store (slice_get groups c.args.group) c.in-Store.ensures (there_some groups c.args.group c.requires.there)) (seen_once pinned c.args.group c.requires.snapshot)

pub returns-in-Store : goal.returns-in-Store
returns-in-Store c =
    let pinned = c.args.pinned.now in
    let groups = pinned.view.groups in
    let same = store_at pinned c.in-Store.store (slice_get groups c.args.group) c.in-Store.ensures (there_some groups c.args.group c.requires.there) in
    rw (sym same) at c.positions_in_store.ensures

pub positions_in_range-requires : goal.positions_in_range-requires
positions_in_range-requires c =
    let group = c.in-Packed.packed.now in
    let known = packed_known c.args.pinned.now c.args.group c.in-Packed.packed c.in-Packed.field-1 c.requires.there c.requires.snapshot.view.fitting (rw c.in-Packed.is at c.group.ensures) in
    ap (map (λ (rowed : Rowed). rowed.version.key)) known.1 ∙ packed_keys group.key group.rows c.in-Packed.field-1.now known.0
