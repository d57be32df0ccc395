use Rattle.std.proofs.Common.{◌≡◌, ℕ, ◌+◌, ◌<◌, length, sym, ap, ◌∙◌, subst, arith, Option}
use Rattle.cs_model.specs.Floors.{IsFloor}
use Rattle.txn_table.specs.Txns.{txn_at, snapshot_of, snapshots_in, lesser_of}
use Rattle.txn_table.proofs.Least.{IsLeastBelow, least_more, floor_is}
use Rattle.txn_table.proofs.PlaceSet.{txn_at-within}
use Rattle.txn_table.proofs.places.floor_in.Goals as goal

pub loop-place-preserved : goal.loop-place-preserved
loop-place-preserved c =
    let places = c.args.places.now in
    let i = c.loop-place.place-index in
    let within : c.loop-place.place-index < length c.args.places.now = omega arith in
    let read = txn_at-within places i c.place-item.result within in
    subst (λ (o : Option ℕ). IsLeastBelow (txn_at places) (i + 1) o)
    (sym (c.lesser-least.ensures ∙ ap (lesser_of c.loop-place.least) (c.snapshot_of_txn.ensures ∙ ap snapshot_of (c.place-item.is ∙ sym read))))
    (least_more (txn_at places) i c.loop-place.least c.loop-place.invariant)

pub returns : goal.returns
returns c =
    let places = c.args.places.now in
    let all : c.loop-place.place-index ≡ length c.args.places.now = omega arith in
    subst (λ (n : ℕ). IsFloor (snapshots_in (txn_at places)) c.args.clock n) (sym c.unwrap_or.ensures)
    (floor_is places c.args.clock c.loop-place.least (subst (λ (n : ℕ). IsLeastBelow (txn_at places) n c.loop-place.least) all c.loop-place.invariant))
