use Rattle.std.proofs.Common.{◌≡◌, ◌∙◌, ◌<◌, ℕ, length, sym, ap, subst, arith}
use Rattle.std.specs.Prelude.{Some, slice_get}
use Rattle.std.specs.Option.{option_map}
use Rattle.batch_scan.specs.Reads.{is_read, rowed_at}
use Rattle.row_work.specs.Ranges.{AreReadBetween}
use Rattle.row_work.proofs.Ranges.{between_push, between_skip, there, told}
use Rattle.row_work.proofs.key_ranges.read_positions.Goals as goal
use Rattle.row_work.proofs.key_ranges.read_positions.Goals.{then-is_some+in_ok-push, else-is_some}

pub loop-i-init : goal.loop-i-init
loop-i-init c = record {
  each = λ k d within. absurd (omega (arith, within));
  every = λ p is. let low = is.low in let high = is.high in absurd (omega (arith, low, high));
  once = λ i j d less within. absurd (omega (arith, within));
}

pub key_seen-requires : goal.key_seen-requires
key_seen-requires c = there c.args.pinned.now c.args.group c.args.packed.now c.requires.keys c.place-position.result c.place-position.ensures.within

pub loop-i-preserved : goal.loop-i-preserved
loop-i-preserved c =
    let pinned = c.args.pinned.now in
    let group = c.args.packed.now in
    let versions = rowed_at pinned.view c.args.group in
    let from = c.args.places.from in
    let n = c.loop-i.i in
    let p = c.place-position.result in
    let inside : n < length group.places = omega (arith, c.requires.within) in
    let tells = told pinned c.args.group group c.requires.keys p c.place-position.ensures.within c.key_seen.result c.key_seen.ensures in
    elim c.if-is_some.branch [
      | then-is_some+in_ok-push w ↦
          rw (w.positions-is, w.in_ok-push.ensures.items)
          (between_push pinned c.args.group group c.requires.keys c.place-position.ensures.by_key from n c.loop-i.auto.i inside c.loop-i.positions.items c.loop-i.invariant p c.place-position.ensures.value
          (tells ∙ ap Some (sym c.is_some.ensures ∙ w.if-is_some.true)))
      | else-is_some w ↦
          rw w.positions-is
          (between_skip pinned c.args.group group c.requires.keys c.place-position.ensures.by_key from n c.loop-i.auto.i inside c.loop-i.positions.items c.loop-i.invariant
          (ap (λ (q : ℕ). option_map (is_read pinned) (slice_get versions q)) (sym c.place-position.ensures.value) ∙ tells ∙ ap Some (sym c.is_some.ensures ∙ w.if-is_some.false)))
    ]

pub returns : goal.returns
returns c =
    let all : c.loop-i.i ≡ c.args.places.to = let most = c.loop-i.auto.i-end c.requires.ordered in omega (arith, most, c.loop-i-test.false) in
    subst (λ to. AreReadBetween c.args.pinned.now c.args.group c.args.packed.now c.args.places.from to c.loop-i.positions.items) all c.loop-i.invariant
