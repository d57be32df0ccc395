use Rattle.std.proofs.Common.{◌∙◌, sym, ap, arith}
use Rattle.batch_scan.specs.Hidden.{is_begun_below}
use Rattle.batch_scan.proofs.Added.{walk_end, walk_push, walk_skip}
use Rattle.batch_scan.proofs.hidden.add_key.Goals as goal
use Rattle.batch_scan.proofs.hidden.add_key.Goals.{then-is_below+in_ok-push, else-is_below}

pub loop-place-preserved : goal.loop-place-preserved
loop-place-preserved c =
    let group = c.args.packed.now in
    let end = c.args.end in
    let from = c.find_near-places.result.from in
    let n = c.loop-place.place in
    let q = c.place-position.result in
    let begun = ap (is_begun_below end) (sym c.begin.ensures) in
    elim c.if-is_below.branch [
      | then-is_below+in_ok-push w ↦
          rw (w.hidden-is, w.in_ok-push.ensures.items)
          (walk_push group end from _ n _ c.place-position.ensures.by_key (omega arith) (omega (arith, c.find_near-places.ensures.within)) c.loop-place.invariant q c.place-position.ensures.value
          (begun ∙ sym c.is_below.ensures ∙ w.if-is_below.true))
      | else-is_below w ↦
          rw w.hidden-is
          (walk_skip group end from _ n _ c.place-position.ensures.by_key (omega arith) (omega (arith, c.find_near-places.ensures.within)) c.loop-place.invariant q c.place-position.ensures.value
          (begun ∙ sym c.is_below.ensures ∙ w.if-is_below.false))
    ]

pub returns : goal.returns
returns c =
    walk_end c.args.packed.now c.args.end c.find_near-places.result.from c.args.hidden.now.items c.args.key c.find_near-places.result.to c.loop-place.place c.loop-place.hidden.items c.find_near-places.ensures
    (omega (arith, c.loop-place-test.false, c.find_near-places.ensures.ordered)) c.loop-place.invariant
