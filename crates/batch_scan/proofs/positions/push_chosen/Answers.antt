use Rattle.std.proofs.Common.{◌∙◌, true, false, ap, sym}
use Rattle.std.proofs.lemmas.List.{append-nil}
use Rattle.batch_scan.proofs.Kept.{place_pushed}
use Rattle.batch_scan.proofs.positions.push_chosen.Goals as goal
use Rattle.batch_scan.proofs.positions.push_chosen.Goals.{then-mask-i+in_ok-push, else-mask-i}

pub loop-i-preserved : goal.loop-i-preserved
loop-i-preserved c =
    let mask = c.args.mask.now in
    let initial = c.args.positions.now.items in
    let old = c.loop-i.positions.items in
    elim c.if-mask-i.branch [
      | then-mask-i+in_ok-push w ↦
          place_pushed mask c.args.from c.loop-i.i initial old c.if-mask-i.positions.items true w.if-mask-i.true c.loop-i.invariant (ap (λ v. v.items) w.positions-is ∙ w.in_ok-push.ensures.items)
      | else-mask-i w ↦
          place_pushed mask c.args.from c.loop-i.i initial old c.if-mask-i.positions.items false w.if-mask-i.false c.loop-i.invariant (ap (λ v. v.items) w.positions-is ∙ sym (append-nil old))
    ]
