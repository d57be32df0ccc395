use Rattle.std.proofs.Common.{◌+◌, ◌&&◌, ltb, ap, arith}
use Rattle.std.proofs.lemmas.Bool.{le-leb, lt-leb}
use Rattle.std.specs.Prelude.{not}
use Rattle.batch_scan.specs.Hidden.{begins_late}
use Rattle.batch_scan.proofs.Added.{adds_push, adds_same, below_push, below_skip}
use Rattle.batch_scan.proofs.hidden.add_begun_above.Goals as goal
use Rattle.batch_scan.proofs.hidden.add_begun_above.Goals.{then-begin-s+in_ok-push, else-begin-s}

pub loop-position-preserved : goal.loop-position-preserved
loop-position-preserved c =
    let group = c.args.packed.now in
    let s = c.args.s in
    let n = c.loop-position.position in
    let late = begins_late s group in
    elim c.if-begin-s.branch [
      | then-begin-s+in_ok-push w ↦
          let is = ap not (lt-leb _ s (rw c.begin.ensures at w.if-begin-s.true)) in
          rw (w.hidden-is, w.in_ok-push.ensures.items)
          (adds_push group (λ p. ltb p n && late p) (λ p. ltb p (n + 1) && late p) _ _ n (omega arith) (λ p below. below_push late n p is) c.loop-position.invariant)
      | else-begin-s w ↦
          let is = ap not (le-leb _ s (rw c.begin.ensures at w.if-begin-s.false)) in
          rw w.hidden-is (adds_same group (λ p. ltb p n && late p) (λ p. ltb p (n + 1) && late p) _ _ (λ p below. below_skip late n p is) c.loop-position.invariant)
    ]
