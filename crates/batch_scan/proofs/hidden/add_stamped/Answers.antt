use Rattle.std.proofs.Common.{◌∙◌, ◌+◌, ℕ, not, leb, take, get_or, ap, arith}
use Rattle.std.proofs.lemmas.List.{length-map, take_all}
use Rattle.batch_scan.specs.Hidden.{begins_late}
use Rattle.batch_scan.proofs.Added.{adds_push, adds_same, begins_are, late_in, late_is, late_push, late_skip}
use Rattle.batch_scan.proofs.hidden.add_stamped.Goals as goal
use Rattle.batch_scan.proofs.hidden.add_stamped.Goals.{then-begin-s+in_ok-push, else-begin-s}

pub loop-stamp-preserved : goal.loop-stamp-preserved
loop-stamp-preserved c =
    let group = c.args.packed.now in
    let s = c.args.s in
    let stamps = c.stamped-stamps.result.now in
    let n = c.loop-stamp.stamp-index in
    let d : ℕ × ℕ = (0, 0) in
    let there = c.loop-stamp-test.true in
    elim c.if-begin-s.branch [
      | then-begin-s+in_ok-push w ↦
          rw (w.hidden-is, w.in_ok-push.ensures.items)
          (adds_push group (late_in s (take n stamps)) (late_in s (take (n + 1) stamps)) _ _ (get_or stamps n d).0
          (let within = (c.stamped-stamps.ensures.own n d there).0 in omega (arith, within, length-map group.rows (λ row. row.begin))) (λ p below. late_push s stamps n d there w.if-begin-s.true p) c.loop-stamp.invariant)
      | else-begin-s w ↦
          rw w.hidden-is (adds_same group (late_in s (take n stamps)) (late_in s (take (n + 1) stamps)) _ _ (λ p below. late_skip s stamps n d there w.if-begin-s.false p) c.loop-stamp.invariant)
    ]

pub returns : goal.returns
returns c =
    let group = c.args.packed.now in
    let s = c.args.s in
    let stamps = c.stamped-stamps.result.now in
    let n = c.loop-stamp.stamp-index in
    adds_same group (late_in s (take n stamps)) (begins_late s group) _ _
    (λ p below.
    ap (λ l. late_in s l p) (take_all n stamps c.loop-stamp-test.false)
    ∙ late_is s group.base c.requires stamps c.stamped-stamps.ensures.rising p
    ∙ ap (λ begin. not (leb begin s)) (begins_are s group stamps c.stamped-stamps.ensures p below))
    c.loop-stamp.invariant
