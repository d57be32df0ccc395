use Rattle.std.proofs.Common.{◌≤◌, ◌∙◌, sym, ap, arith, FitsSigned}
use Rattle.std.specs.Int.{w128}
use Rattle.std.specs.Ordering.{ordering_reverse}
use Rattle.std.proofs.lemmas.Int.{to_z-of_z}
use Rattle.cs_predicate.proofs.Scales.{at_greater, at_lesser}
use Rattle.cs_predicate.proofs.side.number_cmp.Goals as goal

pub returns-then-s-t : goal.returns-then-s-t
returns-then-s-t c =
    let left : FitsSigned w128 c.args.m = c.ranges.m in
    let right : FitsSigned w128 c.args.n = c.ranges.n in
    (simp to_z-of_z at c.scaled_cmp.ensures) ∙ sym (at_greater c.args.m c.args.s c.args.n c.args.t c.if-s-t.true)

pub returns-else-s-t : goal.returns-else-s-t
returns-else-s-t c =
    let left : FitsSigned w128 c.args.m = c.ranges.m in
    let right : FitsSigned w128 c.args.n = c.ranges.n in
    let least : c.args.t ≤ c.args.s = omega arith in
    c.reverse.ensures ∙ ap ordering_reverse (simp to_z-of_z at c.scaled_cmp-else-s-t.ensures) ∙ sym (at_lesser c.args.m c.args.s c.args.n c.args.t least)
