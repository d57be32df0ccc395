use Rattle.std.proofs.Common.{rules, ◌≡◌, ◌==◌, true, false, ◌∷◌, length, arith, ap}
use Rattle.std.proofs.lemmas.Bool.Decides.{nat_tests}
use Rattle.cs_model.specs.Likes.{meets}
use Rattle.cs_model.proofs.LikeLemmas.{at_any, at_one, at_end}
use Rattle.cs_predicate.proofs.pattern.front.Goals as goal

pub returns-then-first-eq37-clause-ends : goal.returns-then-first-eq37-clause-ends
returns-then-first-eq37-clause-ends c =
    let rest : c.loop-first.rest.now ≡ c.in-Some.first.now ∷ c.in-Some.behind.now = search rules in
    let any : c.in-Some.first.now ≡ 37 = search rules in
    at_any c.args.pattern.now c.args.text.now c.in-Some.behind.now c.loop-first.left.now (rw (rest, any) at c.loop-first.invariant.same) (rw (rest, any) at c.loop-first.invariant.ends)

pub loop-first-preserved : goal.loop-first-preserved
loop-first-preserved c =
    let rest : c.loop-first.rest.now ≡ c.in-Some.first.now ∷ c.in-Some.behind.now = search rules in
    let left : c.loop-first.left.now ≡ c.in-Some-split_first.byte.now ∷ c.in-Some-split_first.after.now = search rules in
    let not : (c.in-Some.first.now == 37) ≡ false = grind (arith, nat_tests) in
    let met : meets c.in-Some.first.now c.in-Some-split_first.byte.now ≡ true = search rules in
    let step = at_one c.args.pattern.now c.args.text.now c.in-Some.first.now c.in-Some-split_first.byte.now c.in-Some.behind.now c.in-Some-split_first.after.now not met (rw (rest, left) at c.loop-first.invariant.same) (rw (rest, left) at c.loop-first.invariant.ends) in
    record { same = step.0; ends = step.1; within = omega (arith, ap length rest) }

pub returns-then-is_empty-clause-ends : goal.returns-then-is_empty-clause-ends
returns-then-is_empty-clause-ends c =
    let none : length c.loop-first.rest.now ≡ 0 = grind arith in
    let over : length c.loop-first.left.now ≡ 0 = grind arith in
    at_end c.args.pattern.now c.args.text.now c.loop-first.rest.now c.loop-first.left.now none over c.loop-first.invariant.same
