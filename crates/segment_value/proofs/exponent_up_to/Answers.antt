use Rattle.std.proofs.Common.{◌≡◌, arith, rules, inl, inr}
use Rattle.std.proofs.lemmas.Bool.{cases_lt}
use Rattle.std.proofs.lemmas.Int.{to_z-of_z}
use Rattle.segment_value.proofs.Powers.{Divides-none}
use Rattle.segment_value.proofs.exponent_up_to.Goals as goal

pub loop-exponent-preserved : goal.loop-exponent-preserved
loop-exponent-preserved c = (
  omega arith,
  λ e l divides.
      elim (cases_lt e c.loop-exponent.exponent) [
        | inl less ↦ omega arith
        | inr more ↦
            let same : e ≡ c.loop-exponent.exponent = omega (arith, c.loop-exponent.invariant.1 e l divides) in
            let never = c.if-not-is_multiple.ensures.1 (rw (← same) divides) in
            absurd (grind arith)
      ],
)

pub returns-else-not-is_multiple-clause-divides : goal.returns-else-not-is_multiple-clause-divides
returns-else-not-is_multiple-clause-divides c =
    let fits = c.ranges.number in
    simp to_z-of_z at (c.if-not-is_multiple.ensures.0 (search rules))

pub returns-else-not-is_multiple-clause-greatest : goal.returns-else-not-is_multiple-clause-greatest
returns-else-not-is_multiple-clause-greatest c = let fits = c.ranges.number in simp to_z-of_z at c.loop-exponent.invariant.1

pub returns-after-loop-exponent-clause-divides : goal.returns-after-loop-exponent-clause-divides
returns-after-loop-exponent-clause-divides c = let none : c.loop-exponent.exponent ≡ 0 = omega arith in rw none (Divides-none c.args.number)

pub returns-after-loop-exponent-clause-greatest : goal.returns-after-loop-exponent-clause-greatest
returns-after-loop-exponent-clause-greatest c = let fits = c.ranges.number in simp to_z-of_z at c.loop-exponent.invariant.1
