use Rattle.std.proofs.Common.{inl, inr, refl, rules}
use mir.Val.{SFits}
use mir.Syntax.{w128}
use Rattle.std.proofs.lemmas.Int.{to_z-of_z}
use Rattle.row_work.proofs.Bounded.{among_all, eq_tells, ge_tells, gt_tells, le_tells, lt_tells, greatest_of_all, least_of_all, within}
use Rattle.row_work.proofs.bounds.bounds_beside_number.Goals as goal

pub returns-in-Equal : goal.returns-in-Equal
returns-in-Equal c = λ key small is.
    let fits : SFits w128 c.args.m = search rules in
    let near = simp (to_z-of_z, fits) at c.key_near-near.ensures in
    let both = eq_tells key.0 c.args.m (rw c.in-Equal.is at is) in
    within _ key (near.above key.0 small both.0) (near.below key.0 small both.1)

pub returns-in-NotEqual : goal.returns-in-NotEqual
returns-in-NotEqual c = λ key small is. among_all _ key refl refl small

pub returns-in-Less : goal.returns-in-Less
returns-in-Less c = λ key small is.
    let fits : SFits w128 c.args.m = search rules in
    let near = simp (to_z-of_z, fits) at c.key_near-near.ensures in
    elim c.in-Less.is [
      | inl e ↦ within _ key (least_of_all key.0 small) (near.below key.0 small (lt_tells key.0 c.args.m (rw e at is)))
      | inr e ↦ within _ key (least_of_all key.0 small) (near.below key.0 small (le_tells key.0 c.args.m (rw e at is)))
    ]

pub returns-in-Greater : goal.returns-in-Greater
returns-in-Greater c = λ key small is.
    let fits : SFits w128 c.args.m = search rules in
    let near = simp (to_z-of_z, fits) at c.key_near-near.ensures in
    elim c.in-Greater.is [
      | inl e ↦ within _ key (near.above key.0 small (gt_tells key.0 c.args.m (rw e at is))) (greatest_of_all key.0 small)
      | inr e ↦ within _ key (near.above key.0 small (ge_tells key.0 c.args.m (rw e at is))) (greatest_of_all key.0 small)
    ]
