use Rattle.std.proofs.Common.{◌∙◌, ap, refl, rules, subst}
use Rattle.cs_types.specs.declared.Loose.TheVariants.{Number}
use mir.Val.{SFits}
use mir.Syntax.{w64, w128}
use Rattle.std.proofs.lemmas.Int.{to_z-of_z}
use Rattle.row_work.proofs.Bounded.{among_all, stands_day, stands_number}
use Rattle.row_work.proofs.Constants.{key_small, stands_to_key, StandsToKey}
use Rattle.row_work.proofs.bounds.bounds_beside.Goals as goal

pub returns-in-Number : goal.returns-in-Number
returns-in-Number c = λ schema key row table stands is.
    let sign = c.args.sign in
    let e = subst (λ x. StandsToKey sign x key) (c.in-Number.is ∙ ap (λ s. Number c.in-Number.m s) c.if-s-eq0.true) (stands_to_key schema key row table stands sign c.args.constant.now is) in
    let fits : SFits w128 c.in-Number.m = search rules in
    let bounds = simp (to_z-of_z, fits) at c.bounds_beside_number.ensures in
    bounds key e.small (stands_number sign c.in-Number.m key e)

pub returns-in-Day : goal.returns-in-Day
returns-in-Day c = λ schema key row table stands is.
    let sign = c.args.sign in
    let e = subst (λ x. StandsToKey sign x key) c.in-Day.is (stands_to_key schema key row table stands sign c.args.constant.now is) in
    let fits : SFits w64 c.in-Day.day = search rules in
    let wide : SFits w128 c.in-Day.day = search rules in
    let bounds = simp (to_z-of_z, fits, wide) at (rw c.from.ensures at c.bounds_beside_number-in-Day.ensures) in
    bounds key e.small (stands_day sign c.in-Day.day key e)

pub returns-in_default : goal.returns-in_default
returns-in_default c = λ schema key row table stands is. among_all _ key refl refl (key_small schema key row table stands)

pub returns-in_default-2 : goal.returns-in_default-2
returns-in_default-2 c = λ schema key row table stands is. among_all _ key refl refl (key_small schema key row table stands)
