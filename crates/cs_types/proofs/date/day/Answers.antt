use Rattle.std.proofs.Common.{◌≡◌, ◌∙◌, ap, refl, pos, arith, rules, w8, w16, w64, to_z, FitsSigned, Some}
use Rattle.std.proofs.lemmas.Int.{ints, to_z-of_z}
use Rattle.cs_types.proofs.DateLemmas.{day_found}
use Rattle.cs_types.proofs.date.day.Goals as goal

pub returns-in-Ok : goal.returns-in-Ok
returns-in-Ok c =
    let y : to_z w16 c.args.year ≡ pos c.args.year = omega (arith, ints) in
    let m : to_z w8 c.args.month ≡ pos c.args.month = omega (arith, ints) in
    let d : to_z w8 c.args.day ≡ pos c.args.day = omega (arith, ints) in
    let fits : FitsSigned w64 c.number.result = search rules in
    ap Some (to_z-of_z w64 c.number.result fits ∙ c.number.ensures)
    ∙ day_found c.args.year c.args.month c.args.day c.in-Ok.date (omega arith) (omega arith) (simp (y, m, d) at (c.in-Ok.ensures.succeeds.0 refl)) (simp (y, m, d) at c.in-Ok.ensures.value)
