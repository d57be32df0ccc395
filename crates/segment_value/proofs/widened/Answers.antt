use Rattle.std.proofs.Common.{rules, FitsSigned, w64}
use Rattle.std.proofs.lemmas.Int.{to_z-of_z}
use Rattle.segment_value.proofs.Ranges.{IsRange-push}
use Rattle.segment_value.proofs.widened.Goals as goal

pub returns-in-Some : goal.returns-in-Some
returns-in-Some c =
    let fits : FitsSigned w64 c.args.number = search rules in
    let least_fits : FitsSigned w64 c.in-Some.least = search rules in
    let greatest_fits : FitsSigned w64 c.in-Some.greatest = search rules in
    let low_fits : FitsSigned w64 c.min.result = search rules in
    let high_fits : FitsSigned w64 c.max.result = search rules in
    let low = simp to_z-of_z at c.min.ensures.value in
    let high = simp to_z-of_z at c.max.ensures.value in
    λ numbers range.
    let known = rw c.in-Some.is at range in
    let next = rw (← low, ← high) at (IsRange-push numbers c.args.number c.in-Some.least c.in-Some.greatest known.0 known.1) in
    simp to_z-of_z next
