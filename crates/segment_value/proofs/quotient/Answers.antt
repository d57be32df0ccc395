use Rattle.std.proofs.Common.{pos, arith, ap, w64, int_div}
use Rattle.std.proofs.lemmas.Int.{ints, to_z-of_z, to_z_pos, quot_fits}
use Rattle.segment_value.proofs.quotient.Goals as goal

pub nonzero_div-result : goal.nonzero_div-result
nonzero_div-result g c =
    let bounds = c.power_of_ten.ensures.bounds in
    let fits = c.ranges.number in
    (omega arith, rw (to_z-of_z, to_z_pos w64 c.power_of_ten.result (omega arith)) (quot_fits w64 c.args.number (pos c.power_of_ten.result) fits (omega (arith, ints))))

pub returns : goal.returns
returns g c =
    let bounds = c.power_of_ten.ensures.bounds in
    let fits = c.ranges.number in
    let quotient_fits = quot_fits w64 c.args.number (pos c.power_of_ten.result) fits (omega (arith, ints)) in
    rw (to_z-of_z w64 c.args.number fits, to_z_pos w64 c.power_of_ten.result (omega arith), to_z-of_z w64 (int_div c.args.number (pos c.power_of_ten.result)) quotient_fits)
    (ap (λ k. int_div c.args.number (pos k)) c.power_of_ten.ensures.value)
