use Rattle.std.proofs.Common.{◌≡◌, ◌≤◌, arith, rules, ◌∙◌, ap, w64, sym, FitsSigned, ◌*ℤ◌, ◌+ℤ◌, ◌-◌, pos, ℤ, ◌^◌, Option, unwrap_or}
use Rattle.std.proofs.lemmas.Int.{to_z-of_z, to_z_pos}
use Rattle.segment_value.specs.Scales.{null_codes}
use Rattle.segment_value.proofs.Codes.{cell_of-later, number_fits}
use Rattle.segment_value.proofs.number_at.Goals as goal

pub returns : goal.returns
returns g c =
    let bounds = c.power_of_ten.ensures.bounds in
    let later : null_codes c.args.scale.nulls ≤ c.args.code = search rules in
    let units : c.raised.result ≡ c.args.scale.base +ℤ pos (c.args.code - null_codes c.args.scale.nulls) = search rules in
    let units_fit : FitsSigned w64 c.raised.result = search rules in
    let ten : c.power_of_ten.result ≡ 10 ^ c.args.scale.exponent = c.power_of_ten.ensures.value ∙ ap (λ k. 10 ^ k) (sym c.requires.exponent.0) in
    let fits = number_fits c.args.scale c.args.code c.raised.result later c.requires.code units in
    rw (to_z-of_z w64 c.raised.result units_fit, to_z_pos w64 c.power_of_ten.result (omega arith), ten)
    (rw (to_z-of_z w64 (c.raised.result *ℤ pos (10 ^ c.args.scale.exponent)) fits)
    (ap (λ (k : ℤ). k *ℤ pos (10 ^ c.args.scale.exponent)) units ∙ sym (ap (λ (o : Option ℤ). unwrap_or o (pos 0)) (cell_of-later c.args.scale c.args.code later))))
