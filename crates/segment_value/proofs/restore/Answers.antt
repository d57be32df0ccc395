use Rattle.std.proofs.Common.{◌≡◌, ◌≤◌, arith, rules, ◌∙◌, ap, w64, Some, sym, FitsSigned, ◌*ℤ◌, ◌+ℤ◌, ◌-◌, pos, ℤ, ◌^◌}
use Rattle.std.proofs.lemmas.Int.{to_z-of_z, to_z_pos}
use Rattle.segment_value.specs.Scales.{null_codes}
use Rattle.segment_value.proofs.Codes.{cell_of-later, number_fits}
use Rattle.segment_value.proofs.restore.Goals as goal

pub returns : goal.returns
returns c =
    let bounds = c.power_of_ten.ensures.bounds in
    let later : null_codes c.args.scale.nulls ≤ c.args.code = search rules in
    let units : c.raised-units.result ≡ c.args.scale.base +ℤ pos (c.args.code - null_codes c.args.scale.nulls) = search rules in
    let units_fit : FitsSigned w64 c.raised-units.result = search rules in
    let fits = number_fits c.args.scale c.args.code c.raised-units.result later c.requires units in
    rw (to_z-of_z w64 c.raised-units.result units_fit, to_z_pos w64 c.power_of_ten.result (omega arith), c.power_of_ten.ensures.value)
    (rw (to_z-of_z w64 (c.raised-units.result *ℤ pos (10 ^ c.args.scale.exponent)) fits)
    (ap Some (ap (λ (k : ℤ). k *ℤ pos (10 ^ c.args.scale.exponent)) units) ∙ sym (cell_of-later c.args.scale c.args.code later)))
