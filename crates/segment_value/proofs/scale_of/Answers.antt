use Rattle.std.proofs.Common.{arith, rules, ◌^◌, ◌<◌, ◌≤◌, FitsSigned, w64, Some, inl, inr}
use Rattle.std.proofs.lemmas.Bool.{cases_lt}
use Rattle.std.proofs.lemmas.Int.{to_z-of_z}
use Rattle.segment_value.specs.declared.Scale.{Scale}
use Rattle.segment_value.specs.Scales.{code_of}
use Rattle.segment_value.proofs.Codes.{IsScaleOf-made, Takes-all, past_word}
use Rattle.segment_value.proofs.scale_of.Goals as goal

pub returns-then-has_word : goal.returns-then-has_word
returns-then-has_word c =
    let scale : Scale = record { exponent = c.exponent_of-exponent.result; base = c.units_of.result; nulls = c.has_null.result } in
    let units_fit : FitsSigned w64 c.units_of.result = search rules in
    let least_fits : FitsSigned w64 c.bounds_of-least.result.0 = search rules in
    let greatest_fits : FitsSigned w64 c.bounds_of-least.result.1 = search rules in
    let base = simp to_z-of_z at c.units_of.ensures in
    let word : code_of scale (Some c.bounds_of-least.result.1) < 2 ^ 64 = simp to_z-of_z at (c.if-has_word.ensures.0 (search rules)) in
    let is = IsScaleOf-made c.args.cells.now scale _ _ c.bounds_of-least.ensures c.exponent_of-exponent.ensures.exponent base c.has_null.ensures in
    rw (to_z-of_z w64 c.units_of.result units_fit)
    (is, Takes-all c.args.cells.now scale _ _ least_fits greatest_fits c.bounds_of-least.ensures base is word)

pub returns-else-has_word : goal.returns-else-has_word
returns-else-has_word c =
    let scale : Scale = record { exponent = c.exponent_of-exponent.result; base = c.units_of.result; nulls = c.has_null.result } in
    let units_fit : FitsSigned w64 c.units_of.result = search rules in
    let least_fits : FitsSigned w64 c.bounds_of-least.result.0 = search rules in
    let greatest_fits : FitsSigned w64 c.bounds_of-least.result.1 = search rules in
    let base = simp to_z-of_z at c.units_of.ensures in
    let said = simp to_z-of_z at c.if-has_word.ensures.1 in
    let past : 2 ^ 64 ≤ code_of scale (Some c.bounds_of-least.result.1) = elim (cases_lt (code_of scale (Some c.bounds_of-least.result.1)) (2 ^ 64)) [
      | inl word ↦ let never = said word in absurd (grind arith)
      | inr past ↦ past
    ] in (
      scale,
      IsScaleOf-made c.args.cells.now scale _ _ c.bounds_of-least.ensures c.exponent_of-exponent.ensures.exponent base c.has_null.ensures,
      past_word c.args.cells.now scale _ _ c.bounds_of-least.ensures base past,
    )
