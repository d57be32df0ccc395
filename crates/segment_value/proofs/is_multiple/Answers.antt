use Rattle.std.proofs.Common.{◌≡◌, ◌^◌, sym, ◌∙◌, arith}
use Rattle.std.proofs.lemmas.Int.{to_z-of_z}
use Rattle.std.proofs.lemmas.Bool.Decides.{nat_tests}
use Rattle.std.proofs.lemmas.Nat.Gcd.{dvd_of_mod-eq-zero, mod-eq-zero_of_dvd}
use Rattle.segment_value.proofs.is_multiple.Goals as goal

pub returns : goal.returns
returns c =
    let fits = c.ranges.number in
    let left = simp to_z-of_z at c.remainder_of.ensures in (
      (λ t. dvd_of_mod-eq-zero (10 ^ c.args.exponent) (sym left ∙ grind (arith, nat_tests))),
      (λ h. let none : c.remainder_of.result ≡ 0 = left ∙ mod-eq-zero_of_dvd (10 ^ c.args.exponent) h in grind (arith, nat_tests)),
    )
