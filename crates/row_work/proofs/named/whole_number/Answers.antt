use Rattle.std.proofs.Common.{◌≡◌, ◌∙◌, sym}
use Rattle.std.specs.Prelude.{None, Some}
use Rattle.std.proofs.lemmas.Int.{to_z-of_z}
use Rattle.row_work.proofs.Constants.{kept_whole, never_refused}
use Rattle.row_work.proofs.named.whole_number.Goals as goal

pub returns-in-Ok : goal.returns-in-Ok
returns-in-Ok c = λ z small equal. c.number_of.ensures z (kept_whole z c.args.m c.args.s c.in-Ok.value small equal (sym c.in-Ok.is ∙ (simp (to_z-of_z, c.ranges.m) at c.fits.ensures.value)))

pub returns-in-Err : goal.returns-in-Err
returns-in-Err c = λ z small equal. never_refused (None ≡ Some z) z c.args.m c.args.s c.in-Err._refusal small equal (sym c.in-Err.is ∙ (simp (to_z-of_z, c.ranges.m) at c.fits.ensures.value))
