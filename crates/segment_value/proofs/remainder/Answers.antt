use Rattle.std.proofs.Common.{refl}
use Rattle.std.proofs.lemmas.Int.{to_z-of_z}
use Rattle.segment_value.proofs.remainder.Goals as goal

pub returns : goal.returns
returns g c =
    let fits = c.ranges.number in
    rw (c.unsigned_abs.ensures.value, c.power_of_ten.ensures.value) (rw to_z-of_z refl)
