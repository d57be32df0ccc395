use Rattle.std.proofs.lemmas.Int.{quot-rem, rem_below}
use Rattle.cs_model.proofs.Quotients.{rem_above, rem_under}
use Rattle.cs_model.proofs.laws.quotient_is_cut.Goals as goal

pub returns : goal.returns
returns c = record { whole = quot-rem; small = rem_below; above = rem_above; below = rem_under }
