use Rattle.std.proofs.Common.{refl}
use Rattle.txn_table.proofs.PlaceSet.{owns_found}
use Rattle.txn_table.proofs.changes.number_where_owned.Goals as goal

pub returns-in-Some-clause-some : goal.returns-in-Some-clause-some
returns-in-Some-clause-some c = (refl, owns_found _ _ _ c.in-Some.ensures.place)
