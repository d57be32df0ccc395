use Rattle.std.proofs.Common.{subst}
use Rattle.row_group.specs.Groups.{AreByKey}
use Rattle.row_group.proofs.packed.Packed.places.Goals as goal

pub returns-clause-by_key : goal.returns-clause-by_key
returns-clause-by_key c = subst AreByKey c.self.view_is c.self.invariant.by_key
