use Rattle.edit_laws.proofs.Writes.{staged_edits, ascends}
use Rattle.edit_laws.proofs.laws.staged_as_edits.Goals as goal

pub returns-clause-staged : goal.returns-clause-staged
returns-clause-staged c = λ own more. staged_edits own more

pub returns-clause-order : goal.returns-clause-order
returns-clause-order c = λ own up. ascends own up
