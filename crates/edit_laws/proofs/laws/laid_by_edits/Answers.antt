use Rattle.edit_laws.proofs.Tables.{laid_is}
use Rattle.edit_laws.proofs.laws.laid_by_edits.Goals as goal

pub returns : goal.returns
returns c = λ t edits key sorted apart. laid_is key edits t sorted apart
