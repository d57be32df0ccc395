use Rattle.text_laws.proofs.ReadBack.{texts_tell, lines_tell}
use Rattle.text_laws.proofs.works_are_told_apart.Goals as goal

pub returns : goal.returns
returns c = record { text = texts_tell; line = lines_tell }
