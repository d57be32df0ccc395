use Rattle.text_laws.proofs.OneLine.{entry_one}
use Rattle.text_laws.proofs.lines_hold_no_end.Goals as goal

pub returns : goal.returns
returns c = entry_one
