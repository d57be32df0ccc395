use Rattle.script_reader.proofs.Cut.{trim_found, trim_none}
use Rattle.script_reader.proofs.lines.trim.Goals as goal

pub returns-in-Some : goal.returns-in-Some
returns-in-Some c = trim_found c.args.piece.now c.in-Some.front.now c.in-Some.ensures.cases.0 c.in-Some.ensures.cases.1

pub returns-in-None : goal.returns-in-None
returns-in-None c = trim_none c.args.piece.now c.in-None.ensures.cases
