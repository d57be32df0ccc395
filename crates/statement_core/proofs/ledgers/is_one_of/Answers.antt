use Rattle.std.proofs.Common.{◌∙◌}
use Rattle.statement_core.proofs.Lines.{found_in}
use Rattle.statement_core.proofs.ledgers.is_one_of.Goals as goal

pub returns : goal.returns
returns c = c.is_ok.ensures.value ∙ found_in c.args.ids.now c.args.id c.binary_search.result c.requires c.binary_search.ensures.position
