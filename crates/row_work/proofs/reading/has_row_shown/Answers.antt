use Rattle.std.proofs.Common.{◌∙◌}
use Rattle.row_work.proofs.Found.{row_by_lookup}
use Rattle.row_work.proofs.reading.has_row_shown.Goals as goal

pub returns : goal.returns
returns c = λ width. c.is_some.ensures ∙ row_by_lookup width c.args.pinned.now c.args.key c.requires c.lookup.result c.lookup.ensures.found c.lookup.ensures.none
