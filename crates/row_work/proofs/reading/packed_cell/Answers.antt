use Rattle.std.proofs.Common.{◌∙◌}
use Rattle.std.proofs.lemmas.Result.{IfOk-weaker}
use Rattle.row_work.proofs.reading.packed_cell.Goals as goal

pub returns : goal.returns
returns c = IfOk-weaker c.to_value.result _ _ (λ value is. is ∙ c.cell.ensures ∙ c.segment.ensures.each c.args.position c.requires) c.to_value.ensures
