use Rattle.std.proofs.Common.{arith, ap, ◌∙◌, ◌++◌, codes, ℕ, List}
use Rattle.cs_model.proofs.LinesText.{lines_more}
use Rattle.cs_model.proofs.print_lines.append_lines.Goals as goal

pub loop-item-preserved : goal.loop-item-preserved
loop-item-preserved g c =
    lines_more (g.T.ReplyLine.line_of c.args.schema.now) c.args.items.now c.loop-item.item-index c.item-item.result (omega arith) c.item-item.is c.args.line.now c.loop-item.line c.append.new.self
    (c.in_ok-append.ensures.ok ∙ ap (λ (x : List ℕ). x ++ codes "\n") c.in_ok-append_to.ensures) c.loop-item.invariant
