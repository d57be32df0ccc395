use Rattle.std.proofs.Common.{◌≡◌, ◌++◌, map, take}
use Rattle.cs_model.specs.Text.{lines_text}
use Rattle.cs_model.proofs.print_lines.append_lines.Given as goal

abbrev pub invariant-loop-item : goal.invariant-loop-item
invariant-loop-item g l = l.line ≡ l.fn.line ++ lines_text (map (g.T.ReplyLine.line_of l.schema) (take l.item-index l.items))
