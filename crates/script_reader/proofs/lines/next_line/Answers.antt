use Rattle.std.proofs.Common.{arith, sym, ◌∙◌}
use Rattle.script_reader.proofs.Cut.{next_cut, next_end}
use Rattle.script_reader.proofs.lines.next_line.Goals as goal

pub returns-then-at-bytes-clause-lines : goal.returns-then-at-bytes-clause-lines
returns-then-at-bytes-clause-lines c =
    next_cut c.args.bytes.now c.trim-line.result.now c.cut_at-at.result c.cut_at-at.ensures (omega arith) c.trim-line.ensures

pub returns-clause-lines : goal.returns-clause-lines
returns-clause-lines c =
    next_end c.args.bytes.now c.trim-line.result.now c.cut_at-at.result c.cut_at-at.ensures (omega arith) c.trim-line.ensures (sym c.is_empty.ensures ∙ c.if-is_empty.false)
