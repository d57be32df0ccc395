use Rattle.std.proofs.Common.{None}
use Rattle.segment_dict.proofs.Entries.{AreCodesBelow-push}
use Rattle.segment_dict.proofs.numbers.NumberDict.codes.Goals as goal

pub loop-cell-preserved : goal.loop-cell-preserved
loop-cell-preserved c =
    rw c.in_ok-push.ensures.items
    (AreCodesBelow-push c.args.self.now.entries c.args.self.now.nulls c.args.cells.now c.loop-cell.cell-index c.loop-cell.codes.items c.code_near.result None c.loop-cell.invariant c.code_near.ensures)
