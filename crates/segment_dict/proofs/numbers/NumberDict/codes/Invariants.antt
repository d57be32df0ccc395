use Rattle.segment_dict.proofs.Entries.{AreCodesBelow}
use Rattle.segment_dict.proofs.numbers.NumberDict.codes.Given as goal

abbrev pub invariant-loop-cell : goal.invariant-loop-cell
invariant-loop-cell l = AreCodesBelow l.self.entries l.self.nulls l.cells l.cell-index l.codes.items
