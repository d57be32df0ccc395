use Rattle.std.proofs.Common.{take}
use Rattle.code_tallies.specs.Tables.{AreTablesOf}
use Rattle.code_tallies.proofs.tally.tables_of.Given as goal

abbrev pub invariant-loop-item : goal.invariant-loop-item
invariant-loop-item l = AreTablesOf l.packed l.chosen (take l.item-index l.items) l.tables.items
