use Rattle.std.proofs.Common.{take}
use Rattle.code_tallies.specs.Keys.{AreColumnsOf}
use Rattle.code_tallies.proofs.tally.columns_at.Given as goal

abbrev pub invariant-loop-place : goal.invariant-loop-place
invariant-loop-place l = AreColumnsOf l.packed (take l.place-index l.places) l.columns.items
