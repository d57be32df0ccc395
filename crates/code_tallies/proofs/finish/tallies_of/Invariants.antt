use Rattle.std.proofs.Common.{◌≡◌, map, take}
use Rattle.code_tallies.specs.Tables.{tally_in}
use Rattle.code_tallies.proofs.finish.tallies_of.Given as goal

abbrev pub invariant-loop-table : goal.invariant-loop-table
invariant-loop-table l = l.list.items ≡ map (λ table. tally_in l.rows table l.key) (take l.table-index l.tables)
