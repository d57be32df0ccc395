use Rattle.std.proofs.Common.{◌≡◌, map, take}
use Rattle.cs_types.specs.Rows.{cell_at}
use Rattle.row_group.specs.Packings.{numbered}
use Rattle.tuple_mover.proofs.column_parcels.row_from.Given as goal

abbrev pub invariant-loop-column : goal.invariant-loop-column
invariant-loop-column l = l.row ≡ map (λ cells. cell_at cells l.place) (numbered (take l.column-index l.columns))
