use Rattle.std.proofs.Common.{◌≡◌, drop, map, take}
use Rattle.tuple_mover.proofs.column_parcels.cut.Given as goal

abbrev pub invariant-loop-column : goal.invariant-loop-column
invariant-loop-column l = map (λ part. part.items) l.parts.items ≡ map (λ column. take l.count (drop l.from column.items)) (take l.column-index l.columns)
