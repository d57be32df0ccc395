use Rattle.std.proofs.Common.{◌≡◌, map, take}
use Rattle.cs_types.specs.Rows.{cell_at, number_in, number_cell}
use Rattle.column_segment.proofs.ranked.numbers_at.Given as goal

abbrev pub invariant-loop-place : goal.invariant-loop-place
invariant-loop-place l = l.entries.items ≡ map (λ place. number_in (cell_at (map number_cell l.numbers) place)) (take l.place-index l.places)
