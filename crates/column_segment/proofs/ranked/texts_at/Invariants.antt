use Rattle.std.proofs.Common.{◌≡◌, List, ℕ, Bor, map, take}
use Rattle.cs_types.specs.Rows.{cell_at}
use Rattle.column_segment.specs.Cells.{seen}
use Rattle.column_segment.specs.Ranks.{text_in}
use Rattle.column_segment.proofs.ranked.texts_at.Given as goal

abbrev pub invariant-loop-place : goal.invariant-loop-place
invariant-loop-place l = map (λ (text : Bor (List ℕ)). text.now) l.texts.items ≡ map (λ place. text_in (cell_at (map seen l.cells) place)) (take l.place-index l.places)
