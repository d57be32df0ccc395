use Rattle.column_segment.proofs.RankLemmas.{ArePlacesBelow}
use Rattle.column_segment.proofs.ranked.rank_places.Given as goal

abbrev pub invariant-loop-place : goal.invariant-loop-place
invariant-loop-place l = ArePlacesBelow l.ranks l.count l.place l.places.items
