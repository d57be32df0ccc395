use Rattle.std.proofs.Common.{◌≡◌, map, take}
use Rattle.std.specs.Prelude.{slice_index}
use Rattle.tuple_mover.proofs.PlaceLemmas.{Place}
use Rattle.tuple_mover.proofs.groups.positioned.Given as goal

abbrev pub invariant-loop-end : goal.invariant-loop-end
invariant-loop-end l = l.positioned.items ≡ map (λ (end : Place). (slice_index l.positions end.0, end.1)) (take l.end-index l.ends)
