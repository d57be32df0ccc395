use Rattle.group_view.specs.Views.{endings_of}
use Rattle.tuple_mover.specs.Flushed.{HasMore}
use Rattle.tuple_mover.proofs.FlushLemmas.{IsEndedUpTo}
use Rattle.tuple_mover.proofs.flushes.add_places.Given as goal

abbrev pub invariant-loop-place : goal.invariant-loop-place
invariant-loop-place l = HasMore (IsEndedUpTo (endings_of l.buffer) (record { key = l.entry.0; end = l.entry.1 }) l.packed l.marks l.initial.place l.place) l.initial.places.items l.places.items
