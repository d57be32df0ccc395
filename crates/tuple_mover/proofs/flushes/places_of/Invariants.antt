use Rattle.std.proofs.Common.{[], take}
use Rattle.group_view.specs.Views.{endings_of}
use Rattle.tuple_mover.specs.Flushed.{IsEndedBy, HasMore}
use Rattle.tuple_mover.proofs.flushes.places_of.Given as goal

abbrev pub invariant-loop-entry : goal.invariant-loop-entry
invariant-loop-entry l = HasMore (IsEndedBy (endings_of l.buffer) (endings_of (take l.entry-index l.entries)) l.packed l.marks) [] l.places.items
