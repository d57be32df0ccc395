use Rattle.std.proofs.Common.{◌≡◌, ◌++◌, List, take}
use Rattle.group_book.specs.Book.{Version}
use Rattle.group_view.specs.Parts.{versions_in}
use Rattle.group_view.specs.Views.{endings_of}
use Rattle.tuple_mover.specs.Spent.{spent_by}
use Rattle.tuple_mover.proofs.spent.spend_part.Given as goal

abbrev pub invariant-loop-position : goal.invariant-loop-position
invariant-loop-position l = (versions : List Version) → l.initial.spent.items ≡ spent_by l.floor (endings_of l.buffer) versions → l.spent.items ≡ spent_by l.floor (endings_of l.buffer) (versions ++ take l.position (versions_in l.part))
