use Rattle.std.proofs.Common.{◌≡◌, Bool, map, take}
use Rattle.std.specs.List.{filter}
use Rattle.delete_buffer.specs.Entries.{Entry}
use Rattle.group_book.specs.Book.{Ending}
use Rattle.group_view.specs.Views.{endings_of}
use Rattle.group_view.proofs.Noted.{ending_of}
use Rattle.group_view.proofs.flushes.marked.Given as goal

abbrev pub invariant-loop-i : goal.invariant-loop-i
invariant-loop-i l = (p : Ending → Bool) → l.marks ≡ map p (endings_of l.entries) → l.some.items ≡ filter (λ (entry : Entry). p (ending_of entry)) (take l.i l.entries)
