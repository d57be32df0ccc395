use Rattle.std.proofs.Common.{◌≡◌, Bool, length, map, take}
use Rattle.std.specs.List.{list_any}
use Rattle.delete_buffer.specs.Entries.{Entry}
use Rattle.group_book.specs.Book.{Ending}
use Rattle.group_book.specs.Turns.{ends}
use Rattle.group_view.specs.Views.{endings_of}
use Rattle.group_view.proofs.EndLemmas.{versions}
use Rattle.group_view.proofs.Noted.{ending_of, Noted}
use Rattle.group_view.proofs.ended.note_packed.Given as goal

abbrev pub invariant-loop-i : goal.invariant-loop-i
invariant-loop-i l =
    (length l.noted ≡ length l.entries)
    × (l.found ≡ list_any (λ (entry : Entry). list_any (ends (endings_of l.buffer.entries) (ending_of entry)) (versions l.packed l.marks)) (take l.i l.entries))
    × ((test : Ending → Bool) → l.initial.noted ≡ map test (endings_of l.entries) → Noted l.entries test (λ entry. list_any (ends (endings_of l.buffer.entries) entry) (versions l.packed l.marks)) l.i l.noted)
