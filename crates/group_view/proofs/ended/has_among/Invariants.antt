use Rattle.std.proofs.Common.{◌≡◌, false, take}
use Rattle.std.specs.List.{list_any}
use Rattle.delete_buffer.specs.Entries.{Entry}
use Rattle.group_book.specs.Turns.{ends}
use Rattle.group_view.specs.Views.{endings_of}
use Rattle.group_view.proofs.EndLemmas.{versions}
use Rattle.group_view.proofs.Noted.{ending_of}
use Rattle.group_view.proofs.ended.has_among.Given as goal

abbrev pub invariant-loop-i : goal.invariant-loop-i
invariant-loop-i l = list_any (λ (entry : Entry). list_any (ends (endings_of l.buffer.entries) (ending_of entry)) (versions l.packed l.marks)) (take l.i l.entries) ≡ false
