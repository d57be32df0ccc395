use Rattle.std.proofs.Common.{◌≡◌, false, take}
use Rattle.std.specs.List.{list_any}
use Rattle.group_book.specs.Book.{is_tombstone}
use Rattle.group_view.specs.Books.{group_of}
use Rattle.group_view.specs.declared.groups.Group.{Group}
use Rattle.group_view.proofs.lowest.has_tombstone.Given as goal

abbrev pub invariant-loop-group : goal.invariant-loop-group
invariant-loop-group l = list_any (λ (group : Group). is_tombstone (group_of group).content) (take l.group-index l.list.groups.items) ≡ false
