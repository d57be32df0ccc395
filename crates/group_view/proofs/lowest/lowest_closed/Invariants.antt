use Rattle.std.proofs.Common.{◌≡◌, false, take}
use Rattle.std.specs.List.{list_any}
use Rattle.group_book.specs.Book.{is_closed}
use Rattle.group_view.specs.Books.{book_of, group_of}
use Rattle.group_view.proofs.Chosen.{takes}
use Rattle.group_view.proofs.lowest.lowest_closed.Given as goal

abbrev pub invariant-loop-group : goal.invariant-loop-group
invariant-loop-group l = list_any (λ group. takes (book_of l.list).claims (λ other. is_closed other.content) (group_of group)) (take l.group-index l.list.groups.items) ≡ false
