use Rattle.std.proofs.Common.{◌≡◌, false, take}
use Rattle.std.specs.List.{list_any}
use Rattle.group_view.specs.Walks.{settles_in}
use Rattle.group_view.specs.Books.{book_of, group_of}
use Rattle.group_view.proofs.Chosen.{takes_packed}
use Rattle.group_view.proofs.lowest.has_settling.Given as goal

abbrev pub invariant-loop-group : goal.invariant-loop-group
invariant-loop-group l = list_any (λ group. takes_packed (book_of l.list).claims (settles_in l.floor) (group_of group)) (take l.group-index l.list.groups.items) ≡ false
