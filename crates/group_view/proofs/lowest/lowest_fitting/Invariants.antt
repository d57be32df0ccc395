use Rattle.std.proofs.Common.{◌≡◌, false, take, drop}
use Rattle.std.specs.List.{list_any}
use Rattle.group_view.specs.Walks.{fits_beside}
use Rattle.group_view.specs.Books.{book_of, group_of}
use Rattle.group_view.proofs.Chosen.{takes_packed}
use Rattle.group_view.proofs.lowest.lowest_fitting.Given as goal

abbrev pub invariant-loop-group : goal.invariant-loop-group
invariant-loop-group l = list_any (λ group. takes_packed (book_of l.list).claims (fits_beside l.floor l.group_rows l.kept_beside) (group_of group)) (take l.group-index (drop l.from l.list.groups.items)) ≡ false
