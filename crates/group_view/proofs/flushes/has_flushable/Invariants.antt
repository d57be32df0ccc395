use Rattle.std.proofs.Common.{◌≡◌, ◌≤◌, false, drop, length}
use Rattle.std.specs.List.{list_any}
use Rattle.group_view.specs.Books.{book_of, group_of}
use Rattle.group_view.specs.Walks.{ends_in}
use Rattle.group_view.proofs.Chosen.{takes_packed}
use Rattle.group_view.proofs.flushes.has_flushable.Given as goal

-- none from this place on passes
abbrev pub invariant-loop-place : goal.invariant-loop-place
invariant-loop-place l =
    (l.place ≤ length l.list.groups.items)
    × (list_any (λ group. takes_packed (book_of l.list).claims (λ other. list_any (ends_in (book_of l.list).buffer other) (book_of l.list).buffer) (group_of group)) (drop l.place l.list.groups.items) ≡ false)

abbrev pub decreases-loop-place : goal.decreases-loop-place
decreases-loop-place l = l.place
