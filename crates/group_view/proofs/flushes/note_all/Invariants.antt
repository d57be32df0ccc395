use Rattle.std.proofs.Common.{◌≡◌, filter, map, take}
use Rattle.std.specs.List.{list_any}
use Rattle.group_view.specs.declared.groups.Group.{Group}
use Rattle.group_view.specs.Books.{book_of, group_of}
use Rattle.group_view.specs.Walks.{ends_in}
use Rattle.group_view.proofs.Chosen.{noted_by, takes_packed}
use Rattle.group_view.proofs.flushes.note_all.Given as goal

abbrev pub invariant-loop-group : goal.invariant-loop-group
invariant-loop-group l =
    (l.sources ≡ map (λ (group : Group). group.id) (filter (λ group. takes_packed (book_of l.list).claims (λ other. list_any (ends_in (book_of l.list).buffer other) (book_of l.list).buffer) (group_of group)) (take l.group-index l.list.groups.items)))
    × (l.noted ≡ map (noted_by (book_of l.list).claims (book_of l.list).buffer l.list.groups.items l.group-index) (book_of l.list).buffer)
