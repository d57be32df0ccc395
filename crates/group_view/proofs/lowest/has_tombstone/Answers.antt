use Rattle.std.proofs.Common.{◌≡◌, ◌≤◌, ◌<◌, length, get_or, sym, ap, ◌∙◌}
use Rattle.std.proofs.lemmas.List.Folds.{list_any_at}
use Rattle.group_book.specs.Book.{Group, is_tombstone}
use Rattle.group_view.specs.declared.groups.Group.{Group as Kept}
use Rattle.group_view.specs.Books.{book_of, group_of}
use Rattle.group_view.proofs.Walks.{any-map, any_done, counts_one}
use Rattle.group_view.proofs.lowest.has_tombstone.Goals as goal

pub returns-then-is_tombstone : goal.returns-then-is_tombstone
returns-then-is_tombstone c =
    let list = c.args.list.now in
    let group = c.group-item.result in
    let inside : c.loop-group.group-index < length list.groups.items = rw c.as_slice-group-items.ensures at c.loop-group-test.true in
    let at : get_or list.groups.items c.loop-group.group-index group ≡ group = rw c.as_slice-group-items.ensures at (sym c.group-item.is) in
    sym (counts_one (λ (other : Group). is_tombstone other.content) (book_of list).groups ∙ any-map (λ (other : Group). is_tombstone other.content) group_of list.groups.items
    ∙ list_any_at (λ (other : Kept). is_tombstone (group_of other).content) list.groups.items c.loop-group.group-index group inside
    (ap (λ (other : Kept). is_tombstone (group_of other).content) at ∙ sym c.is_tombstone.ensures ∙ c.if-is_tombstone.true))

pub returns : goal.returns
returns c =
    let list = c.args.list.now in
    let past : length list.groups.items ≤ c.loop-group.group-index = rw c.as_slice-group-items.ensures at c.loop-group-test.false in
    sym (counts_one (λ (other : Group). is_tombstone other.content) (book_of list).groups ∙ any-map (λ (other : Group). is_tombstone other.content) group_of list.groups.items
    ∙ any_done (λ (other : Kept). is_tombstone (group_of other).content) list.groups.items c.loop-group.group-index c.loop-group.invariant past)
