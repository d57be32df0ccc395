use Rattle.std.proofs.Common.{◌≡◌, ◌≤◌, ◌<◌, false, length, map, get_or, refl, sym, ap, ◌∙◌}
use Rattle.group_book.specs.Choices.{is_thin}
use Rattle.group_book.specs.Turns.{is_claimed}
use Rattle.group_view.specs.Books.{book_of, claim_of, group_of}
use Rattle.group_view.proofs.Chosen.{packed_found, packed_none}
use Rattle.group_view.proofs.lowest.lowest_thin.Goals as goal

pub returns-then-not-is_claimed : goal.returns-then-not-is_claimed
returns-then-not-is_claimed c =
    let list = c.args.list.now in
    let group = c.group-item.result in
    let inside : c.loop-group.group-index < length list.groups.items = rw c.as_slice-group-items.ensures at c.loop-group-test.true in
    let at : get_or list.groups.items c.loop-group.group-index group ≡ group = rw c.as_slice-group-items.ensures at (sym c.group-item.is) in
    let unclaimed : is_claimed (map claim_of list.claims.items) (group_of group) ≡ false = sym (c.is_claimed.ensures (group_of group) refl ∙ ap (λ claims. is_claimed (map claim_of claims) (group_of group)) c.deref.ensures.value) ∙ c.if-not-is_claimed.true in
    sym (packed_found (book_of list) (is_thin c.args.floor) list.groups.items c.loop-group.group-index group c.loop-group.invariant inside at (sym c.is_thin.ensures ∙ c.if-is_thin.true) unclaimed)

pub returns : goal.returns
returns c =
    let list = c.args.list.now in
    let past : length list.groups.items ≤ c.loop-group.group-index = rw c.as_slice-group-items.ensures at c.loop-group-test.false in
    sym (packed_none (book_of list) (is_thin c.args.floor) list.groups.items c.loop-group.group-index c.loop-group.invariant past)
