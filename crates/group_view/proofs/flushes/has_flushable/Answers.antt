use Rattle.std.proofs.Common.{◌≡◌, ◌-◌, ◌<◌, false, length, map, get_or, refl, sym, ap, ◌∙◌, arith}
use Rattle.std.specs.List.{list_any}
use Rattle.group_view.specs.Walks.{ends_in}
use Rattle.group_view.proofs.Chosen.{flushed_one, none_passes, one_found}
use Rattle.group_book.specs.Turns.{is_claimed}
use Rattle.group_view.specs.Books.{book_of, claim_of, group_of}
use Rattle.group_view.proofs.flushes.has_flushable.Goals as goal

pub returns-then-not-is_claimed : goal.returns-then-not-is_claimed
returns-then-not-is_claimed c =
    let list = c.args.list.now in
    let book = book_of list in
    let group = c.index-as_slice-place.result in
    let some = c.loop-place-test.true in
    let most = c.loop-place.invariant.0 in
    let inside : c.loop-place.place - 1 < length list.groups.items = omega (arith, some, most) in
    let at : get_or list.groups.items (c.loop-place.place - 1) group ≡ group = rw c.as_slice.ensures at (sym c.index-as_slice-place.is) in
    let unclaimed : is_claimed (map claim_of list.claims.items) (group_of group) ≡ false = sym (c.is_claimed.ensures (group_of group) refl ∙ ap (λ claims. is_claimed (map claim_of claims) (group_of group)) c.deref.ensures.value) ∙ c.if-not-is_claimed.true in
    sym (flushed_one book ∙ one_found book (λ other. list_any (ends_in book.buffer other) book.buffer) list.groups.items (c.loop-place.place - 1) group inside at (sym c.has_entry.ensures ∙ c.if-has_entry.true) unclaimed)

pub returns : goal.returns
returns c =
    let list = c.args.list.now in
    let book = book_of list in
    let none = c.loop-place-test.false in
    let first : c.loop-place.place ≡ 0 = omega (arith, none) in
    sym (flushed_one book ∙ none_passes book (λ other. list_any (ends_in book.buffer other) book.buffer) list.groups.items (rw first at c.loop-place.invariant.1))
