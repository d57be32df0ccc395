use Rattle.std.proofs.Common.{◌≡◌, ◌≤◌, ◌<◌, false, List, length, map, get_or, take, drop, length-drop, ◌-◌, ℕ, refl, sym, ap, subst, ◌∙◌, arith}
use Rattle.std.proofs.lemmas.List.{take_all}
use Rattle.group_view.specs.Walks.{fits_beside}
use Rattle.group_book.specs.Turns.{is_claimed}
use Rattle.group_view.specs.declared.groups.Group.{Group}
use Rattle.group_view.specs.Books.{book_of, claim_of, group_of}
use Rattle.group_view.proofs.Chosen.{packed_found, packed_none}
use Rattle.group_view.proofs.lowest.lowest_fitting.Goals as goal

-- what the slice from a place on is
rest : (from : ℕ) (groups items : List Group) → groups ≡ items → from ≤ length items → take (length groups - from) (drop from groups) ≡ drop from items
rest from groups items same within = subst (λ (gs : List Group). take (length gs - from) (drop from gs) ≡ drop from items) (sym same) (take_all (length items - from) (drop from items) (omega (arith, length-drop from items, within)))

pub returns-then-not-is_claimed : goal.returns-then-not-is_claimed
returns-then-not-is_claimed c =
    let list = c.args.list.now in
    let group = c.group-item.result in
    let i = c.loop-group.group-index in
    let same = rest c.args.from c.as_slice.result.now list.groups.items c.as_slice.ensures c.requires.within in
    let inside = subst (λ (groups : List Group). i < length groups) same c.loop-group-test.true in
    let at = subst (λ (groups : List Group). get_or groups i group ≡ group) same (sym c.group-item.is) in
    let unclaimed : is_claimed (map claim_of list.claims.items) (group_of group) ≡ false = sym (c.is_claimed.ensures (group_of group) refl ∙ ap (λ claims. is_claimed (map claim_of claims) (group_of group)) c.deref.ensures.value) ∙ c.if-not-is_claimed.true in
    sym (packed_found (book_of list) (fits_beside c.args.floor c.args.group_rows c.args.kept_beside) (drop c.args.from list.groups.items) i group c.loop-group.invariant inside at (sym c.fits.ensures ∙ c.if-fits.true) unclaimed)

pub returns : goal.returns
returns c =
    let list = c.args.list.now in
    let past = subst (λ (groups : List Group). length groups ≤ c.loop-group.group-index) (rest c.args.from c.as_slice.result.now list.groups.items c.as_slice.ensures c.requires.within) c.loop-group-test.false in
    sym (packed_none (book_of list) (fits_beside c.args.floor c.args.group_rows c.args.kept_beside) (drop c.args.from list.groups.items) c.loop-group.group-index c.loop-group.invariant past)
