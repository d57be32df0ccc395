use Rattle.std.proofs.Common.{sym, ◌∙◌}
use Rattle.group_book.specs.Choices.{remaining}
use Rattle.group_view.specs.Books.{book_of, group_of}
use Rattle.group_view.specs.Walks.{is_free_packed}
use Rattle.group_view.proofs.PairLemmas.{kept_some, scan_first, scan_kept}
use Rattle.group_view.proofs.pairs.scanned.Goals as goal

pub returns-then-is_room_for_least : goal.returns-then-is_room_for_least
returns-then-is_room_for_least c =
    let list = c.args.list.now in
    let group = c.index-as_slice-place.result in
    let read = kept_some (is_free_packed (book_of list).claims (group_of group)) (remaining c.args.floor (group_of group)) c.in-Some.kept (sym c.in-Some.is ∙ c.kept_if_free.ensures) in
    scan_first c.args.floor c.args.group_rows list c.args.place group c.requires.there (rw c.as_slice.ensures at (sym c.index-as_slice-place.is)) c.args.scan c.requires.scan read.0 c.in-Some.kept c.lesser.result read.1 c.lesser.ensures
    (sym c.is_room_for_least.ensures ∙ c.if-is_room_for_least.true)

pub returns : goal.returns
returns c =
    let list = c.args.list.now in
    let group = c.index-as_slice-place.result in
    let read = kept_some (is_free_packed (book_of list).claims (group_of group)) (remaining c.args.floor (group_of group)) c.in-Some.kept (sym c.in-Some.is ∙ c.kept_if_free.ensures) in
    scan_kept c.args.floor c.args.group_rows list c.args.place group c.requires.there (rw c.as_slice.ensures at (sym c.index-as_slice-place.is)) c.args.scan c.requires.scan read.0 c.in-Some.kept c.lesser.result read.1 c.lesser.ensures
    (sym c.is_room_for_least.ensures ∙ c.if-is_room_for_least.false)
