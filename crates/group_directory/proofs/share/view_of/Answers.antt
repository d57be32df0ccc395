use Rattle.group_directory.proofs.Held.{book_same, held_same}
use Rattle.group_directory.proofs.PackedLaws.{packed_same}
use Rattle.group_directory.proofs.Shared.{same_listed, shown_listed, shown_packed}
use Rattle.group_directory.proofs.share.view_of.Goals as goal

pub returns-clause-book : goal.returns-clause-book
returns-clause-book c = book_same c.args.list.now c.share_view.new.list c.share_view.ensures.same

pub returns-clause-held : goal.returns-clause-held
returns-clause-held c = held_same c.args.list.now c.share_view.new.list c.share_view.ensures.same c.requires

pub returns-clause-listed : goal.returns-clause-listed
returns-clause-listed c = let same = c.share_view.ensures.same in same_listed c.share_view.new.list.groups.items c.args.list.now.groups.items same.seen

pub returns-clause-shown : goal.returns-clause-shown
returns-clause-shown c = shown_listed c.share_view.result c.args.list.now c.args.floor c.args.clock c.share_view.ensures.view

pub returns-clause-kept : goal.returns-clause-kept
returns-clause-kept c = let same = c.share_view.ensures.same in packed_same c.share_view.new.list.groups.items c.args.list.now.groups.items same.seen

pub returns-clause-packed : goal.returns-clause-packed
returns-clause-packed c = shown_packed c.share_view.result c.args.list.now c.args.floor c.args.clock c.share_view.ensures.view
