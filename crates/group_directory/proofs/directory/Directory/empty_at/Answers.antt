use Rattle.std.proofs.Common.{refl}
use Rattle.group_directory.proofs.NewLists.{held_none, book_none}
use Rattle.group_directory.proofs.StandLaws.{stands_new}
use Rattle.group_directory.proofs.directory.Directory.empty_at.Goals as goal

pub returns-clause-stands : goal.returns-clause-stands
returns-clause-stands c =
    let none = c.no_groups.ensures in
    stands_new _ (record {
      sizes = c.requires;
      held = held_none c.no_groups.result none.groups none.opened none.claims;
      groups = none.groups;
      claims = none.claims;
      book = book_none c.no_groups.result none.groups none.buffer none.claims none.next;
      recent = c.new-3.ensures.changes;
      pruned = refl;
      txns = c.new-2.ensures.none;
    })
