use Rattle.std.proofs.Common.{sym, subst}
use Rattle.group_book.specs.Invariant.{IsBookOf}
use Rattle.group_view.specs.Books.{book_of}
use Rattle.group_directory.proofs.StandLaws.{stands_moved, stands_pruned, floor_given}
use Rattle.group_directory.proofs.standing.groups_keep_standing.Goals as goal

pub returns-clause-moved : goal.returns-clause-moved
returns-clause-moved c = λ directory changes list floor j is may book. stands_moved directory changes j list may (subst (IsBookOf directory.sizes.group_rows (book_of list) changes) (floor_given directory changes j floor is) book)

pub returns-clause-book : goal.returns-clause-book
returns-clause-book c = λ directory changes floor j is. subst (IsBookOf directory.sizes.group_rows (book_of directory.list) changes) (sym (floor_given directory changes j floor is)) j.book

pub returns-clause-pruned : goal.returns-clause-pruned
returns-clause-pruned c = λ directory changes recent floor kept j. stands_pruned directory changes j recent floor kept
