use Rattle.std.proofs.Common.{◌++◌, ◌+◌, length, sym, subst}
use Rattle.cs_model.specs.Steps.{numbered}
use Rattle.group_book.specs.Commits.{replaced_by, inserted_by, direct_parts, after_ends, after_loads, after_rest}
use Rattle.group_book.specs.Turns.{installed_with, after_flush}
use Rattle.group_book.specs.Invariant.{IsBookOf}
use Rattle.group_view.specs.Books.{claim_of, book_of}
use Rattle.group_directory.specs.Laws.{sizes_of}
use Rattle.group_directory.proofs.EventLaws.{book_committed, book_installed, book_flushed, claim_at}
use Rattle.group_directory.proofs.StandLaws.{floor_given}
use Rattle.group_directory.proofs.standing.books_follow.Goals as goal

pub returns-clause-commit : goal.returns-clause-commit
returns-clause-commit c = λ directory changes txn floor own loads j is sorted zip.
    subst (IsBookOf directory.sizes.group_rows (after_rest directory.sizes.group_rows (directory.clock + 1) (direct_parts (length (inserted_by own)) (sizes_of directory) (inserted_by own)).1
    (after_loads (directory.clock + 1) loads (after_ends (replaced_by changes directory.clock own) (directory.clock + 1) (book_of directory.list)))) (changes ++ numbered (directory.clock + 1) txn own)) (sym (floor_given directory changes j floor is))
    (book_committed directory changes j txn own loads sorted zip)

pub returns-clause-install : goal.returns-clause-install
returns-clause-install c = λ directory changes floor held versions j is there makes moved.
    subst (IsBookOf directory.sizes.group_rows (installed_with versions (claim_of held) (book_of directory.list)) changes) (sym (floor_given directory changes j floor is)) (book_installed directory changes j held versions there makes moved)

pub returns-clause-flush : goal.returns-clause-flush
returns-clause-flush c = λ directory changes floor held j is there flush.
    subst (IsBookOf directory.sizes.group_rows (after_flush (claim_of held) (book_of directory.list)) changes) (sym (floor_given directory changes j floor is)) (book_flushed directory changes j held there flush)

pub returns-clause-there : goal.returns-clause-there
returns-clause-there c = claim_at
