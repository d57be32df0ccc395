use Rattle.std.proofs.Common.{◌++◌, ◌+◌, subst}
use Rattle.cs_model.specs.Steps.{numbered}
use Rattle.edit_laws.specs.Edits.{edits_of}
use Rattle.txn_table.specs.Txns.{txn_of, own_of}
use Rattle.group_book.specs.Invariant.{IsBookOf}
use Rattle.group_view.specs.Books.{book_of}
use Rattle.group_directory.proofs.StandLaws.{stands_committed, floor_given}
use Rattle.group_directory.proofs.TxnLaws.{own_commits}
use Rattle.group_directory.proofs.standing.commit_keeps_standing.Goals as goal

pub returns : goal.returns
returns c = λ directory changes list txns recent session number floor j is may book gone noted.
    let txns_agree = j.txns in
    stands_committed directory changes j txns session number (own_of (txn_of directory.txns session)) list recent (own_commits (txn_of directory.txns) changes directory.clock session txns_agree) may
    (subst (IsBookOf directory.sizes.group_rows (book_of list) (changes ++ numbered (directory.clock + 1) number (edits_of (own_of (txn_of directory.txns session))))) (floor_given directory changes j floor is) book) gone noted
