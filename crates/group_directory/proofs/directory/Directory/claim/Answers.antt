use Rattle.std.proofs.Common.{ℕ, subst}
use Rattle.std.specs.Prelude.{◌≢◌, IfOk, OnErr}
use Rattle.log_laws.proofs.Floors.{floor_one}
use Rattle.txn_table.specs.Txns.{txn_of, snapshots_in}
use Rattle.group_book.specs.Book.{Choice}
use Rattle.group_book.specs.Book.Choice.{Idle}
use Rattle.group_book.specs.Choices.{choice}
use Rattle.group_view.specs.Books.{book_of}
use Rattle.group_directory.specs.Claimed.{IsTaken}
use Rattle.group_directory.proofs.directory.Directory.claim.Goals as goal

pub returns-clause-busy : goal.returns-clause-busy
returns-clause-busy c = λ floor is.
    let now = c.args.self.now in
    subst (λ (f : ℕ). OnErr c.take.result (choice f now.sizes.group_rows c.args.actor (book_of now.list) ≢ Idle))
    (floor_one (snapshots_in (txn_of now.txns)) now.clock c.floor-floor.result floor c.floor-floor.ensures is)
    (subst (λ (made : Choice). OnErr c.take.result (made ≢ Idle)) c.next_work-choice.ensures c.take.ensures.busy)

pub returns-clause-taken : goal.returns-clause-taken
returns-clause-taken c = λ floor is.
    let now = c.args.self.now in
    subst (λ (f : ℕ). IfOk c.take.result (IsTaken (choice f now.sizes.group_rows c.args.actor (book_of now.list)) f c.args.actor now c.take.new.self))
    (floor_one (snapshots_in (txn_of now.txns)) now.clock c.floor-floor.result floor c.floor-floor.ensures is)
    (subst (λ (made : Choice). IfOk c.take.result (IsTaken made c.floor-floor.result c.args.actor now c.take.new.self)) c.next_work-choice.ensures c.take.ensures.taken)
