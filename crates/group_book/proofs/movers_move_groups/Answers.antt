use Rattle.std.proofs.lemmas.List.Elements.{All-contains}
use Rattle.group_book.specs.Invariant.{IsClaim}
use Rattle.group_book.proofs.Moves.{claim_moves, flush_claim_moves, install_moves, flush_moves, release_moves, settle_moves, clear_moves}
use Rattle.group_book.proofs.movers_move_groups.Goals as goal

pub returns-clause-claim : goal.returns-clause-claim
returns-clause-claim c = λ book actor choice sources floor. claim_moves actor choice sources floor book

pub returns-clause-flush_claim : goal.returns-clause-flush_claim
returns-clause-flush_claim c = λ book actor sources floor. flush_claim_moves actor sources floor book

pub returns-clause-install : goal.returns-clause-install
returns-clause-install c = λ group_rows book changes floor claim in_list j. install_moves group_rows book changes floor claim j.groups.by_id (All-contains (IsClaim group_rows book changes floor) book.claims claim j.claims.each in_list)

pub returns-clause-flush : goal.returns-clause-flush
returns-clause-flush c = λ book claim. flush_moves claim book

pub returns-clause-release : goal.returns-clause-release
returns-clause-release c = λ group_rows book changes floor claim in_list j. release_moves group_rows book changes floor claim j.groups.by_id (All-contains (IsClaim group_rows book changes floor) book.claims claim j.claims.each in_list)

pub returns-clause-settle : goal.returns-clause-settle
returns-clause-settle c = λ book at. settle_moves at book

pub returns-clause-clear : goal.returns-clause-clear
returns-clause-clear c = λ group_rows book changes floor j. clear_moves book j.groups.by_id
