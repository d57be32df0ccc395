use Rattle.std.proofs.Common.{◌≡◌, ◌∙◌, length, sym, arith}
use Rattle.std.proofs.lemmas.Bool.Decides.{nat_tests}
use Rattle.std.proofs.lemmas.List.{nil_from_length}
use Rattle.row_work.specs.Reads.{rowed_at}
use Rattle.row_work.specs.Stores.{is_read_within, positions_of}
use Rattle.row_work.proofs.Absence.{none_found}
use Rattle.row_work.proofs.absent.is_apart.Goals as goal

pub returns-in-Some : goal.returns-in-Some
returns-in-Some c = λ apart.
    let found = c.in-Some.positions.items in
    let none : length found ≡ 0 = grind (arith, nat_tests, sym c.is_empty.ensures ∙ apart, c.in-Some.positions.ok.0) in
    let moved = rw c.in-Some.is at c.in_ok-positions.ensures in
    none_found found (positions_of (is_read_within c.args.pinned.now c.args.bounds) (rowed_at c.args.pinned.now.view c.args.group)) (nil_from_length found none) moved
