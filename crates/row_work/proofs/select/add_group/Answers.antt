use Rattle.std.proofs.Common.{length}
use Rattle.std.proofs.lemmas.Bool.{OnTrue_at}
use Rattle.row_work.specs.Reads.{rowed_at}
use Rattle.row_work.specs.Sieved.{read_in}
use Rattle.row_work.proofs.Passed.{stands_on}
use Rattle.row_work.proofs.select.add_group.Goals as goal

pub returns-then-is_passed_over-clause-added : goal.returns-then-is_passed_over-clause-added
returns-then-is_passed_over-clause-added c = λ rows stands.
    let schema = c.args.schema.now in
    let query = c.args.query.now in
    let pinned = c.args.pinned.now in
    stands_on schema query c.args.partial.now rows (read_in (length schema.columns) pinned (rowed_at pinned.view c.args.group)) c.requires.of_schema c.requires.of_query
    (OnTrue_at c.if-is_passed_over.true c.is_passed_over.ensures) stands
