use Rattle.std.proofs.Common.{length, subst}
use Rattle.std.specs.Map.{values_of}
use Rattle.cs_model.specs.Queries.{answer, Gives}
use Rattle.row_work.specs.Named.{rows_at}
use Rattle.row_work.specs.Reads.{read_by}
use Rattle.row_work.proofs.Answered.{answer_named, print_read}
use Rattle.statement_work.proofs.workers.rows_of_answer.Goals as goal

pub returns-in-Some-clause-gives : goal.returns-in-Some-clause-gives
returns-in-Some-clause-gives g c =
    let schema = c.args.scan.now.schema.now in
    let query = c.args.scan.now.query.now in
    let pinned = c.args.scan.now.pinned.now in
    let order = rw c.in-Some.is at c.in_ok-keys.ensures.order in
    let named = rw c.in-Some.is at c.in_ok-keys.ensures.named in
    answer_named schema query pinned c.requires.may c.in-Some.keys.items c.answer_at_keys.result order named
    (subst (λ keys. Gives c.answer_at_keys.result (answer schema query (values_of (rows_at (read_by (length schema.columns) pinned) keys)))) c.deref.ensures.value c.answer_at_keys.ensures)

pub returns-in-Some-clause-printable : goal.returns-in-Some-clause-printable
returns-in-Some-clause-printable g c = print_read c.args.scan.now.schema.now c.args.scan.now.query.now c.args.scan.now.pinned.now c.requires.may c.answer_at_keys.result (returns-in-Some-clause-gives g c)

pub returns-clause-printable : goal.returns-clause-printable
returns-clause-printable g c = print_read c.args.scan.now.schema.now c.args.scan.now.query.now c.args.scan.now.pinned.now c.requires.may c.answer_of_all.result c.answer_of_all.ensures
