use Rattle.std.proofs.Common.{◌∙◌, [], length, ap}
use Rattle.std.specs.Map.{values_of}
use Rattle.row_work.specs.Named.{rows_at}
use Rattle.row_work.specs.Reads.{read_by}
use Rattle.row_work.proofs.Cells.{answered}
use Rattle.row_work.proofs.select.answer_at_keys.Goals as goal

pub returns : goal.returns
returns c =
    let schema = c.args.schema.now in
    let query = c.args.query.now in
    let pinned = c.args.pinned.now in
    let keys = c.args.keys.now in
    let rows = values_of (rows_at (read_by (length schema.columns) pinned) keys) in
    let added = values_of (rows_at (read_by c.len-width.result pinned) keys) in
    let all = rw c.in_ok-add_at_keys.was at (c.add_at_keys.ensures.added [] c.in_ok-partial.ensures.empty) in
    answered schema c.add_at_keys.new.partial.schema.now query c.add_at_keys.new.partial.query.now rows added c.result.result
    (c.in_ok-add_at_keys.ensures.schema ∙ c.in_ok-partial.ensures.schema) (c.in_ok-add_at_keys.ensures.query ∙ c.in_ok-partial.ensures.query)
    (ap (λ width. values_of (rows_at (read_by width pinned) keys)) c.len-width.ensures) (c.result.ensures added all)
