use Rattle.std.proofs.Common.{◌∙◌, ◌++◌, length, sym}
use Rattle.std.specs.List.{filter_map}
use Rattle.std.specs.Map.{values_of}
use Rattle.cs_model.specs.Changes.{Table}
use Rattle.group_view.specs.Views.{rowed_of}
use Rattle.row_work.specs.Reads.{own_row, read_row, rows_in}
use Rattle.row_work.proofs.Answered.{answer_read}
use Rattle.row_work.proofs.Cells.{answered}
use Rattle.row_work.proofs.Scanned.{values_append}
use Rattle.statement_work.proofs.workers.answer_of_all.Goals as goal

pub returns : goal.returns
returns g c =
    let schema = c.args.scan.now.schema.now in
    let query = c.args.scan.now.query.now in
    let pinned = c.args.scan.now.pinned.now in
    let width = length schema.columns in
    let shown : Table = filter_map (read_row width pinned) (rowed_of pinned.view) in
    let own : Table = filter_map own_row pinned.own in
    let part = c.in_ok-partial.ensures in
    let both = rw c.in_ok-add_own.was at (c.add_own.ensures.added (values_of shown) part.rows) in
    answer_read schema query pinned c.requires.may c.result.result c.add_own.ensures.order
    (answered schema c.add_own.new.partial.schema.now query c.add_own.new.partial.query.now (values_of (rows_in width pinned)) (values_of shown ++ values_of own) c.result.result
    (c.in_ok-add_own.ensures.schema ∙ part.of_schema) (c.in_ok-add_own.ensures.query ∙ part.of_query) (sym (values_append shown own)) (c.result.ensures (values_of shown ++ values_of own) both))
