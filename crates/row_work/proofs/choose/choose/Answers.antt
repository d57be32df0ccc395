use Rattle.std.proofs.Common.{◌∙◌, length, ap}
use Rattle.std.proofs.lemmas.Result.{IfOk-weaker}
use Rattle.row_work.specs.Named.{rows_at}
use Rattle.row_work.specs.Reads.{read_by}
use Rattle.row_work.specs.Sources.{rows_as_edits}
use Rattle.row_work.proofs.Answered.{chosen_named}
use Rattle.row_work.proofs.Scanned.{picked}
use Rattle.row_work.proofs.choose.choose.Goals as goal

pub returns-in-Some-clause-rows : goal.returns-in-Some-clause-rows
returns-in-Some-clause-rows c =
    let schema = c.args.schema.now in
    let condition = c.args.condition.now in
    let pinned = c.args.pinned.now in
    let order = rw c.in-Some.is at c.in_ok-keys.ensures.order in
    let named = rw c.in-Some.is at c.in_ok-keys.ensures.named in
    IfOk-weaker c.choose_at_keys.result _ _ (λ chosen is. is ∙ ap (λ keys. picked schema condition (rows_at (read_by (length schema.columns) pinned) keys)) c.deref.ensures.value
    ∙ ap rows_as_edits (chosen_named schema condition pinned c.requires c.in-Some.keys.items order named)) c.choose_at_keys.ensures.rows
