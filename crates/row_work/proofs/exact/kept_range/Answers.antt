use Rattle.std.proofs.Common.{◌∙◌, ap}
use Rattle.cs_model.specs.Queries.{is_true, keeps}
use Rattle.delta_store.specs.Index.{is_between}
use Rattle.row_work.proofs.KeptRange.{is_true_if, some_weaker}
use Rattle.row_work.proofs.exact.kept_range.Goals as goal

pub returns-in-Some : goal.returns-in-Some
returns-in-Some c =
    some_weaker c.range_of.result _ _
    (λ bounds is key row stands. ap (λ o. keeps c.args.schema.now o row) c.in-Some.is ∙ ap is_true (is key row stands) ∙ is_true_if (is_between bounds.least bounds.greatest key))
    c.range_of.ensures
