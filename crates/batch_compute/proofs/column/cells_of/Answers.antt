use Rattle.std.proofs.Common.{◌≡◌, ◌∙◌, ap, ℤ, Some, [], ◌∷◌, Ok}
use Rattle.cs_types.specs.declared.Loose.{Loose}
use Rattle.cs_types.specs.declared.Loose.TheVariants.{Null}
use Rattle.cs_types.specs.declared.Value.TheVariants.{Number}
use Rattle.cs_model.specs.Answers.{computed_of}
use Rattle.cs_model.specs.Series.{series_schema}
use Rattle.batch_compute.specs.Values.{over}
use Rattle.batch_compute.proofs.Nodes.{literal_is}
use Rattle.batch_compute.proofs.Places.{nulls_kept}
use Rattle.batch_compute.proofs.column.cells_of.Goals as goal

pub returns-in-Constant : goal.returns-in-Constant
returns-in-Constant c =
    let literal : c.in-Constant.literal ≡ Null = c.is_null.ensures.0 c.if-is_null.true in
    let null : (number : ℤ) → computed_of series_schema (Number number ∷ []) (Some c.args.expr.now) ≡ Ok Null = λ number.
    ap (over number) c.in-Constant.is ∙ literal_is number c.in-Constant.literal ∙ ap (λ (x : Loose). Ok x) literal in
    nulls_kept c.args.column.now (Some c.args.expr.now) c.args.numbers.now c.nulls.result null c.nulls.ensures
