use Rattle.std.proofs.Common.{◌∙◌, ap, rules, sym}
use mir.Val.{SFits}
use mir.Syntax.{w128}
use Rattle.std.specs.Ordering.{int_cmp}
use Rattle.std.proofs.lemmas.Int.{to_z-of_z}
use Rattle.cs_model.specs.Truths.{compare, holds, truth_if}
use Rattle.row_work.proofs.Constants.{key_small}
use Rattle.row_work.proofs.KeptRange.{key_cell, some_weaker}
use Rattle.row_work.proofs.exact.range_beside.Goals as goal

pub returns : goal.returns
returns c =
    let schema = c.args.schema.now in
    let sign = c.args.sign in
    let fits : SFits w128 c.in_ok-number_beside.field-0 = search rules in
    let other = simp (to_z-of_z, fits) at c.in_ok-other.ensures in
    some_weaker c.range_beside_key.result _ _
    (λ bounds is key row stands.
    ap (λ l. compare sign l c.args.constant.now) (key_cell schema key row c.requires stands c.at.result.now c.at.ensures.value)
    ∙ c.in_ok-number_beside.ensures sign key.0
    ∙ ap (λ m. truth_if (holds sign (int_cmp key.0 m))) (sym other)
    ∙ ap truth_if (is key (key_small schema key row c.requires stands)))
    c.range_beside_key.ensures
