use Rattle.std.proofs.Common.{rules, ◌≡◌, ◌∙◌, ap, sym, subst, ℤ, List, [], ◌∷◌, length, Option, Result, Some, IfOk, IfSome, FitsSigned, w64}
use Rattle.std.specs.Prelude.{slice_get, unwrap_or}
use Rattle.std.specs.declared.alloc.Global.{Global}
use Rattle.std.specs.declared.vec.Vec.{Vec}
use Rattle.std.proofs.lemmas.Int.{to_z-of_z}
use Rattle.cs_base.specs.declared.memory.Memory.{Memory}
use Rattle.cs_types.specs.declared.Schema.{Schema}
use Rattle.cs_types.specs.declared.Value.TheVariants.{Number}
use Rattle.cs_model.specs.declared.plan.InsertPlan.{InsertPlan}
use Rattle.cs_model.specs.Answers.{inserted, inserted_by, inserted_row, rows_from, series}
use Rattle.cs_model.specs.Series.{series_schema}
use Rattle.batch_compute.specs.Columns.{GivesColumns}
use Rattle.batch_compute.proofs.columns.series_columns.Goals as goal

-- what is made over the numbers of the plan's series
over_series : (schema : Schema) (plan : InsertPlan) (ends : ℤ × ℤ) (numbers : List ℤ) (made : Result (Option (Vec (Vec (Option ℤ) Global) Global)) Memory) → plan.series ≡ Some ends → numbers ≡ series ends
    → IfOk made (λ found. IfSome found (λ columns. GivesColumns (length schema.columns) (rows_from (λ number. inserted_row schema series_schema plan.columns (Number number ∷ []) (unwrap_or (slice_get plan.rows 0) [])) 1 numbers) columns.items))
    → IfOk made (λ found. IfSome found (λ columns. GivesColumns (length schema.columns) (inserted schema plan) columns.items))
over_series schema plan ends numbers made is are gives =
    let row = λ (number : ℤ). inserted_row schema series_schema plan.columns (Number number ∷ []) (unwrap_or (slice_get plan.rows 0) []) in
    subst (λ written. IfOk made (λ found. IfSome found (λ columns. GivesColumns (length schema.columns) written columns.items)))
    (ap (rows_from row 1) are ∙ sym (ap (inserted_by schema plan.columns plan.rows) is)) gives

pub returns-in-Some-2 : goal.returns-in-Some-2
returns-in-Some-2 c =
    let start : FitsSigned w64 c.in-Some.ends.0 = search rules in
    let stop : FitsSigned w64 c.in-Some.ends.1 = search rules in
    let are = simp (to_z-of_z, c.in-Some-2.is) at c.in_ok-numbers.ensures in
    over_series c.args.schema.now c.args.plan.now c.in-Some.ends c.in-Some-2.numbers.items c.columns_over.result c.in-Some.is are
    (simp (c.as_slice-in-Some-2-2.ensures.value, c.first_row.ensures, c.as_slice-in-Some-2.ensures, c.as_slice.ensures) at c.columns_over.ensures)
