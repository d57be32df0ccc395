use Rattle.std.proofs.Common.{rules, ◌≡◌, ◌∙◌, ap, ℤ, Some, Ok, [], ◌∷◌, FitsSigned, w64}
use Rattle.std.proofs.lemmas.Int.{to_z-of_z}
use Rattle.cs_types.specs.declared.Column.{Column}
use Rattle.cs_types.specs.declared.Loose.TheVariants as loose
use Rattle.cs_types.specs.declared.Value.TheVariants.{Number}
use Rattle.cs_model.specs.declared.expr.Expr.{Expr}
use Rattle.cs_model.specs.Answers.{kept}
use Rattle.cs_model.specs.Expressions.{compute}
use Rattle.cs_model.specs.Series.{series_schema}
use Rattle.batch_compute.specs.Columns.{kept_over}
use Rattle.batch_compute.proofs.column.series_cell.Goals as goal

-- what is computed is kept
kept_of : (column : Column) (expr : Expr) (number value cell : ℤ) → compute expr (Number number ∷ []) series_schema ≡ Ok (loose.Number value 0)
    → kept column (Ok (loose.Number value 0)) ≡ Ok (Number cell) → kept_over column (Some expr) number ≡ Ok (Number cell)
kept_of column expr number value cell computed keeps = ap (kept column) computed ∙ keeps

pub returns-in_ok-kept_number-in-Some : goal.returns-in_ok-kept_number-in-Some
returns-in_ok-kept_number-in-Some c =
    let number : FitsSigned w64 c.args.number = c.ranges.number in
    let value : FitsSigned w64 c.in_ok-value-in-Some.field-0 = search rules in
    let cell : FitsSigned w64 c.in_ok-kept_number-in-Some.field-0 = search rules in
    let computed = rw c.in-Some.is at (simp to_z-of_z at c.in_ok-value-in-Some.ensures) in
    let keeps = simp to_z-of_z at c.in_ok-kept_number-in-Some.ensures in
    rw c.in-Some.is (rw (to_z-of_z w64 c.in_ok-kept_number-in-Some.field-0 cell)
    (kept_of c.args.column.now c.in-Some.expr.now c.args.number c.in_ok-value-in-Some.field-0 c.in_ok-kept_number-in-Some.field-0 computed keeps))
