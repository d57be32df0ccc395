use Rattle.std.proofs.Common.{◌≡◌, ℤ, [], ◌∷◌, Ok}
use Rattle.std.specs.Option.{option_copied}
use Rattle.cs_types.specs.declared.Loose.TheVariants.{Null}
use Rattle.cs_types.specs.declared.Value.TheVariants.{Number}
use Rattle.cs_model.specs.Answers.{computed_of}
use Rattle.cs_model.specs.Series.{series_schema}
use Rattle.batch_compute.proofs.Places.{nulls_kept}
use Rattle.batch_compute.proofs.column.column_over.Goals as goal

pub returns-in-None : goal.returns-in-None
returns-in-None c =
    let null : (number : ℤ) → computed_of series_schema (Number number ∷ []) (option_copied c.args.expr) ≡ Ok Null = λ number. rw c.in-None.is in
    nulls_kept c.args.column.now (option_copied c.args.expr) c.args.numbers.now c.nulls.result null c.nulls.ensures
