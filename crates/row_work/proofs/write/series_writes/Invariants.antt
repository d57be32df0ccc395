use Rattle.std.proofs.Common.{◌≡◌, length, [], ◌∷◌}
use Rattle.cs_types.specs.declared.Value.TheVariants.{Number}
use Rattle.cs_model.specs.Series.{series_schema}
use Rattle.cs_model.specs.Answers.{series}
use Rattle.row_work.specs.Inserts.{inserted_write}
use Rattle.row_work.proofs.Written.{all_rows, rows_with}
use Rattle.row_work.proofs.write.series_writes.Given as goal

abbrev pub invariant-loop-i : goal.invariant-loop-i
invariant-loop-i l = record {
  gives : rows_with (λ number. inserted_write l.schema series_schema l.columns (Number number ∷ []) l.exprs) (series (l.start, l.stop)) l.written l.i
      ≡ all_rows (λ number. inserted_write l.schema series_schema l.columns (Number number ∷ []) l.exprs) (series (l.start, l.stop));
  count : length l.written ≡ l.i;
}
