use Rattle.std.proofs.Common.{rules, ℤ, ◌≡◌, ◌∙◌, ◌+◌, [], ◌∷◌, length, subst, ap, w64, to_z, of_z, FitsSigned}
use Rattle.std.specs.Prelude.{Ok, Err}
use Rattle.std.proofs.lemmas.Int.{to_z-of_z}
use Rattle.std.proofs.lemmas.List.{length_push}
use Rattle.cs_types.specs.declared.Value.TheVariants.{Number}
use Rattle.cs_model.specs.Series.{series_schema}
use Rattle.cs_model.specs.Answers.{rows_from, series}
use Rattle.row_work.specs.Inserts.{inserted_write}
use Rattle.row_work.specs.Gives.{RefusesRow, GivesRows}
use Rattle.row_work.proofs.Written.{series_more, series_refused, series_done}
use Rattle.row_work.proofs.write.series_writes.Goals as goal

pub returns-in_err-row : goal.returns-in_err-row
returns-in_err-row c =
    let schema = c.args.schema.now in
    let columns = c.args.columns.now in
    let exprs = c.args.exprs.now in
    let row = λ (number : ℤ). inserted_write schema series_schema columns (Number number ∷ []) exprs in
    let start = to_z w64 (of_z w64 c.args.start) in
    let stop = to_z w64 (of_z w64 c.args.stop) in
    let fits : FitsSigned w64 c.number_at-number.result = search rules in
    let x = to_z w64 (of_z w64 c.number_at-number.result) in
    let is = to_z-of_z w64 c.number_at-number.result fits ∙ c.number_at-number.ensures in
    let refusal = c.in_err-row.field-0.0 in
    let here : c.next_row-place.result ≡ c.loop-i.i + 1 = c.next_row-place.ensures ∙ ap (λ rows. length rows + 1) c.as_slice.ensures ∙ ap (λ n. n + 1) c.loop-i.invariant.count in
    let refuses : RefusesRow (c.loop-i.i + 1) (row x) refusal =
    subst (λ n. RefusesRow n (row x) refusal) here c.in_err-row.ensures in
    let whole : GivesRows (rows_from row 1 (series (start, stop))) (Err refusal) =
    series_refused row start stop c.series_len-count.result c.series_len-count.ensures c.loop-i.written c.loop-i.i x refusal c.loop-i-test.true is refuses c.loop-i.invariant.gives in
    let gives : GivesRows (rows_from row 1 (series (c.args.start, c.args.stop))) (Err refusal) =
    subst (λ (ends : ℤ × ℤ). GivesRows (rows_from row 1 (series ends)) (Err refusal)) (λ i. (to_z-of_z w64 c.args.start c.ranges.start i, to_z-of_z w64 c.args.stop c.ranges.stop i)) whole in
    search (rules, gives)

pub loop-i-preserved : goal.loop-i-preserved
loop-i-preserved c =
    let schema = c.args.schema.now in
    let columns = c.args.columns.now in
    let exprs = c.args.exprs.now in
    let row = λ (number : ℤ). inserted_write schema series_schema columns (Number number ∷ []) exprs in
    let start = to_z w64 (of_z w64 c.args.start) in
    let stop = to_z w64 (of_z w64 c.args.stop) in
    let fits : FitsSigned w64 c.number_at-number.result = search rules in
    let x = to_z w64 (of_z w64 c.number_at-number.result) in
    let is = to_z-of_z w64 c.number_at-number.result fits ∙ c.number_at-number.ensures in
    let gives : row x ≡ Ok c.in_ok-row.row = c.in_ok-row.ensures in
    record {
      gives = series_more row start stop c.series_len-count.result c.series_len-count.ensures c.loop-i.written _ c.loop-i.i x c.in_ok-row.row c.loop-i-test.true is gives c.in_ok-push.ensures.ok c.loop-i.invariant.gives;
      count = ap length c.in_ok-push.ensures.ok ∙ length_push c.loop-i.written c.in_ok-row.row ∙ ap (λ n. n + 1) c.loop-i.invariant.count;
    }

pub returns : goal.returns
returns c =
    let row = λ (number : ℤ). inserted_write c.args.schema.now series_schema c.args.columns.now (Number number ∷ []) c.args.exprs.now in
    subst (λ (ends : ℤ × ℤ). rows_from row 1 (series ends) ≡ Ok c.loop-i.written) (λ i. (to_z-of_z w64 c.args.start c.ranges.start i, to_z-of_z w64 c.args.stop c.ranges.stop i))
    (series_done row (to_z w64 (of_z w64 c.args.start)) (to_z w64 (of_z w64 c.args.stop)) c.series_len-count.result c.series_len-count.ensures c.loop-i.written c.loop-i.i c.loop-i-test.false c.loop-i.invariant.gives)
