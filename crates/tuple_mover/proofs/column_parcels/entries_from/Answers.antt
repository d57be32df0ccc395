use Rattle.std.proofs.Common.{◌≡◌, ◌+◌, ◌-◌, List, length, drop, take, ◌∙◌, ap, arith}
use Rattle.std.proofs.lemmas.List.{take_all, length-drop, length-map}
use Rattle.cs_types.specs.declared.Value.{Value}
use Rattle.cs_types.specs.Rows.{key_in}
use Rattle.cs_model.specs.Answers.{edits_of}
use Rattle.tuple_mover.specs.Inserts.{rows_given}
use Rattle.tuple_mover.proofs.ColumnLemmas.{entry-more}
use Rattle.tuple_mover.proofs.column_parcels.entries_from.Goals as goal

pub loop-place-preserved : goal.loop-place-preserved
loop-place-preserved c = λ schema rows are.
    let place = c.loop-place.place in
    let from = c.args.from in
    let n = place - from in
    let next : n + 1 ≡ place + 1 - from = omega arith in
    c.in_ok-push.ensures.items
    ∙ entry-more schema c.args.keys.now c.args.columns.now rows from n place _ c.loop-place.entries.items c.in_ok-row_from.field-0 are (omega arith) (omega arith)
    (c.loop-place.invariant schema rows are) c.in_ok-row_from.ensures
    ∙ ap (λ k. rows_given (edits_of schema (take k (drop from rows)))) next

pub returns : goal.returns
returns c = λ schema rows are.
    let from = c.args.from in
    let some : length c.args.keys.now ≡ length rows = ap length are.keyed ∙ length-map rows (key_in schema.key) in
    c.loop-place.invariant schema rows are
    ∙ ap (λ (rows : List (List Value)). rows_given (edits_of schema rows)) (take_all (c.loop-place.place - from) (drop from rows) (omega (arith, length-drop from rows, some)))
