use Rattle.std.proofs.Common.{◌≡◌, ◌<◌, ◌∙◌, ◌∷◌, [], length, get_or, take, ap, arith}
use Rattle.std.proofs.lemmas.List.{get_or_default, take_all}
use Rattle.cs_types.specs.Rows.{cell_at}
use Rattle.row_group.proofs.ColumnLemmas.{columns-begun, on_err}
use Rattle.row_group.proofs.columns.add_row.Goals as goal

pub returns-in_err-push-clause-err : goal.returns-in_err-push-clause-err
returns-in_err-push-clause-err c =
    let before = c.args.columns.now.items in
    let now = c.loop-place.columns.items in
    let place = c.loop-place.place in
    let there : place < length now = omega (arith, c.loop-place.invariant.counted, c.len-place-end.ensures, c.loop-place-test.true) in
    let was : c.index_mut.result.now ≡ get_or before place [] =
    c.index_mut.ensures.value ∙ get_or_default now place c.index_mut.result.now [] there ∙ c.loop-place.invariant.open_yet place (omega arith) in
    let is : c.push.new.self ≡ get_or before place [] = c.in_err-push.ensures.err ∙ was in
    on_err _ _ (columns-begun before now (λ k. cell_at c.args.row.now k ∷ []) place c.push.new.self c.loop-place.invariant.counted there c.loop-place.invariant.done c.loop-place.invariant.open_yet
    (ap (take (length (get_or before place []))) is ∙ take_all (length (get_or before place [])) (get_or before place []) (omega arith)))
