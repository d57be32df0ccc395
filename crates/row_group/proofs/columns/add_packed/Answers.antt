use Rattle.std.proofs.Common.{◌≡◌, ◌<◌, ◌∙◌, ◌++◌, [], length, get_or, take, ap, subst, arith, List}
use Rattle.std.proofs.lemmas.List.{get_or_default}
use Rattle.cs_types.specs.declared.Value.{Value}
use Rattle.row_group.specs.Packings.{cells_at}
use Rattle.row_group.proofs.ColumnLemmas.{columns-begun, columns-more, on_err}
use Rattle.row_group.proofs.columns.add_packed.Goals as goal

pub returns-in_err-add_column-clause-err : goal.returns-in_err-add_column-clause-err
returns-in_err-add_column-clause-err c =
    let before = c.args.columns.now.items in
    let now = c.loop-place.columns.items in
    let place = c.loop-place.place in
    let there : place < length now = omega (arith, c.loop-place.invariant.counted, c.loop-place-test.true) in
    let was : c.index_mut.result.now ≡ get_or before place [] =
    c.index_mut.ensures.value ∙ get_or_default now place c.index_mut.result.now [] there ∙ c.loop-place.invariant.open_yet place (omega arith) in
    on_err _ _ (columns-begun before now (cells_at c.args.packed.now c.args.positions.now) place c.add_column.new.column c.loop-place.invariant.counted there c.loop-place.invariant.done c.loop-place.invariant.open_yet
    (subst (λ (column : List Value). take (length column) c.add_column.new.column ≡ column) was c.in_err-add_column.ensures.err))

pub loop-place-preserved : goal.loop-place-preserved
loop-place-preserved c =
    let before = c.args.columns.now.items in
    let now = c.loop-place.columns.items in
    let place = c.loop-place.place in
    let more = cells_at c.args.packed.now c.args.positions.now in
    let there : place < length now = omega (arith, c.loop-place.invariant.counted, c.loop-place-test.true) in
    let was : c.index_mut.result.now ≡ get_or before place [] =
    c.index_mut.ensures.value ∙ get_or_default now place c.index_mut.result.now [] there ∙ c.loop-place.invariant.open_yet place (omega arith) in
    let is : c.add_column.new.column ≡ get_or before place [] ++ more place =
    c.in_ok-add_column.ensures.ok ∙ ap (λ column. column ++ more place) was in
    let (counted, done, open_yet) = columns-more before now more place c.add_column.new.column c.loop-place.invariant.counted there c.loop-place.invariant.done c.loop-place.invariant.open_yet is in
    record { counted = counted; done = done; open_yet = open_yet }
