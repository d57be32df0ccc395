use Rattle.std.proofs.Common.{◌≤◌, ◌<◌, ◌+◌, length, take, subst, sym}
use Rattle.std.proofs.lemmas.List.{take_all}
use Rattle.batch_compute.proofs.Rows.{AreMade, made_more, made_whole}
use Rattle.batch_compute.proofs.columns.columns_over.Goals as goal

pub loop-i-preserved : goal.loop-i-preserved
loop-i-preserved c =
    let columns = c.args.columns.now in
    let exprs = c.args.exprs.now in
    let numbers = c.args.numbers.now in
    let all = c.args.schema.now.columns in
    let within : c.loop-i.i < length all = rw c.as_slice-column-items.ensures at c.loop-i-test.true in
    let column = rw c.as_slice-column-items.ensures at c.column-item.is in
    let keeps = rw (c.in-Some.is, c.given.ensures) at c.in_ok-cells.ensures in
    subst (AreMade columns exprs numbers 0 (take (c.loop-i.i + 1) all)) (sym c.in_ok-push-in-Some.ensures.items)
    (made_more columns exprs numbers all c.loop-i.made.items c.loop-i.i c.column-item.result c.in-Some.cells within column keeps c.loop-i.invariant)

pub returns : goal.returns
returns c =
    let columns = c.args.columns.now in
    let exprs = c.args.exprs.now in
    let numbers = c.args.numbers.now in
    let all = c.args.schema.now.columns in
    let over : length all ≤ c.loop-i.i = rw c.as_slice-column-items.ensures at c.loop-i-test.false in
    made_whole columns exprs numbers all c.loop-i.made.items (subst (λ list. AreMade columns exprs numbers 0 list c.loop-i.made.items) (take_all c.loop-i.i all over) c.loop-i.invariant)
