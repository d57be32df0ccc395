use Rattle.std.proofs.Common.{arith, ◌≡◌, ◌+◌, ◌-◌, ◌∙◌, ◌++◌, ap, sym, subst, Some, take, drop}
use Rattle.std.proofs.Math.Seq.{take-add}
use Rattle.batch_compute.specs.Columns.{KeepsOver}
use Rattle.batch_compute.proofs.Places.{keeps_more}
use Rattle.batch_compute.proofs.column.cells_over.Goals as goal

pub loop-done-preserved : goal.loop-done-preserved
loop-done-preserved c =
    let column = c.args.column.now in
    let expr = c.args.expr.now in
    let numbers = c.args.numbers.now in
    let done = c.loop-done.done in
    let cells = c.loop-done.cells.items in
    let min = c.min-end.ensures in
    let count = c.min-end.result - done in
    let (more, pushed, keeps) = c.in_ok-push_over.ensures c.if-not-branch.false in
    let end : c.loop-done.done + (c.min-end.result - c.loop-done.done) ≡ c.min-end.result = omega (arith, min) in
    let parts : take c.min-end.result c.args.numbers.now ≡ take c.loop-done.done c.args.numbers.now ++ take (c.min-end.result - c.loop-done.done) (drop c.loop-done.done c.args.numbers.now) =
    ap (λ n. take n numbers) (sym end) ∙ take-add done count numbers in
    record {
      within = omega (arith, min);
      keeps = subst (λ all. KeepsOver column (Some expr) (take c.min-end.result numbers) all) (sym pushed)
          (subst (λ list. KeepsOver column (Some expr) list (cells ++ more)) (sym parts) (keeps_more column expr (take done numbers) (take count (drop done numbers)) cells more c.loop-done.invariant.keeps keeps));
    }
