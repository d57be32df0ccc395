use Rattle.std.proofs.Common.{◌<◌, ◌+◌, ℕ, List, length, take, sym, subst, arith}
use Rattle.cs_types.specs.declared.Value.{Value}
use Rattle.column_segment.specs.Dicts.{AreDictCodes, IsDictCode}
use Rattle.column_segment.proofs.Dicts.{codes-more}
use Rattle.column_segment.proofs.dict.codes_in.Goals as goal

pub loop-cell-preserved : goal.loop-cell-preserved
loop-cell-preserved c =
    let P : List ℕ → Type 0 = λ l. AreDictCodes c.args.dict.now (take (c.loop-cell.cell-index + 1) c.args.cells.now) l in
    let Q : Value → Type 0 = λ v. IsDictCode c.args.dict.now v c.code_for.result in
    let low : c.loop-cell.cell-index < length c.args.cells.now = omega (arith, c.loop-cell-test.true) in
    subst P (sym c.in_ok-push.ensures.items)
    (codes-more c.args.dict.now c.args.cells.now c.loop-cell.cell-index c.loop-cell.codes.items c.code_for.result c.cell-item.result low (subst Q c.cell-item.is c.code_for.ensures) c.loop-cell.invariant)
