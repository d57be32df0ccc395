use Rattle.std.proofs.Common.{◌<◌, ◌∙◌, length, map, sym, subst, arith, IsNone}
use Rattle.std.proofs.lemmas.List.{get_or-map, length-map, take_all}
use Rattle.cs_types.specs.declared.Value.{Value}
use Rattle.cs_types.specs.declared.Value.TheVariants.{Null}
use Rattle.column_segment.specs.Cells.{seen, text_of, HasNoText}
use Rattle.column_segment.proofs.Dicts.{All-more}
use Rattle.column_segment.proofs.cell.has_shown_text.Goals as goal

pub loop-cell-preserved : goal.loop-cell-preserved
loop-cell-preserved c =
    let P : Value → Type 0 = λ v. IsNone (text_of v) in
    let cells = c.args.cells.now in
    let i = c.loop-cell.cell-index in
    let low : i < length cells = omega (arith, c.loop-cell-test.true) in
    All-more P (map seen cells) i Null (omega (arith, low, length-map cells seen)) c.loop-cell.invariant
    (subst P (sym (get_or-map seen cells i _ Null low)) (sym c.is_text.ensures ∙ c.if-is_text.false))

pub returns-clause-none : goal.returns-clause-none
returns-clause-none c =
    subst HasNoText (take_all c.loop-cell.cell-index (map seen c.args.cells.now) (omega (arith, length-map c.args.cells.now seen))) c.loop-cell.invariant
