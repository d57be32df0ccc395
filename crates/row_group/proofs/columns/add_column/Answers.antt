use Rattle.std.proofs.Common.{◌≡◌, ◌++◌, List, map, get_or, sym, subst, arith}
use Rattle.std.specs.Result.{OnOk}
use Rattle.cs_types.specs.declared.Value.{Value}
use Rattle.cs_types.specs.Rows.{cell_at}
use Rattle.column_segment.specs.Bodies.{cell_in}
use Rattle.row_group.specs.Groups.{row_at}
use Rattle.row_group.proofs.ColumnLemmas.{cells-past, map-within}
use Rattle.row_group.proofs.columns.add_column.Goals as goal

pub returns-then-place-width-clause-ok : goal.returns-then-place-width-clause-ok
returns-then-place-width-clause-ok c =
    let group = c.args.packed.now in
    let positions = c.args.positions.now in
    let same = map-within (cell_in c.segment.result.now.body) (λ position. cell_at (row_at group position).cells c.args.place) positions (λ k d l. c.segment.ensures.each (get_or positions k d) (c.requires k d l)) in
    subst (λ (more : List Value). OnOk c.add_cells.result (c.add_cells.new.column ≡ c.args.column.now ++ more)) same c.add_cells.ensures.ok

pub returns-else-place-width-clause-ok : goal.returns-else-place-width-clause-ok
returns-else-place-width-clause-ok c =
    let past = cells-past c.args.packed.now c.args.positions.now c.args.place c.width.ensures.rows c.requires (omega (arith, c.width.ensures.value, c.if-place-width.false)) in
    subst (λ (more : List Value). OnOk c.add_nulls.result (c.add_nulls.new.column ≡ c.args.column.now ++ more)) (sym past) c.add_nulls.ensures.ok
