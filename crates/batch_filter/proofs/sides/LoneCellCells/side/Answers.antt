use Rattle.std.proofs.Common.{◌≡◌, ◌∙◌, ap, sym, arith}
use Rattle.cs_types.specs.Rows.{cell_at}
use Rattle.cs_types.specs.Text.{loose_of}
use Rattle.column_segment.specs.Cells.{seen}
use Rattle.batch_filter.specs.Named.{lone_row}
use Rattle.batch_filter.proofs.CellLemmas.{lone_cell, lone_null}
use Rattle.batch_filter.proofs.sides.LoneCellCells.side.Goals as goal

pub returns-then-column-self : goal.returns-then-column-self
returns-then-column-self c =
    let lone = c.args.self.now in
    let same : c.args.column ≡ lone.column = omega (arith, c.if-column-self.true) in
    c.side_of.ensures ∙ ap (loose_of c.args.kind) (sym (ap (cell_at (lone_row lone.column (seen lone.cell))) same ∙ lone_cell lone.column (seen lone.cell)))

pub returns-else-column-self : goal.returns-else-column-self
returns-else-column-self c =
    let lone = c.args.self.now in
    ap (loose_of c.args.kind) (sym (lone_null lone.column c.args.column (seen lone.cell) (λ same. omega (arith, same, c.if-column-self.false))))
