use Rattle.std.proofs.Common.{◌∙◌, sym}
use Rattle.column_segment.specs.Cells.{seen}
use Rattle.batch_filter.specs.Named.{lone_row}
use Rattle.batch_filter.proofs.CellLemmas.{lone_cell}
use Rattle.batch_filter.proofs.NamedLemmas.{lone_truth}
use Rattle.batch_filter.proofs.sides.truth_of_cell.Goals as goal

pub returns : goal.returns
returns c = λ row same.
    let cell = seen c.args.cell in
    c.truth_of.ensures ∙ lone_truth c.args.schema.now (lone_row c.args.column cell) row c.args.pred.now c.args.column c.requires (lone_cell c.args.column cell ∙ sym same)
