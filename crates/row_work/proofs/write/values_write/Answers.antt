use Rattle.std.proofs.Common.{[]}
use Rattle.row_work.proofs.RowWrites.{has_number}
use Rattle.row_work.proofs.write.values_write.Goals as goal

pub write_of-requires : goal.write_of-requires
write_of-requires c =
    has_number c.args.schema.now c.args.schema.now c.args.columns.now [] c.args.exprs.now c.in_ok-cells.cells c.requires c.in_ok-cells.ensures
