use Rattle.std.proofs.Common.{rules, [], ◌∷◌, FitsSigned, w64, to_z, of_z}
use Rattle.std.proofs.lemmas.Int.{to_z-of_z}
use Rattle.cs_types.specs.declared.Value.TheVariants.{Number}
use Rattle.cs_model.specs.Answers.{inserted_row}
use Rattle.cs_model.specs.Series.{series_schema}
use Rattle.row_work.proofs.RowWrites.{has_number, refused_as}
use Rattle.row_work.proofs.write.series_write.Goals as goal

pub returns-in_err-cells : goal.returns-in_err-cells
returns-in_err-cells c =
    let number : FitsSigned w64 c.args.number = c.ranges.number in
    let wanted = inserted_row c.args.schema.now series_schema c.args.columns.now (Number c.args.number ∷ []) c.args.exprs.now in
    let refuses = refused_as c.args.schema.now c.args.row wanted c.in_err-cells.field-0.0 (simp to_z-of_z at c.in_err-cells.ensures) in
    search (rules, refuses)

pub write_of-requires : goal.write_of-requires
write_of-requires c =
    has_number c.args.schema.now series_schema c.args.columns.now (Number (to_z w64 (of_z w64 c.args.number)) ∷ []) c.args.exprs.now c.in_ok-cells.cells c.requires.schema c.in_ok-cells.ensures
