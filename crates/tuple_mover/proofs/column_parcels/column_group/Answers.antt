use Rattle.std.proofs.Common.{◌≡◌, ◌∙◌, List, length, map, sym, ap, subst, arith}
use Rattle.std.specs.List.{All}
use Rattle.std.specs.Result.{IfOk}
use Rattle.std.proofs.lemmas.List.{length-map}
use Rattle.cs_types.specs.Rows.{key_in}
use Rattle.cs_types.specs.Schemas.{IsRowOf}
use Rattle.cs_model.specs.Answers.{edits_of}
use Rattle.row_group.specs.Rows.{PackedRow, begun_above}
use Rattle.row_group.specs.Groups.{HoldsRows}
use Rattle.row_group.specs.Packings.{Packing}
use Rattle.tuple_mover.specs.Inserts.{rows_given, direct_row}
use Rattle.tuple_mover.proofs.InsertLemmas.{direct-fit, rows-raised}
use Rattle.tuple_mover.proofs.ColumnLemmas.{columns-even, rows-fit, rows-given, rows-packed}
use Rattle.tuple_mover.proofs.column_parcels.column_group.Goals as goal

pub of_columns-requires : goal.of_columns-requires
of_columns-requires c =
    let (rows, are) = c.requires.rows in
    let some : length rows ≡ length c.args.keys.now = sym (ap length are.keyed ∙ length-map rows (key_in c.args.schema.now.key)) in
    λ k d l. columns-even (length c.args.schema.now.columns) rows c.args.columns.items are.held k d l ∙ some

pub packed-requires-clause-width : goal.packed-requires-clause-width
packed-requires-clause-width c = let (rows, are) = c.requires.rows in ap (λ (p : Packing). p.width) c.in_ok-packer.ensures ∙ are.held.many

pub packed-requires-clause-fit : goal.packed-requires-clause-fit
packed-requires-clause-fit c =
    let (rows, are) = c.requires.rows in
    let schema = c.args.schema.now in
    let some : length rows ≡ length c.args.keys.now = sym (ap length are.keyed ∙ length-map rows (key_in schema.key)) in
    let shown = ap (λ (p : Packing). p.rows) c.in_ok-packer.ensures ∙ rows-packed schema rows c.args.columns.items (length c.args.keys.now) are.held some in
    subst (λ (rows : List PackedRow). All (λ (row : PackedRow). IsRowOf schema row.cells) rows) (sym shown) (direct-fit schema (edits_of schema rows) (rows-fit schema rows are.fit))

pub packed-requires-clause-some : goal.packed-requires-clause-some
packed-requires-clause-some c =
    let (rows, are) = c.requires.rows in
    let schema = c.args.schema.now in
    let some : length rows ≡ length c.args.keys.now = sym (ap length are.keyed ∙ length-map rows (key_in schema.key)) in
    let shown = ap (λ (p : Packing). p.rows) c.in_ok-packer.ensures ∙ rows-packed schema rows c.args.columns.items (length c.args.keys.now) are.held some in
    let many = ap length shown ∙ length-map (rows_given (edits_of schema rows)) (direct_row (length schema.columns)) ∙ ap length (rows-given schema rows) ∙ length-map rows (λ row. (key_in schema.key row, row)) in
    omega (arith, many, some, c.requires.some)

pub returns : goal.returns
returns c = λ rows are.
    let schema = c.args.schema.now in
    let width = length schema.columns in
    let some : length rows ≡ length c.args.keys.now = sym (ap length are.keyed ∙ length-map rows (key_in schema.key)) in
    let shown = ap (λ (p : Packing). p.rows) c.in_ok-packer.ensures ∙ rows-packed schema rows c.args.columns.items (length c.args.keys.now) are.held some in
    let given = ap (map (begun_above 0)) shown ∙ rows-raised width (rows_given (edits_of schema rows)) in
    subst (λ (given : List PackedRow). IfOk c.packed.result (HoldsRows schema given 0)) given c.packed.ensures
