use Rattle.std.proofs.Common.{◌∙◌, List, length, map, sym, ap, subst, Option}
use Rattle.std.specs.List.{All}
use Rattle.std.specs.Option.{IfSome}
use Rattle.std.specs.Result.{IfOk}
use Rattle.cs_types.specs.Schemas.{IsRowOf}
use Rattle.row_group.specs.Rows.{PackedRow, begun_above}
use Rattle.row_group.specs.Groups.{Group, HoldsRows}
use Rattle.row_group.specs.Packings.{Packing}
use Rattle.row_group.proofs.PackerLemmas.{kept-fits, kept-raised}
use Rattle.row_group.proofs.packer.pack_rows.Goals as goal

pub pack-requires-clause-fit : goal.pack-requires-clause-fit
pack-requires-clause-fit c =
    let schema = c.args.schema.now in
    let made = rw c.len.ensures at c.in_ok-packer.ensures in
    subst (λ (p : Packing). All (λ (row : PackedRow). IsRowOf schema row.cells) p.rows) (sym made) (kept-fits schema c.args.versions c.args.floor c.requires.fit)

pub returns-clause-group : goal.returns-clause-group
returns-clause-group c =
    let schema = c.args.schema.now in
    let made = rw c.len.ensures at c.in_ok-packer.ensures in
    let rows = ap (λ (p : Packing). map (begun_above c.args.floor) p.rows) made ∙ kept-raised (length schema.columns) c.args.floor c.args.versions in
    subst (λ (given : List PackedRow). IfOk c.pack.result (λ (packed : Option Group). IfSome packed (λ (group : Group). HoldsRows schema given c.args.floor group))) rows c.pack.ensures.group
