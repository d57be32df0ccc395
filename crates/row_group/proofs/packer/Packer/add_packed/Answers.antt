use Rattle.std.proofs.Common.{◌≡◌, ◌∙◌, ◌++◌, List, length, map, ap, sym, subst}
use Rattle.row_group.specs.Rows.{PackedRow}
use Rattle.row_group.specs.Groups.{row_at}
use Rattle.row_group.specs.Packings.{Packing, cells_at, padded_at, source_rows}
use Rattle.row_group.proofs.ColumnLemmas.{rows-more, rows-picked}
use Rattle.row_group.proofs.packer.Packer.add_packed.Goals as goal

pub returns-in-Ok-clause-ok : goal.returns-in-Ok-clause-ok
returns-in-Ok-clause-ok c =
    let columns = c.self.inside.columns.items in
    let columns' = c.put_packed.new.columns.items in
    let begins = c.self.inside.begins.items in
    let begins' = c.add_begins.new.begins.items in
    let group = c.args.packed.now in
    let positions = c.args.positions.now in
    let bs = map (λ position. (row_at group position).begin) positions in
    let have = c.in-Ok.ensures.ok in
    let rows : source_rows columns' begins' ≡ source_rows columns begins ++ map (padded_at (length columns) group) positions =
    ap (source_rows columns') c.in_ok-add_begins.ensures.ok ∙ rows-more columns columns' begins bs (cells_at group positions) c.self.invariant have
    ∙ ap (λ (more : List PackedRow). source_rows columns begins ++ more) (rows-picked group positions (length columns)) in
    let new : Packing = record { width = length columns'; rows = source_rows columns' begins' } in
    subst (λ (old : Packing). new ≡ record old { rows = old.rows ++ map (padded_at old.width group) positions }) c.self.view_is
    (λ i. record { width = have.counted i; rows = rows i })
