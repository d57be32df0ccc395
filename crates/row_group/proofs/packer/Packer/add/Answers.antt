use Rattle.std.proofs.Common.{◌≡◌, ◌∙◌, ◌++◌, ◌∷◌, [], length, ap, subst}
use Rattle.cs_types.specs.Rows.{cell_at}
use Rattle.row_group.specs.Rows.{padded_row}
use Rattle.row_group.specs.Packings.{Packing, source_rows}
use Rattle.row_group.proofs.ColumnLemmas.{rows-more}
use Rattle.row_group.proofs.packer.Packer.add.Goals as goal

pub returns-in-Ok-clause-ok : goal.returns-in-Ok-clause-ok
returns-in-Ok-clause-ok c =
    let columns = c.self.inside.columns.items in
    let columns' = c.put_row.new.columns.items in
    let begins = c.self.inside.begins.items in
    let begins' = c.push.new.self.items in
    let row = c.args.row.now in
    let begin = c.args.begin in
    let have = c.in-Ok.ensures.ok in
    let rows : source_rows columns' begins' ≡ source_rows columns begins ++ padded_row (length columns) row begin ∷ [] =
    ap (source_rows columns') c.in_ok-push.ensures.items ∙ rows-more columns columns' begins (begin ∷ []) (λ k. cell_at row k ∷ []) c.self.invariant have in
    let new : Packing = record { width = length columns'; rows = source_rows columns' begins' } in
    subst (λ (old : Packing). new ≡ record old { rows = old.rows ++ padded_row old.width row begin ∷ [] }) c.self.view_is
    (λ i. record { width = have.counted i; rows = rows i })
