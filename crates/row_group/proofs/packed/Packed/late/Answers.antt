use Rattle.std.proofs.Common.{◌≡◌, ◌<◌, ◌∙◌, length, sym, ap, subst}
use Rattle.row_group.specs.Rows.{PackedRow}
use Rattle.row_group.specs.Groups.{Group, begin_beside, row_at}
use Rattle.row_group.specs.Fields.{stamp_in}
use Rattle.row_group.proofs.ShownLemmas.{late-shown, shown_at}
use Rattle.row_group.proofs.packed.Packed.late.Goals as goal

pub returns : goal.returns
returns c =
    let f = c.self.inside in
    subst (λ (group : Group). c.args.position < length group.rows → c.stamp_at.result ≡ begin_beside group.base (row_at group c.args.position).begin) c.self.view_is
    (λ l.
    c.stamp_at.ensures ∙ ap (λ late. stamp_in late c.args.position) c.as_slice.ensures
    ∙ late-shown f.late f.length f.base c.args.position c.self.invariant.own
    ∙ ap (λ (row : PackedRow). begin_beside f.base row.begin) (sym (shown_at f.segments f.key f.length f.base f.late f.places c.args.position l)))
    c.requires
