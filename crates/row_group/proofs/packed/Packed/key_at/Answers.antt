use Rattle.std.proofs.Common.{◌≡◌, ◌<◌, ◌∙◌, length, ap, subst}
use Rattle.cs_types.specs.Rows.{key_in}
use Rattle.row_group.specs.Groups.{Group, key_of_cell, row_at}
use Rattle.row_group.proofs.ShownLemmas.{key-shown}
use Rattle.row_group.proofs.packed.Packed.key_at.Goals as goal

pub returns : goal.returns
returns c =
    let f = c.self.inside in
    subst (λ (group : Group). c.args.position < length group.rows → c.key_shown.result ≡ key_in group.key (row_at group c.args.position).cells) c.self.view_is
    (λ l.
    c.key_shown.ensures ∙ ap key_of_cell c.cell.ensures
    ∙ key-shown f.segments f.key f.length f.base f.late f.places c.args.position c.at.result.now c.self.invariant.key_there c.at.ensures.item l)
    c.requires
