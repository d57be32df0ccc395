use Rattle.std.proofs.Common.{◌∙◌, ap}
use Rattle.std.specs.Option.{unwrap_or}
use Rattle.row_group.specs.Groups.{Group, begin_beside, row_at}
use Rattle.row_group.proofs.ShownLemmas.{beside-or}
use Rattle.row_group.proofs.packed.Packed.begin.Goals as goal

pub returns : goal.returns
returns c =
    let group = c.args.self.now in
    let begin = (row_at group c.args.position).begin in
    c.unwrap_or.ensures ∙ ap (λ o. unwrap_or o c.self.inside.base) c.late.ensures
    ∙ ap (λ (other : Group). unwrap_or (begin_beside group.base begin) other.base) c.self.view_is ∙ beside-or group.base begin
