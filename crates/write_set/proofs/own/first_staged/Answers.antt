use Rattle.std.proofs.Common.{◌∙◌, [], sym}
use Rattle.write_set.proofs.Laid.{staged_itself}
use Rattle.write_set.proofs.own.first_staged.Goals as goal

pub returns : goal.returns
returns c =
    c.in_ok-new.ensures.ok ∙ c.in_ok-own.ensures
    ∙ sym (staged_itself c.in_ok-ordered.ordered.items c.in_ok-ordered.ensures.order)
    ∙ c.in_ok-ordered.ensures.alike []
