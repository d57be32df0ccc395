use Rattle.std.proofs.Common.{map, set, refl, ap}
use Rattle.group_view.specs.Lends.{with_group}
use Rattle.group_view.specs.Seen.{seen}
use Rattle.group_view.proofs.ShareLemmas.{others_set}
use Rattle.group_view.proofs.held.Groups.at_mut.Goals as goal

pub invariant_of-self-lent : goal.invariant_of-self-lent
invariant_of-self-lent c = λ w. c.forget.ensures (map seen c.self.inside.items.items) (map seen (set c.self.inside.items.items c.args.place w)) (others_set c.self.inside.items.items c.args.place w) c.self.invariant

pub returns : goal.returns
returns c = (
  (refl, λ w. ap (λ groups. with_group groups c.args.place w) c.self.view_is),
  record { writes_back = tt; value = rw (← c.self.view_is) c.index_mut.ensures.value },
)
