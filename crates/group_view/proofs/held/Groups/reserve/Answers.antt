use Rattle.std.proofs.Common.{map, ap}
use Rattle.group_view.specs.Seen.{seen}
use Rattle.group_view.proofs.ShareLemmas.{shared_alike}
use Rattle.group_view.proofs.held.Groups.reserve.Goals as goal

pub invariant_of-self : goal.invariant_of-self
invariant_of-self c = shared_alike c.self.inside.items.items c.reserve.new.self.items c.self.inside.shares.items (ap (map seen) c.in_err-reserve.ensures.items) c.self.invariant

pub invariant_of-self-2 : goal.invariant_of-self-2
invariant_of-self-2 c = shared_alike c.self.inside.items.items c.reserve.new.self.items c.self.inside.shares.items (ap (map seen) c.in_ok-reserve.ensures.items) c.self.invariant
