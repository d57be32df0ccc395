use Rattle.segment_dict.proofs.Orders.{AreDistinct-made}
use Rattle.segment_dict.proofs.distinct.distinct.Goals as goal

pub returns : goal.returns
returns g c =
    AreDistinct-made g.met.T.Ord.total g.met.T.Eq.laws g.met.T.Ord.matches_eq c.args.cells.now c.sort_unstable.new.self.items c.dedup.new.self.items
    (rw (← c.in_ok-values.ensures) c.sort_unstable.ensures.permutation) c.sort_unstable.ensures.sorted c.dedup.ensures.filtered
