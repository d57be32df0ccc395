use Rattle.delta_store.proofs.LinkLemmas.{earlier_at}
use Rattle.delta_store.proofs.frozen.Frozen.earlier.Goals as goal

pub returns : goal.returns
returns c = rw (← c.self.view_is) (earlier_at c.self.inside.chunks.versions c.args.i c.get.result.now c.self.invariant.links c.get.ensures)
