use Rattle.delta_store.specs.Runs.{pairs_of}
use Rattle.delta_store.proofs.Pairs.{SetsOnly-front}
use Rattle.delta_store.proofs.index.KeyIndex.set.Goals as goal

pub returns-clause-pairs : goal.returns-clause-pairs
returns-clause-pairs c = rw (← c.self.view_is) (SetsOnly-front c.self.inside.own.pairs c.set.new.self.pairs (pairs_of c.self.inside.runs.items) c.args.key c.args.place c.set.ensures.pairs)
