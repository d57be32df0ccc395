use Rattle.delta_store.specs.Places.{keyed_in}
use Rattle.delta_store.proofs.ChunkLemmas.{on_ok}
use Rattle.delta_store.proofs.LinkLemmas.{ready_at, ready_dead}
use Rattle.delta_store.proofs.store.Delta.prepare_key.Goals as goal

pub returns-in-Some-clause-ready : goal.returns-in-Some-clause-ready
returns-in-Some-clause-ready c = on_ok c.make_own.result (λ here. rw c.make_own.ensures.versions (ready_at c.self.inside.chunks.versions c.self.inside.index.pairs c.self.inside.ended c.make_own.new.self.own c.args.key c.in-Some.place c.self.invariant c.in-Some.ensures.found here)) c.make_own.ensures.here

pub returns-in-None-clause-ready : goal.returns-in-None-clause-ready
returns-in-None-clause-ready c = rw (← c.self.view_is) (ready_dead (keyed_in c.self.inside.chunks.versions) c.self.inside.chunks.own c.args.key c.in-None.ensures.none)
