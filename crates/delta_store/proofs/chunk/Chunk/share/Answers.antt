use Rattle.delta_store.proofs.OneChunk.{none_own}
use Rattle.delta_store.proofs.chunk.Chunk.share.Goals as goal

pub returns-clause-none_own : goal.returns-clause-none_own
returns-clause-none_own c = none_own c.give_up.new.self c.in_ok-give_up.ensures.none_own
