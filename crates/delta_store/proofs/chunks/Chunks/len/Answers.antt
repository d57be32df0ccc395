use Rattle.std.proofs.Common.{sym}
use Rattle.delta_store.proofs.ChunkLemmas.{length-joined}
use Rattle.delta_store.proofs.chunks.Chunks.len.Goals as goal

pub returns : goal.returns
returns c = rw (← c.self.view_is) (sym (length-joined c.self.inside.chunks.items c.self.inside.len _ c.self.invariant.0))
