use Rattle.std.proofs.Common.{rules}
use Rattle.delta_store.proofs.ChunkLemmas.{end_there, AreFilled-kept, joined-kept, own-kept}
use Rattle.delta_store.proofs.chunks.Chunks.reserve.Goals as goal

pub make_room-requires : goal.make_room-requires
make_room-requires c =
    let there = end_there c.self.inside.chunks.items c.self.inside.len _ c.self.invariant.0 in
    search rules

pub invariant_of-self : goal.invariant_of-self
invariant_of-self c = (AreFilled-kept c.self.inside.chunks.items _ c.make_room.ensures.kept _ _ c.self.invariant.0, c.self.invariant.1)

pub returns-in_err-make_room-clause-versions : goal.returns-in_err-make_room-clause-versions
returns-in_err-make_room-clause-versions c = rw (← c.self.view_is) (joined-kept c.self.inside.chunks.items _ c.make_room.ensures.kept)

pub returns-clause-versions : goal.returns-clause-versions
returns-clause-versions c = rw (← c.self.view_is) (joined-kept c.self.inside.chunks.items _ c.make_room.ensures.kept)

pub returns-in_err-make_room-clause-own : goal.returns-in_err-make_room-clause-own
returns-in_err-make_room-clause-own c = rw (← c.self.view_is) (own-kept c.self.inside.chunks.items _ _ _ c.self.invariant.0 c.make_room.ensures.kept)

pub returns-clause-own : goal.returns-clause-own
returns-clause-own c = rw (← c.self.view_is) (own-kept c.self.inside.chunks.items _ _ _ c.self.invariant.0 c.make_room.ensures.kept)
