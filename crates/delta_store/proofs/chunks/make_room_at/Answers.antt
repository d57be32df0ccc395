use Rattle.std.proofs.Common.{◌<◌, [], length, ap, arith, rules}
use Rattle.delta_store.specs.Chunks.{versions_in, free_in}
use Rattle.delta_store.proofs.ChunkLemmas.{AreKept-trans, AreKept-set, on_ok, at_set-here}
use Rattle.delta_store.proofs.chunks.make_room_at.Goals as goal

pub returns-clause-kept : goal.returns-clause-kept
returns-clause-kept c =
    let there : c.args.at < length c.add_chunk_at.new.chunks.items = search rules in
    AreKept-trans _ _ _ c.add_chunk_at.ensures.kept (AreKept-set c.add_chunk_at.new.chunks.items c.args.at c.index_mut.result.now c.reserve.new.self there c.index_mut.ensures.value c.reserve.ensures.kept)

pub returns-clause-room : goal.returns-clause-room
returns-clause-room c =
    let there : c.args.at < length c.add_chunk_at.new.chunks.items = search rules in
    let versions = ap length (at_set-here versions_in c.add_chunk_at.new.chunks.items c.args.at c.reserve.new.self [] there) in
    let free = at_set-here free_in c.add_chunk_at.new.chunks.items c.args.at c.reserve.new.self 0 there in
    on_ok c.reserve.result (λ room. omega (arith, room, versions, free)) c.reserve.ensures.room
