use Rattle.std.proofs.Common.{◌<◌, ◌∙◌, arith, rules}
use Rattle.delta_store.proofs.ChunkLemmas.{length-joined, chunk_there, within_chunk, get-joined}
use Rattle.delta_store.proofs.chunks.Chunks.get.Goals as goal

pub index-requires : goal.index-requires
index-requires c =
    let len = length-joined c.self.inside.chunks.items c.self.inside.len _ c.self.invariant.0 in
    let within = rw (← c.self.view_is) at c.requires in
    let there = chunk_there c.self.inside.chunks.items c.self.inside.len _ c.self.invariant.0 c.args.place (omega (arith, len, within)) in
    search rules

pub get-requires : goal.get-requires
get-requires c =
    let len = length-joined c.self.inside.chunks.items c.self.inside.len _ c.self.invariant.0 in
    let within = rw (← c.self.view_is) at c.requires in
    within_chunk c.self.inside.chunks.items c.self.inside.len _ c.self.invariant.0 c.args.place c.index.result.now (omega (arith, len, within)) c.index.ensures

pub returns : goal.returns
returns c =
    let len = length-joined c.self.inside.chunks.items c.self.inside.len _ c.self.invariant.0 in
    let within = rw (← c.self.view_is) at c.requires in
    let below : c.args.place < c.self.inside.len = omega (arith, len, within) in
    rw (← c.self.view_is) (get-joined c.self.inside.chunks.items c.self.inside.len _ c.self.invariant.0 c.args.place c.index.result.now below c.index.ensures ∙ c.get.ensures)
