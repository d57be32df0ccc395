use Rattle.std.proofs.Common.{◌<◌, ◌/◌, arith, rules}
use Rattle.delta_store.specs.Chunks.{own_from}
use Rattle.delta_store.proofs.ChunkLemmas.{length-joined, chunk_there, AreKept-set, AreFilled-kept, joined-kept, own-kept, own-from, on_ok, at_set-here}
use Rattle.delta_store.proofs.chunks.Chunks.make_own.Goals as goal

pub index_mut-requires : goal.index_mut-requires
index_mut-requires c =
    let len = length-joined c.self.inside.chunks.items c.self.inside.len _ c.self.invariant.0 in
    let within = rw (← c.self.view_is) at c.requires in
    let there = chunk_there c.self.inside.chunks.items c.self.inside.len _ c.self.invariant.0 c.args.place (omega (arith, len, within)) in
    search rules

pub invariant_of-self : goal.invariant_of-self
invariant_of-self c =
    let len = length-joined c.self.inside.chunks.items c.self.inside.len _ c.self.invariant.0 in
    let within = rw (← c.self.view_is) at c.requires in
    let there = chunk_there c.self.inside.chunks.items c.self.inside.len _ c.self.invariant.0 c.args.place (omega (arith, len, within)) in
    (AreFilled-kept c.self.inside.chunks.items _ (AreKept-set c.self.inside.chunks.items _ c.index_mut.result.now c.make_own.new.self there c.index_mut.ensures.value c.make_own.ensures.kept) _ _ c.self.invariant.0, c.self.invariant.1)

pub returns-clause-versions : goal.returns-clause-versions
returns-clause-versions c =
    let len = length-joined c.self.inside.chunks.items c.self.inside.len _ c.self.invariant.0 in
    let within = rw (← c.self.view_is) at c.requires in
    let there = chunk_there c.self.inside.chunks.items c.self.inside.len _ c.self.invariant.0 c.args.place (omega (arith, len, within)) in
    rw (← c.self.view_is) (joined-kept c.self.inside.chunks.items _ (AreKept-set c.self.inside.chunks.items _ c.index_mut.result.now c.make_own.new.self there c.index_mut.ensures.value c.make_own.ensures.kept))

pub returns-clause-own : goal.returns-clause-own
returns-clause-own c =
    let len = length-joined c.self.inside.chunks.items c.self.inside.len _ c.self.invariant.0 in
    let within = rw (← c.self.view_is) at c.requires in
    let there = chunk_there c.self.inside.chunks.items c.self.inside.len _ c.self.invariant.0 c.args.place (omega (arith, len, within)) in
    let kept = AreKept-set c.self.inside.chunks.items _ c.index_mut.result.now c.make_own.new.self there c.index_mut.ensures.value c.make_own.ensures.kept in
    rw (← c.self.view_is) (own-kept c.self.inside.chunks.items _ _ _ c.self.invariant.0 kept)

pub returns-clause-here : goal.returns-clause-here
returns-clause-here c =
    let len = length-joined c.self.inside.chunks.items c.self.inside.len _ c.self.invariant.0 in
    let within = rw (← c.self.view_is) at c.requires in
    let below : c.args.place < c.self.inside.len = omega (arith, len, within) in
    let there = chunk_there c.self.inside.chunks.items c.self.inside.len _ c.self.invariant.0 c.args.place below in
    let filled =
    AreFilled-kept c.self.inside.chunks.items _ (AreKept-set c.self.inside.chunks.items _ c.index_mut.result.now c.make_own.new.self there c.index_mut.ensures.value c.make_own.ensures.kept) _ _ c.self.invariant.0 in
    let read = at_set-here own_from c.self.inside.chunks.items (c.args.place / 1024) c.make_own.new.self 0 there in
    on_ok c.make_own.result (λ own. own-from _ c.self.inside.len _ filled c.args.place below (omega (arith, read, own))) c.make_own.ensures.own
