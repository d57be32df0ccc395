use Rattle.std.proofs.Common.{◌<◌, sym, ap, ◌∙◌, arith, rules}
use Rattle.delta_store.specs.Chunks.{linked_ended, owns_in}
use Rattle.delta_store.proofs.ChunkLemmas.{length-joined, chunk_there, within_chunk, get-joined, set-filled, set-joined, at-same, own_here}
use Rattle.delta_store.proofs.Parts.{whole}
use Rattle.delta_store.proofs.chunks.Chunks.end.Goals as goal

pub index_mut-requires : goal.index_mut-requires
index_mut-requires c =
    let len = length-joined c.self.inside.chunks.items c.self.inside.len _ c.self.invariant.0 in
    let within = rw (← c.self.view_is) at c.requires.there in
    let there = chunk_there c.self.inside.chunks.items c.self.inside.len _ c.self.invariant.0 c.args.place (omega (arith, len, within)) in
    search rules

pub end-requires-clause-within : goal.end-requires-clause-within
end-requires-clause-within c =
    let len = length-joined c.self.inside.chunks.items c.self.inside.len _ c.self.invariant.0 in
    let within = rw (← c.self.view_is) at c.requires.there in
    within_chunk c.self.inside.chunks.items c.self.inside.len _ c.self.invariant.0 c.args.place c.index_mut.result.now (omega (arith, len, within)) c.index_mut.ensures.value

pub end-requires-clause-own : goal.end-requires-clause-own
end-requires-clause-own c =
    let len = length-joined c.self.inside.chunks.items c.self.inside.len _ c.self.invariant.0 in
    let within = rw (← c.self.view_is) at c.requires.there in
    let own = rw (← c.self.view_is) at c.requires.own in
    own_here c.self.inside.chunks.items c.self.inside.len _ c.self.invariant.0 c.args.place c.index_mut.result.now (omega (arith, len, within)) c.index_mut.ensures.value own

pub invariant_of-self : goal.invariant_of-self
invariant_of-self c =
    let len = length-joined c.self.inside.chunks.items c.self.inside.len _ c.self.invariant.0 in
    let within = rw (← c.self.view_is) at c.requires.there in
    let below : c.args.place < c.self.inside.len = omega (arith, len, within) in (
      set-filled c.self.inside.chunks.items c.self.inside.len _ c.self.invariant.0 c.args.place c.index_mut.result.now below c.index_mut.ensures.value c.end.new.self c.end.ensures.len c.end.ensures.room,
      c.self.invariant.1,
    )

pub returns-clause-versions : goal.returns-clause-versions
returns-clause-versions c v is =
    let len = length-joined c.self.inside.chunks.items c.self.inside.len _ c.self.invariant.0 in
    let within = rw (← c.self.view_is) at c.requires.there in
    let below : c.args.place < c.self.inside.len = omega (arith, len, within) in
    let read = rw (← c.self.view_is) at is in
    rw (← c.self.view_is) (set-joined c.self.inside.chunks.items c.self.inside.len _ c.self.invariant.0 c.args.place c.index_mut.result.now below c.index_mut.ensures.value c.end.new.self (linked_ended c.args.end v) (c.end.ensures.versions v (sym (get-joined c.self.inside.chunks.items c.self.inside.len _ c.self.invariant.0 c.args.place c.index_mut.result.now below c.index_mut.ensures.value) ∙ read)))

pub returns-clause-own : goal.returns-clause-own
returns-clause-own c = rw (← c.self.view_is) (ap whole (at-same owns_in c.self.inside.chunks.items _ c.index_mut.result.now c.end.new.self c.index_mut.ensures.value c.end.ensures.own))

pub returns-clause-fits : goal.returns-clause-fits
returns-clause-fits c =
    let len = length-joined c.self.inside.chunks.items c.self.inside.len _ c.self.invariant.0 in
    let fits = c.self.invariant.1 in
    rw (← c.self.view_is) (omega (arith, len, fits))
