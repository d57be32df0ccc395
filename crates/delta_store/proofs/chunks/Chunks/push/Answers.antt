use Rattle.std.proofs.Common.{refl, arith, rules, true, false}
use Rattle.std.proofs.lemmas.List.{get_or_push}
use Rattle.delta_store.specs.Chunks.{owned}
use Rattle.delta_store.proofs.ChunkLemmas.{length-joined, length-owned, room_there, free_at_end, push-filled, push-joined, push-owned}
use Rattle.delta_store.proofs.chunks.Chunks.push.Goals as goal

pub index_mut-requires : goal.index_mut-requires
index_mut-requires c =
    let spare = rw (← c.self.view_is) at c.requires in
    let there = room_there c.self.inside.chunks.items c.self.inside.len _ c.self.invariant.0 c.self.inside.len (omega (arith, spare)) in
    search rules

pub push-requires : goal.push-requires
push-requires c =
    let spare = rw (← c.self.view_is) at c.requires in
    free_at_end c.self.inside.chunks.items c.self.inside.len _ c.self.invariant.0 c.index_mut.result.now (omega (arith, spare)) c.index_mut.ensures.value

pub invariant_of-self : goal.invariant_of-self
invariant_of-self c =
    let spare = rw (← c.self.view_is) at c.requires in
    let fits = c.self.invariant.1 in (
      push-filled c.self.inside.chunks.items c.self.inside.len _ c.self.invariant.0 c.index_mut.result.now (omega (arith, spare)) c.index_mut.ensures.value c.push.new.self c.args.version c.push.ensures.versions c.push.ensures.room _ _ refl (omega (arith, spare)),
      omega (arith, spare, fits),
    )

pub returns-clause-versions : goal.returns-clause-versions
returns-clause-versions c =
    let spare = rw (← c.self.view_is) at c.requires in
    rw (← c.self.view_is) (push-joined c.self.inside.chunks.items c.self.inside.len _ c.self.invariant.0 c.index_mut.result.now (omega (arith, spare)) c.index_mut.ensures.value c.push.new.self c.args.version c.push.ensures.versions)

pub returns-clause-own : goal.returns-clause-own
returns-clause-own c =
    let spare = rw (← c.self.view_is) at c.requires in
    rw (← c.self.view_is) (push-owned c.self.inside.chunks.items c.self.inside.len _ c.self.invariant.0 c.index_mut.result.now (omega (arith, spare)) c.index_mut.ensures.value c.push.new.self c.push.ensures.own)

pub returns-clause-here : goal.returns-clause-here
returns-clause-here c =
    let spare = rw (← c.self.view_is) at c.requires in
    let len = length-joined c.self.inside.chunks.items c.self.inside.len _ c.self.invariant.0 in
    let long = length-owned c.self.inside.chunks.items c.self.inside.len _ c.self.invariant.0 in
    let owned_is = push-owned c.self.inside.chunks.items c.self.inside.len _ c.self.invariant.0 c.index_mut.result.now (omega (arith, spare)) c.index_mut.ensures.value c.push.new.self c.push.ensures.own in
    rw (← c.self.view_is, len, owned_is) (get_or_push (owned c.self.inside.chunks.items) true false c.self.inside.len long)
