use Rattle.std.proofs.Common.{refl, sym, None}
use Rattle.std.proofs.lemmas.List.{length-map, map-append}
use Rattle.delta_store.specs.Places.{keyed_in}
use Rattle.delta_store.proofs.LinkLemmas.{last_there, IsStored-push, ready-push, own-more, keyed, ready_dead}
use Rattle.delta_store.proofs.store.Delta.insert.Goals as goal

pub ended_after-ended_by-requires : goal.ended_after-ended_by-requires
ended_after-ended_by-requires c = last_there c.self.inside.chunks.versions c.self.inside.index.pairs c.self.inside.ended c.self.invariant c.args.key c.get-previous.result c.get-previous.ensures

pub invariant_of-self : goal.invariant_of-self
invariant_of-self c =
    let dead = rw (← c.self.view_is) at c.requires.ended in
    rw c.push.ensures.versions (IsStored-push c.self.inside.chunks.versions (record { keyed = record { key = c.args.key; version = record { row = c.args.row; begin = c.args.begin; end = None } }; previous = c.get-previous.result; ended_by = c.ended_after-ended_by.result }) c.self.inside.index.pairs c.set.new.self.pairs c.self.inside.ended c.self.invariant (rw c.len.ensures at c.set.ensures.pairs) dead c.get-previous.ensures c.ended_after-ended_by.ensures refl)

pub returns-clause-ready : goal.returns-clause-ready
returns-clause-ready c =
    let dead = rw (← c.self.view_is) at c.requires.ended in
    let here = rw (sym (length-map c.self.inside.chunks.versions keyed)) at c.push.ensures.here in
    rw (c.push.ensures.versions, map-append keyed c.self.inside.chunks.versions _) (ready-push (keyed_in c.self.inside.chunks.versions) _ c.push.new.self.own c.args.key here (ready_dead (keyed_in c.self.inside.chunks.versions) c.push.new.self.own c.args.key dead))

pub returns-clause-kept : goal.returns-clause-kept
returns-clause-kept c = λ q ready.
    let was = rw (← c.self.view_is) at ready in
    let here = rw (sym (length-map c.self.inside.chunks.versions keyed)) at c.push.ensures.here in
    rw (c.push.ensures.versions, map-append keyed c.self.inside.chunks.versions _) (ready-push (keyed_in c.self.inside.chunks.versions) _ c.push.new.self.own q here (λ place w is live. rw c.push.ensures.own (own-more c.self.inside.chunks.own place (was place w is live))))
