use Rattle.std.proofs.Common.{sym, arith}
use Rattle.delta_store.specs.Places.{keyed_in}
use Rattle.delta_store.proofs.LinkLemmas.{ending, ready_place, unchanged, ready_ended}
use Rattle.delta_store.proofs.VersionLemmas.{has_live-ended}
use Rattle.delta_store.proofs.store.Delta.end_live.Goals as goal

pub end-requires-clause-own : goal.end-requires-clause-own
end-requires-clause-own c =
    let ready = rw (← c.self.view_is) at c.requires in
    ready_place c.self.inside.chunks.versions c.self.inside.chunks.own c.args.key c.in-Some.place c.in-Some.ensures.found c.in-Some.ensures.within ready

pub overflow_add-self : goal.overflow_add-self
overflow_add-self c =
    let done = ending c.self.inside.chunks.versions c.end.new.self.versions c.self.inside.index.pairs c.self.inside.ended c.args.key c.args.end c.in-Some.place c.self.invariant c.in-Some.ensures.found c.in-Some.ensures.within c.end.ensures.versions in
    let fits = c.end.ensures.fits in
    omega (arith, done.fewer, fits)

pub invariant_of-self : goal.invariant_of-self
invariant_of-self c =
    let done = ending c.self.inside.chunks.versions c.end.new.self.versions c.self.inside.index.pairs c.self.inside.ended c.args.key c.args.end c.in-Some.place c.self.invariant c.in-Some.ensures.found c.in-Some.ensures.within c.end.ensures.versions in
    done.stored

pub returns-in-Some-clause-found : goal.returns-in-Some-clause-found
returns-in-Some-clause-found c =
    let done = ending c.self.inside.chunks.versions c.end.new.self.versions c.self.inside.index.pairs c.self.inside.ended c.args.key c.args.end c.in-Some.place c.self.invariant c.in-Some.ensures.found c.in-Some.ensures.within c.end.ensures.versions in
    rw (← c.self.view_is) (sym done.found)

pub returns-in-Some-clause-versions : goal.returns-in-Some-clause-versions
returns-in-Some-clause-versions c =
    let done = ending c.self.inside.chunks.versions c.end.new.self.versions c.self.inside.index.pairs c.self.inside.ended c.args.key c.args.end c.in-Some.place c.self.invariant c.in-Some.ensures.found c.in-Some.ensures.within c.end.ensures.versions in
    rw (← c.self.view_is) done.versions

pub returns-in-Some-clause-none_left : goal.returns-in-Some-clause-none_left
returns-in-Some-clause-none_left c =
    let done = ending c.self.inside.chunks.versions c.end.new.self.versions c.self.inside.index.pairs c.self.inside.ended c.args.key c.args.end c.in-Some.place c.self.invariant c.in-Some.ensures.found c.in-Some.ensures.within c.end.ensures.versions in
    rw done.versions (has_live-ended (keyed_in c.self.inside.chunks.versions) c.args.key c.args.end)

pub returns-in-None-clause-versions : goal.returns-in-None-clause-versions
returns-in-None-clause-versions c = rw (← c.self.view_is) (sym (unchanged (keyed_in c.self.inside.chunks.versions) c.args.key c.args.end c.in-None.ensures.none))

pub returns-in-Some-clause-kept : goal.returns-in-Some-clause-kept
returns-in-Some-clause-kept c = λ q ready.
    let done =
    ending c.self.inside.chunks.versions c.end.new.self.versions c.self.inside.index.pairs c.self.inside.ended c.args.key c.args.end c.in-Some.place c.self.invariant c.in-Some.ensures.found c.in-Some.ensures.within c.end.ensures.versions in
    let was = rw (← c.self.view_is) at ready in
    rw (done.versions, c.end.ensures.own) (ready_ended (keyed_in c.self.inside.chunks.versions) c.self.inside.chunks.own c.args.key q c.args.end was)
