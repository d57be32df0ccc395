use Rattle.std.proofs.Common.{ap, arith, length, subst, sym}
use Rattle.cs_model.specs.declared.entry.Entry.TheVariants.{End}
use Rattle.cs_model.specs.State.{begin_of}
use Rattle.log_laws.proofs.Beginnings.{may_begin}
use Rattle.log_laws.proofs.Entries.{rests_is}
use Rattle.log_laws.proofs.Room.{room_end}
use Rattle.statement_core.specs.CoreState.{state_of}
use Rattle.statement_core.specs.Fit.{IsFitState}
use Rattle.statement_core.proofs.Going.{going_end}
use Rattle.statement_core.proofs.Fitting.{fit_gone}
use Rattle.statement_core.proofs.Keeping.{core_legal, core_push}
use Rattle.statement_core.proofs.core_calls.Core.end.Goals as goal

pub end-requires-clause-rests : goal.end-requires-clause-rests
end-requires-clause-rests c =
    let inside = c.self.inside in
    let i = c.self.invariant.0 in
    let made = inside.terms.value in
    let rests = rw (← c.self.view_is) at c.requires.rests in
    rests_is (begin_of made.schema.value) inside.log.items (state_of i.changes inside.held) c.args.session (may_begin made.schema.value) (core_legal made inside.held inside.log.items _ inside.sessions.items i) rests

pub push_reserved-requires : goal.push_reserved-requires
push_reserved-requires c =
    let known = rw (← c.self.view_is) at c.requires.known in
    let rests = rw (← c.self.view_is) at c.requires.rests in
    let going = rw (← c.self.view_is) at c.requires.going in
    let less = room_end c.self.inside.sessions.items c.self.inside.log.items c.args.session c.self.invariant.0.distinct known rests going in
    let room = c.self.invariant.0.room in
    omega (arith, less, room, c.self.inside.log.ok.0)

pub overflow_sub-self : goal.overflow_sub-self
overflow_sub-self c =
    let inside = c.self.inside in
    let i = c.self.invariant.0 in
    let known = rw (← c.self.view_is) at c.requires.known in
    let going = rw (← c.self.view_is) at c.requires.going in
    let fewer = going_end inside.sessions.items inside.log.items c.args.session i.distinct known going in
    let was = c.self.invariant.1 in
    omega (arith, fewer, was)

pub invariant_of-self : goal.invariant_of-self
invariant_of-self c =
    let inside = c.self.inside in
    let i = c.self.invariant.0 in
    let made = inside.terms.value in
    let schema = made.schema.value in
    let known = rw (← c.self.view_is) at c.requires.known in
    let rests = rw (← c.self.view_is) at c.requires.rests in
    let going = rw (← c.self.view_is) at c.requires.going in
    let less = room_end inside.sessions.items inside.log.items c.args.session i.distinct known rests going in
    let room = i.room in
    let cap = c.push_reserved.ensures.capacity in
    let step = c.end.ensures.step (begin_of schema) i.changes in
    let still = c.end.ensures.still in
    let same = still.same in
    let fewer = going_end inside.sessions.items inside.log.items c.args.session i.distinct known going in
    let was = c.self.invariant.1 in
    rw c.push_reserved.ensures.items (
      core_push made inside.held c.end.new.held inside.log.items _ _ inside.sessions.items (End c.args.session) i i.changes (still.stands i.changes i.stands) same.sizes same.schema step same.groups
          (subst (IsFitState schema) (sym step.1) (fit_gone schema (state_of i.changes inside.held) c.args.session i.fit)) tt tt tt
          (omega (arith, less, room, cap, ap length same.claims)),
      omega (arith, fewer, was),
    )
