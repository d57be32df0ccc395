use Rattle.std.proofs.Common.{◌≡◌, ◌++◌, ◌∷◌, [], arith, length, sym, subst, ◌∙◌, ap, refl}
use Rattle.cs_types.specs.declared.Schema.{Schema}
use Rattle.cs_types.specs.Schemas.{IsSchema}
use Rattle.cs_model.specs.declared.entry.Bound.TheVariants.{SegmentReport}
use Rattle.cs_model.specs.Held.{AreFit}
use Rattle.cs_model.specs.Text.{IsPrintableReply}
use Rattle.cs_model.specs.declared.entry.Entry.TheVariants.{Finish}
use Rattle.cs_model.specs.declared.work.Actor.TheVariants.{Session}
use Rattle.cs_model.specs.State.{begin_of, Half}
use Rattle.cs_model.specs.Steps.{IsFinish}
use Rattle.log_laws.specs.Started.{half_by}
use Rattle.log_laws.proofs.Beginnings.{may_begin}
use Rattle.log_laws.proofs.Room.{room_finish}
use Rattle.log_laws.proofs.StartedOn.{shows_begun}
use Rattle.group_book.specs.Book.{empty}
use Rattle.group_book.specs.Commits.{Sizes}
use Rattle.group_log.specs.Counted.{AreCountsAt}
use Rattle.group_log.specs.Followed.{ground_of, Finishes}
use Rattle.statement_core.specs.CoreValue.{CoreValue}
use Rattle.statement_core.specs.CoreState.{state_of, groups_of}
use Rattle.statement_core.specs.Fit.{IsReadyHalf}
use Rattle.statement_core.specs.Terms.{sizes_of}
use Rattle.statement_core.proofs.Going.{going_stays}
use Rattle.statement_core.proofs.Counting.{tells_after}
use Rattle.statement_core.proofs.Finishing.{done_of}
use Rattle.statement_core.proofs.Fits.{fits_after, prints_after}
use Rattle.statement_core.proofs.Reports.{changes_fit}
use Rattle.statement_core.proofs.Keeping.{core_legal, within, ready_at, core_push}
use Rattle.statement_core.proofs.Leaving.{leaving, told_by}
use Rattle.statement_core.proofs.Turns.{free_in_book}
use Rattle.statement_core.proofs.core_calls.Core.finish.Goals as goal

pub finish-reply-requires-clause-within : goal.finish-reply-requires-clause-within
finish-reply-requires-clause-within c =
    let inside = c.self.inside in
    within inside.terms.value inside.held inside.log.items _ inside.sessions.items c.self.invariant.0 c.args.session inside.log.small (rw (← c.self.view_is) at c.requires.known)

pub finish-reply-requires-clause-done : goal.finish-reply-requires-clause-done
finish-reply-requires-clause-done c =
    let inside = c.self.inside in
    let i = c.self.invariant.0 in
    let made = inside.terms.value in
    let done = rw (← c.self.view_is) at c.requires.outcome in
    (begin_of made.schema.value, i.changes, ready_at made inside.held inside.log.items _ inside.sessions.items i c.args.session c.args.outcome done)

pub finish-reply-requires-clause-table : goal.finish-reply-requires-clause-table
finish-reply-requires-clause-table c = let i = c.self.invariant.0 in subst IsSchema (sym i.schema) i.table

pub push_reserved-requires : goal.push_reserved-requires
push_reserved-requires c =
    let inside = c.self.inside in
    let i = c.self.invariant.0 in
    let made = inside.terms.value in
    let known = rw (← c.self.view_is) at c.requires.known in
    let done = rw (← c.self.view_is) at c.requires.outcome in
    let legal = core_legal made inside.held inside.log.items _ inside.sessions.items i in
    let begun = shows_begun (begin_of made.schema.value) inside.log.items (state_of i.changes inside.held) c.args.session done.begun (may_begin made.schema.value) legal (done.started (state_of i.changes inside.held) legal) in
    let less = room_finish inside.sessions.items inside.log.items c.args.session c.finish-reply.result i.distinct known begun in
    let room = i.room in
    omega (arith, less, room, inside.log.ok.0)

pub returns-clause-log : goal.returns-clause-log
returns-clause-log c =
    let r = c.finish-reply.result in
    let tells = c.finish-reply.ensures in (
      r,
      c.push_reserved.ensures.items ∙ ap (λ (v : CoreValue). v.log ++ Finish c.args.session r ∷ []) c.self.view_is,
      told_by c.args.outcome r tells.left tells.tells tells.short,
    )

pub returns-clause-claims : goal.returns-clause-claims
returns-clause-claims c =
    let inside = c.self.inside in
    let i = c.self.invariant.0 in
    let made = inside.terms.value in
    let done = rw (← c.self.view_is) at c.requires.outcome in
    let f = c.finish-reply.ensures.finished (begin_of made.schema.value) i.changes (ready_at made inside.held inside.log.items _ inside.sessions.items i c.args.session c.args.outcome done) in
    f.claims ∙ ap (λ (v : CoreValue). v.claims) c.self.view_is

pub invariant_of-self : goal.invariant_of-self
invariant_of-self c =
    let inside = c.self.inside in
    let i = c.self.invariant.0 in
    let made = inside.terms.value in
    let schema = made.schema.value in
    let old = inside.held in
    let new = c.finish-reply.new.held in
    let s = c.args.session in
    let r = c.finish-reply.result in
    let known = rw (← c.self.view_is) at c.requires.known in
    let done = rw (← c.self.view_is) at c.requires.outcome in
    let counts = rw (← c.self.view_is) at c.requires.counts in
    let left = rw (← c.self.view_is) at c.requires.left in
    let free = free_in_book old.directory (Session s) (rw (← c.self.view_is) at c.requires.free) in
    let legal = core_legal made old inside.log.items _ inside.sessions.items i in
    let shows = done.started (state_of i.changes old) legal in
    let begun = shows_begun (begin_of schema) inside.log.items (state_of i.changes old) s done.begun (may_begin schema) legal shows in
    let less = room_finish inside.sessions.items inside.log.items s r i.distinct known begun in
    let room = i.room in
    let cap = c.push_reserved.ensures.capacity in
    let ready = ready_at made old inside.log.items _ inside.sessions.items i s c.args.outcome done in
    let f = c.finish-reply.ensures.finished (begin_of schema) i.changes ready in
    let half : Half = half_by done.begun in
    let at = done_of (begin_of schema) i.changes old old s half c.args.outcome shows.half (λ k. old.directory) ready in
    let x = subst (λ h. IsFinish schema (state_of i.changes old) s h r (state_of f.later new)) shows.half f.step in
    let fit = i.fit in
    let bound_ready = subst (IsReadyHalf schema) shows.half (fit.halves s) in
    let moves = subst (λ (sizes : Sizes). Finishes (record { begin = begin_of schema; sizes = sizes; book = empty }) (state_of i.changes old) (groups_of old) s r (state_of f.later new) (groups_of new)) i.sizes (f.moves empty free) in
    let segments = λ (e : done.begun.bound ≡ SegmentReport).
    subst (λ (x : Schema). IsPrintableReply x r) i.schema
    (c.finish-reply.ensures.printable i.changes half i.stands (subst (λ (x : Schema). AreFit x i.changes) (sym i.schema) (changes_fit schema i.changes fit.changes)) shows.half e) in
    rw c.push_reserved.ensures.items (
      core_push made old new inside.log.items _ _ inside.sessions.items (Finish s r) i f.later f.stands f.sizes f.schema f.step moves
          (fits_after (begin_of schema) i.changes old s half r shows.half c.args.outcome at c.finish-reply.ensures.short c.finish-reply.ensures.given (state_of f.later new) x fit)
          (prints_after (begin_of schema) i.changes old s half r shows.half c.args.outcome at c.finish-reply.ensures.short c.finish-reply.ensures.given (state_of f.later new) x bound_ready.0 segments)
          (tells_after (begin_of schema) i.changes old s half r (AreCountsAt (ground_of schema (sizes_of made)) inside.log.items s) c.args.outcome at c.finish-reply.ensures.short c.finish-reply.ensures.given counts (state_of f.later new) x)
          (leaving (ground_of schema (sizes_of made)) inside.log.items s c.args.outcome r c.finish-reply.ensures.left left)
          (omega (arith, less, room, cap, ap length f.claims)),
      c.self.invariant.1 ∙ sym (going_stays inside.sessions.items inside.log.items (Finish s r) refl),
    )
