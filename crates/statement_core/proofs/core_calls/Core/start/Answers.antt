use Rattle.std.proofs.Common.{◌≡◌, ◌∙◌, ◌++◌, ◌∷◌, [], ap, arith, length, sym, subst, Bool, refl}
use Rattle.cs_model.specs.declared.entry.Entry.TheVariants.{Start}
use Rattle.cs_model.specs.Ready.{IsReady}
use Rattle.cs_model.specs.State.{begin_of}
use Rattle.cs_model.specs.Steps.{IsStep}
use Rattle.cs_model.specs.Kinds.{is_of_table}
use Rattle.log_laws.specs.Started.{IsStarted}
use Rattle.log_laws.proofs.Beginnings.{may_begin}
use Rattle.log_laws.proofs.Entries.{rests_is}
use Rattle.log_laws.proofs.Room.{room_start, owed_at_most}
use Rattle.log_laws.proofs.Sound.{sound_step}
use Rattle.log_laws.proofs.StartedOn.{start_steps, start_shows}
use Rattle.group_log.specs.Counted.{IsBegunAt}
use Rattle.group_log.specs.Followed.{ground_of}
use Rattle.group_log.proofs.Counting.{begun_first}
use Rattle.statement_core.specs.declared.started.Terms.{Terms}
use Rattle.statement_core.specs.CoreState.{state_of, groups_of}
use Rattle.statement_core.specs.Fit.{IsFitState}
use Rattle.statement_core.specs.Reorganizes.{reorganizes, HasLedger, IsLedgerFor}
use Rattle.statement_core.specs.Terms.{sizes_of}
use Rattle.statement_core.proofs.Going.{going_stays}
use Rattle.statement_core.proofs.Fitting.{started_fits}
use Rattle.statement_core.proofs.Keeping.{core_legal, core_sound, within, core_push}
use Rattle.statement_core.proofs.Reorganizes.{ledger_begun}
use Rattle.statement_core.proofs.Working.{may_work}
use Rattle.statement_core.proofs.core_calls.Core.start.Goals as goal

pub start-requires-clause-within : goal.start-requires-clause-within
start-requires-clause-within c =
    let inside = c.self.inside in
    within inside.terms.value inside.held inside.log.items _ inside.sessions.items c.self.invariant.0 c.args.session inside.log.small (rw (← c.self.view_is) at c.requires.known)

pub invariant_of-self-2 : goal.invariant_of-self-2
invariant_of-self-2 c =
    let inside = c.self.inside in
    let i = c.self.invariant.0 in
    let made = inside.terms.value in
    let schema = made.schema.value in
    let old = inside.held in
    let new = c.start.new.held in
    let m = state_of i.changes old in
    let after = state_of i.changes new in
    let s = c.args.session in
    let shared = c.in_ok-in_log.in_log in
    let known = rw (← c.self.view_is) at c.requires.known in
    let rests = rw (← c.self.view_is) at c.requires.rests in
    let ready = rw (← c.self.view_is) at c.requires.ready in
    let taken = c.in_ok-taken.taken in
    let t = c.in_ok-taken.ensures.ok (begin_of schema) i.changes i.stands i.schema in
    let starts = t.starts in
    let more = room_start inside.sessions.items inside.log.items s shared taken.short i.distinct known rests in
    let most = owed_at_most inside.sessions.items inside.log.items in
    let few = i.few in
    let half = rests_is (begin_of schema) inside.log.items m s (may_begin schema) (core_legal made old inside.log.items _ inside.sessions.items i) rests in
    let same : shared.value ≡ t.begun.bound = c.in_ok-in_log.ensures ∙ sym c.in_ok-in_half.ensures ∙ sym t.bound in
    let step : IsStep (begin_of schema) m (Start s shared taken.short) after =
    subst (λ (short : Bool). IsStep (begin_of schema) m (Start s shared short) after) (sym t.short) (start_steps (begin_of schema) m after s shared t.begun half same starts) in
    let is_ready : IsReady schema t.begun.bound = subst (IsReady schema) (sym (c.in_ok-in_log.ensures ∙ c.in-Ok.ensures.ok) ∙ same) ready in
    let still = c.start.ensures.still in
    let kept = still.same in
    rw (c.push_reserved.ensures.items, c.in_ok-reserve.ensures.items) (
      core_push made old new inside.log.items _ _ inside.sessions.items (Start s shared taken.short) i i.changes (still.stands i.changes i.stands) kept.sizes kept.schema step kept.groups
          (subst (IsFitState schema) (sym starts.state) (started_fits schema m s t.begun.bound t.begun.short i.fit is_ready starts.why)) tt tt tt
          (omega (arith, more, most, few, ap length kept.claims, c.push_reserved.ensures.capacity, c.in_ok-reserve.ensures.ok, inside.log.ok.0)),
      c.self.invariant.1 ∙ sym (going_stays inside.sessions.items inside.log.items (Start s shared taken.short) refl),
    )

pub returns-clause-started : goal.returns-clause-started
returns-clause-started c =
    let inside = c.self.inside in
    let i = c.self.invariant.0 in
    let made = inside.terms.value in
    let schema = made.schema.value in
    let old = inside.held in
    let new = c.start.new.held in
    let m = state_of i.changes old in
    let after = state_of i.changes new in
    let s = c.args.session in
    let shared = c.in_ok-in_log.in_log in
    let rests = rw (← c.self.view_is) at c.requires.rests in
    let ready = rw (← c.self.view_is) at c.requires.ready in
    let taken = c.in_ok-taken.taken in
    let t = c.in_ok-taken.ensures.ok (begin_of schema) i.changes i.stands i.schema in
    let starts = t.starts in
    let shows = starts.shows in
    let legal = core_legal made old inside.log.items _ inside.sessions.items i in
    let half = rests_is (begin_of schema) inside.log.items m s (may_begin schema) legal rests in
    let same : shared.value ≡ t.begun.bound = c.in_ok-in_log.ensures ∙ sym c.in_ok-in_half.ensures ∙ sym t.bound in
    let step = start_steps (begin_of schema) m after s shared t.begun half same starts in
    let is_ready : IsReady schema t.begun.bound = subst (IsReady schema) (sym (c.in_ok-in_log.ensures ∙ c.in-Ok.ensures.ok) ∙ same) ready in
    let fit = subst (IsFitState schema) (sym starts.state) (started_fits schema m s t.begun.bound t.begun.short i.fit is_ready starts.why) in
    let sound = sound_step (begin_of schema) m (Start s shared t.begun.short) after step (core_sound made old inside.log.items _ inside.sessions.items i) in
    let shown = start_shows (begin_of schema) inside.log.items m after s shared t.begun legal half same starts in
    let at_log : IsStarted (begin_of schema) c.push_reserved.new.self.items s t.begun =
    subst (λ l. IsStarted (begin_of schema) l s t.begun)
    (sym (c.push_reserved.ensures.items ∙ ap (λ (short : Bool). c.reserve.new.self.items ++ Start s shared short ∷ []) t.short ∙ ap (λ items. items ++ Start s shared t.begun.short ∷ []) c.in_ok-reserve.ensures.items)) shown in (
      t.begun,
      record {
        bound = sym c.in_ok-in_half.ensures ∙ sym t.bound;
        short = t.short;
        note = t.note;
        implicit = t.implicit;
        schema = ap (λ (x : Terms). x.schema.value) c.in_ok-terms.ensures ∙ sym shows.schema;
        own = t.own;
        pinned = t.pinned;
      },
      may_work schema i.changes after s t.begun shows.schema shows.own t.among i.table is_ready fit (sound.by_key s) (let all = i.fit in all.changes),
      at_log,
    )

pub returns-clause-counts : goal.returns-clause-counts
returns-clause-counts c =
    let inside = c.self.inside in
    let i = c.self.invariant.0 in
    let made = inside.terms.value in
    let schema = made.schema.value in
    let origin = ground_of schema (sizes_of made) in
    let old = inside.held in
    let s = c.args.session in
    let shared = c.in_ok-in_log.in_log in
    let bound = c.in-Ok.bound in
    let taken = c.in_ok-taken.taken in
    let t = c.in_ok-taken.ensures.ok (begin_of schema) i.changes i.stands i.schema in
    let is : t.begun.bound ≡ bound.value = t.bound ∙ c.in_ok-in_half.ensures in
    let log = c.push_reserved.ensures.items ∙ ap (λ items. items ++ Start s shared taken.short ∷ []) c.in_ok-reserve.ensures.items in
    record {
      schema = ap (λ (x : Terms). x.schema.value) c.in_ok-terms.ensures;
      state = state_of i.changes old;
      book = groups_of old;
      begun =
          subst (λ l. IsBegunAt origin l s bound.value (state_of i.changes old) (groups_of old)) (sym log)
          (subst (λ b. IsBegunAt origin (inside.log.items ++ Start s shared taken.short ∷ []) s b (state_of i.changes old) (groups_of old)) c.in_ok-in_log.ensures
          (begun_first origin inside.log.items s shared taken.short (state_of i.changes old) (groups_of old) i.followed));
      has = λ on_table found. t.counts (ap is_of_table is ∙ on_table) (sym t.short ∙ found);
    }

pub returns-clause-ledger : goal.returns-clause-ledger
returns-clause-ledger c =
    let inside = c.self.inside in
    let i = c.self.invariant.0 in
    let made = inside.terms.value in
    let schema = made.schema.value in
    let origin = ground_of schema (sizes_of made) in
    let old = inside.held in
    let m = state_of i.changes old in
    let s = c.args.session in
    let shared = c.in_ok-in_log.in_log in
    let bound = c.in-Ok.bound in
    let taken = c.in_ok-taken.taken in
    let t = c.in_ok-taken.ensures.ok (begin_of schema) i.changes i.stands i.schema in
    let log = c.push_reserved.ensures.items ∙ ap (λ items. items ++ Start s shared taken.short ∷ []) c.in_ok-reserve.ensures.items in
    subst (λ l. HasLedger origin l s (reorganizes bound.value) taken.ledger) (sym log)
    (subst (λ b. HasLedger origin (inside.log.items ++ Start s shared taken.short ∷ []) s (reorganizes b) taken.ledger) c.in_ok-in_log.ensures
    (ledger_begun origin (inside.log.items ++ Start s shared taken.short ∷ []) s shared.value m (groups_of old) (begun_first origin inside.log.items s shared taken.short m (groups_of old) i.followed) taken.ledger refl
    (subst (λ b. IsLedgerFor (groups_of old) (reorganizes b) taken.ledger) (c.in_ok-in_half.ensures ∙ sym c.in_ok-in_log.ensures) t.ledger)))
