use Rattle.std.proofs.Common.{rules, ◌≡◌, ◌<◌, ℕ, List, [], ◌∷◌, All, Contains, ap, sym, ◌∙◌, arith, subst, get_or}
use Rattle.std.specs.Prelude.{None}
use Rattle.std.proofs.lemmas.List.Elements.{All-contains_itself, Contains-append_left}
use mathlib.Core.Logic.{dite}
use native.Mathlib.Decide.{ℕ_discrete}
use denote.Param.Send.{IsSend, IsSync, shr_send}
use Rattle.history_gate.specs.Histories.{own_numbers, list_of}
use Rattle.history_gate.proofs.Numbers.{Contains-without}
use Rattle.history_gate.proofs.PassLaws.{has_one, keeps_round, keeps_itself, keeps_on}
use Rattle.log_laws.specs.Laws.{AreDistinct}
use Rattle.script_turns.proofs.Sessions.{sessions_below, sessions_distinct}
use Rattle.session_pool.specs.contracts.threads.movers_from.{J-row, D-row, R-row}
use Rattle.session_pool.specs.declared.event.Event.{Event}
use Rattle.session_pool.specs.Events.{held_in}
use Rattle.session_pool.specs.Rests.{HasRun, IsRested, KeepsOwn}
use Rattle.session_pool.proofs.Crossing.{pass_send, shared_sync, u32_send, closure_of_four, one_of}
use Rattle.session_pool.proofs.Joined.{apart_from, kept_joined, number_joined, spare_others, runs_stay, one_rested, rested_joined}
use Rattle.session_pool.proofs.threads.+movers_from.Goals as goal

-- ---- what crosses

pub spawn_with-requires-send-F : goal.spawn_with-requires-send-F
spawn_with-requires-send-F g t c κs within =
    let j : IsSend (J-row g.row.E g.row.J g.row.D g.row.R) = search rules in
    let r : IsSync (R-row g.row.E g.row.J g.row.D g.row.R) = search rules in
    let d : IsSync (D-row g.row.E g.row.J g.row.D g.row.R) = search rules in
    closure_of_four 2 _ _ _ _ _ _ (shr_send _ _ _ r) (shr_send _ _ _ (shared_sync _ g.J.Made _ _ j d)) (pass_send _ g.J.Made j) u32_send

pub spawn_with-requires-send-T : goal.spawn_with-requires-send-T
spawn_with-requires-send-T g t c κs within =
    let j : IsSend (J-row g.row.E g.row.J g.row.D g.row.R) = search rules in
    one_of 3 _ _ (pass_send _ g.J.Made j)

-- ---- where all movers have been started

pub sessions_from-requires-clause-spare : goal.sessions_from-requires-clause-spare
sessions_from-requires-clause-spare g t c κs within = subst (All (Contains c.args.pass.reserve)) (c.requires.script.sessions_are ∙ sym c.as_slice.ensures) c.requires.sessions

pub sessions_from-requires-clause-known : goal.sessions_from-requires-clause-known
sessions_from-requires-clause-known g t c κs within = subst (All (Contains g.J.Made.sessions)) (c.requires.script.sessions_are ∙ sym c.as_slice.ensures) (All-contains_itself g.J.Made.sessions)

pub sessions_from-requires-clause-below : goal.sessions_from-requires-clause-below
sessions_from-requires-clause-below g t c κs within = subst (All (λ s. s < 65)) (sym c.as_slice.ensures) (sessions_below _ c.requires.script.runnable)

pub sessions_from-requires-clause-distinct : goal.sessions_from-requires-clause-distinct
sessions_from-requires-clause-distinct g t c κs within = subst AreDistinct (sym c.as_slice.ensures) (sessions_distinct _ c.requires.script.runnable)

pub returns-then-number-movers-clause-rested : goal.returns-then-number-movers-clause-rested
returns-then-number-movers-clause-rested g t c = c.sessions_from.ensures.rested c.args.movers

pub returns-then-number-movers-clause-runs : goal.returns-then-number-movers-clause-runs
returns-then-number-movers-clause-runs g t c = subst (All (HasRun g.J.Made.lines c.sessions_from.result.1 c.sessions_from.result.0.own)) (c.as_slice.ensures ∙ sym c.requires.script.sessions_are) c.sessions_from.ensures.runs

-- ---- what calls ask for

pub movers_from-pass-requires-clause-spare : goal.movers_from-pass-requires-clause-spare
movers_from-pass-requires-clause-spare g t c κs within = λ n low high.
    subst (λ r. Contains r n) (sym c.split-pass.ensures.left.2) (Contains-without c.args.number n c.args.pass.reserve (λ e. omega (arith, low, e)) (c.requires.spare n (omega (arith, low)) high))

pub movers_from-pass-requires-clause-sessions : goal.movers_from-pass-requires-clause-sessions
movers_from-pass-requires-clause-sessions g t c κs within =
    let below : All (λ s. s < 65) g.J.Made.sessions = subst (All (λ s. s < 65)) (sym c.requires.script.sessions_are) (sessions_below _ c.requires.script.runnable) in
    spare_others c.args.number g.J.Made.sessions c.args.pass.reserve _ (apart_from c.args.number g.J.Made.sessions c.requires.range.0 below) c.split-pass.ensures.left.2 c.requires.sessions

pub movers_from-requires-clause-spare : goal.movers_from-requires-clause-spare
movers_from-requires-clause-spare g t c κs within = λ n low high.
    let left : Contains c.split-pass.result.0.reserve n =
    subst (λ r. Contains r n) (sym c.split-pass.ensures.left.2) (Contains-without c.args.number n c.args.pass.reserve (λ e. omega (arith, low, e)) (c.requires.spare n (omega (arith, low)) high)) in
    subst (λ r. Contains r n) (sym c.join-pass.ensures.both.1) (Contains-append_left c.split-pass.result.0.reserve c.work-other.result.reserve n left)

pub movers_from-requires-clause-sessions : goal.movers_from-requires-clause-sessions
movers_from-requires-clause-sessions g t c κs within =
    let below : All (λ s. s < 65) g.J.Made.sessions = subst (All (λ s. s < 65)) (sym c.requires.script.sessions_are) (sessions_below _ c.requires.script.runnable) in
    let left : All (Contains c.split-pass.result.0.reserve) g.J.Made.sessions =
    spare_others c.args.number g.J.Made.sessions c.args.pass.reserve _ (apart_from c.args.number g.J.Made.sessions c.requires.range.0 below) c.split-pass.ensures.left.2 c.requires.sessions in
    λ k d lt. let s : ℕ = get_or g.J.Made.sessions k d in
    subst (λ r. Contains r s) (sym c.join-pass.ensures.both.1) (Contains-append_left c.split-pass.result.0.reserve c.work-other.result.reserve s (left k d lt))

-- ---- what comes back

pub returns-in-Ok-clause-numbers : goal.returns-in-Ok-clause-numbers
returns-in-Ok-clause-numbers g t c =
    keeps_round c.args.number c.args.pass c.split-pass.result.0 c.movers_from-pass.result.0 c.join-other.result c.join.result c.split-pass.ensures.left.1 c.split-pass.ensures.left.2 c.movers_from-pass.ensures.numbers
    (has_one c.args.number c.join-other.result (c.join-other.ensures.1 ∙ ap (λ home. home.number ∷ []) c.in-Ok.ensures.ok)) c.join.ensures.both.0 c.join.ensures.both.1

pub returns-then-number-movers-clause-movers : goal.returns-then-number-movers-clause-movers
returns-then-number-movers-clause-movers g t c = λ n low high. absurd (omega (arith, c.if-number-movers.true, low, high))

pub returns-in-Ok-clause-kept : goal.returns-in-Ok-clause-kept
returns-in-Ok-clause-kept g t c =
    kept_joined c.args.pass.own c.movers_from-pass.result.0.own c.join-other.result.own c.join.result.own c.join.ensures.both.0 (subst (λ o. KeepsOwn o c.movers_from-pass.result.0.own) c.split-pass.ensures.left.1 c.movers_from-pass.ensures.kept)

pub returns-in-Ok-clause-movers : goal.returns-in-Ok-clause-movers
returns-in-Ok-clause-movers g t c = λ n low high. dite (ℕ_discrete c.args.number n)
    (λ e. subst (Contains (own_numbers c.join.result.own)) e (number_joined c.args.number c.movers_from-pass.result.0.own c.join-other.result.own c.join.result.own c.join.ensures.both.0 (c.join-other.ensures.1 ∙ ap (λ home. home.number ∷ []) c.in-Ok.ensures.ok)))
    (λ ne. kept_joined c.movers_from-pass.result.0.own c.movers_from-pass.result.0.own c.join-other.result.own c.join.result.own c.join.ensures.both.0 (λ m has. has) n (c.movers_from-pass.ensures.movers n (omega (arith, low, ne)) high))

pub returns-in-Ok-clause-rested : goal.returns-in-Ok-clause-rested
returns-in-Ok-clause-rested g t c = λ rested.
    let own : List (ℕ × List Event) = c.join-other.result.own in
    let free = subst (λ n. held_in (list_of n own) ≡ None) (ap (λ home. home.number) c.in-Ok.ensures.ok) c.join-other.ensures.2 in
    rested_joined c.args.movers c.movers_from-pass.result.0.own own c.join.result.own c.join.ensures.both.0
    (c.movers_from-pass.ensures.rested (subst (All (IsRested c.args.movers)) (sym c.split-pass.ensures.left.1) rested))
    (one_rested c.args.movers c.args.number own (c.join-other.ensures.1 ∙ ap (λ home. home.number ∷ []) c.in-Ok.ensures.ok) (omega (arith, c.if-number-movers.false)) free)

pub returns-in-Ok-clause-runs : goal.returns-in-Ok-clause-runs
returns-in-Ok-clause-runs g t c = runs_stay g.J.Made.lines c.movers_from-pass.result.1 g.J.Made.sessions c.movers_from-pass.result.0.own c.join-other.result.own c.join.result.own c.join.ensures.both.0 c.movers_from-pass.ensures.runs

pub returns-in-Err-clause-numbers : goal.returns-in-Err-clause-numbers
returns-in-Err-clause-numbers g t c =
    keeps_on c.args.pass c.join-pass.result c.movers_from.result.0
    (keeps_round c.args.number c.args.pass c.split-pass.result.0 c.split-pass.result.0 c.work-other.result c.join-pass.result c.split-pass.ensures.left.1 c.split-pass.ensures.left.2 (keeps_itself c.split-pass.result.0)
    (has_one c.args.number c.work-other.result (c.work-other.ensures.1 ∙ ap (λ f. f.3 ∷ []) c.in-Err.ensures.err)) c.join-pass.ensures.both.0 c.join-pass.ensures.both.1)
    c.movers_from.ensures.numbers

pub returns-in-Err-clause-rested : goal.returns-in-Err-clause-rested
returns-in-Err-clause-rested g t c = λ rested.
    let own : List (ℕ × List Event) = c.work-other.result.own in
    let free = subst (λ n. held_in (list_of n own) ≡ None) (ap (λ f. f.3) c.in-Err.ensures.err) c.work-other.ensures.2 in
    c.movers_from.ensures.rested (rested_joined c.args.movers c.split-pass.result.0.own own c.join-pass.result.own c.join-pass.ensures.both.0 (subst (All (IsRested c.args.movers)) (sym c.split-pass.ensures.left.1) rested)
    (one_rested c.args.movers c.args.number own (c.work-other.ensures.1 ∙ ap (λ f. f.3 ∷ []) c.in-Err.ensures.err) (omega (arith, c.if-number-movers.false)) free))

pub returns-in-Err-clause-kept : goal.returns-in-Err-clause-kept
returns-in-Err-clause-kept g t c = λ n has.
    c.movers_from.ensures.kept n (kept_joined c.args.pass.own c.split-pass.result.0.own c.work-other.result.own c.join-pass.result.own c.join-pass.ensures.both.0 (subst (KeepsOwn c.args.pass.own) (sym c.split-pass.ensures.left.1) (λ m h. h)) n has)

pub returns-in-Err-clause-movers : goal.returns-in-Err-clause-movers
returns-in-Err-clause-movers g t c = λ n low high. dite (ℕ_discrete c.args.number n)
    (λ e. subst (Contains (own_numbers c.movers_from.result.0.own)) e (c.movers_from.ensures.kept c.args.number
    (number_joined c.args.number c.split-pass.result.0.own c.work-other.result.own c.join-pass.result.own c.join-pass.ensures.both.0 (c.work-other.ensures.1 ∙ ap (λ f. f.3 ∷ []) c.in-Err.ensures.err))))
    (λ ne. c.movers_from.ensures.movers n (omega (arith, low, ne)) high)
