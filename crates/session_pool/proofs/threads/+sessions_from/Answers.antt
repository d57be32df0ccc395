use Rattle.std.proofs.Common.{rules, ◌≡◌, ◌<◌, ℕ, List, [], ◌∷◌, Bool, All, Contains, ap, sym, ◌∙◌, inl, inr, arith, subst}
use Rattle.std.proofs.lemmas.List.Elements.{All-head, All-tail}
use denote.Param.Send.{IsSend, IsSync, shr_send}
use Rattle.history_gate.specs.Histories.{list_of}
use Rattle.history_gate.proofs.PassLaws.{has_one, keeps_round}
use Rattle.log_laws.specs.Laws.{AreDistinct}
use Rattle.session_pool.specs.contracts.threads.sessions_from.{J-row, D-row, R-row}
use Rattle.session_pool.specs.declared.event.Event.{Event}
use Rattle.std.specs.Prelude.{None}
use Rattle.session_pool.specs.Events.{entries_in, held_in}
use Rattle.session_pool.specs.Rests.{IsRested, IsScriptOf, KeepsOwn}
use Rattle.session_pool.specs.Runs.{IsSessionRun}
use Rattle.session_pool.proofs.Crossing.{pass_send, shared_sync, u32_send, bool_send, closure_of_four, pair_of}
use Rattle.session_pool.proofs.Joined.{AreBoth, kept_joined, runs_joined, spare_others, one_rested, rested_joined}
use Rattle.session_pool.proofs.threads.+sessions_from.Goals as goal
use Rattle.session_pool.proofs.threads.+sessions_from.Goals.{then-rest, else-rest, then-rest-2, else-rest-2}

-- ---- what crosses

pub spawn_with-requires-send-F : goal.spawn_with-requires-send-F
spawn_with-requires-send-F g t c κs within =
    let j : IsSend (J-row g.row.E g.row.J g.row.D g.row.R) = search rules in
    let r : IsSync (R-row g.row.E g.row.J g.row.D g.row.R) = search rules in
    let d : IsSync (D-row g.row.E g.row.J g.row.D g.row.R) = search rules in
    closure_of_four 2 _ _ _ _ _ _ (shr_send _ _ _ r) (shr_send _ _ _ (shared_sync _ g.J.Made _ _ j d)) (pass_send _ g.J.Made j) u32_send

pub spawn_with-requires-send-T : goal.spawn_with-requires-send-T
spawn_with-requires-send-T g t c κs within =
    let j : IsSend (J-row g.row.E g.row.J g.row.D g.row.R) = search rules in
    pair_of 3 _ _ _ _ (pass_send _ g.J.Made j) bool_send

-- ---- what calls ask for

pub spawn_with-requires-clause-runs : goal.spawn_with-requires-clause-runs
spawn_with-requires-clause-runs g t c κs within =
    let known : All (Contains g.J.Made.sessions) (c.in-Some.number.now ∷ c.in-Some.others.now) = subst (All (Contains g.J.Made.sessions)) c.in-Some.ensures.cases.0 c.requires.known in (
      (c.split-pass.ensures.right.0 ∙ c.requires.gate, c.requires.script, All-head (Contains g.J.Made.sessions) c.in-Some.number.now c.in-Some.others.now known, c.split-pass.ensures.right.1),
      search rules,
    )

pub sessions_from-pass-requires-clause-spare : goal.sessions_from-pass-requires-clause-spare
sessions_from-pass-requires-clause-spare g t c κs within =
    let s : ℕ = c.in-Some.number.now in
    let others : List ℕ = c.in-Some.others.now in
    let is : c.args.sessions.now ≡ s ∷ others = c.in-Some.ensures.cases.0 in
    let distinct : AreDistinct (s ∷ others) = subst AreDistinct is c.requires.distinct in
    spare_others s others c.args.pass.reserve _ distinct.0 c.split-pass.ensures.left.2 (All-tail (Contains c.args.pass.reserve) s others (subst (All (Contains c.args.pass.reserve)) is c.requires.spare))

pub sessions_from-pass-requires-in-Err-clause-spare : goal.sessions_from-pass-requires-in-Err-clause-spare
sessions_from-pass-requires-in-Err-clause-spare g t c κs within =
    let s : ℕ = c.in-Some.number.now in
    let others : List ℕ = c.in-Some.others.now in
    let is : c.args.sessions.now ≡ s ∷ others = c.in-Some.ensures.cases.0 in
    let distinct : AreDistinct (s ∷ others) = subst AreDistinct is c.requires.distinct in
    spare_others s others c.args.pass.reserve _ distinct.0 c.split-pass.ensures.left.2 (All-tail (Contains c.args.pass.reserve) s others (subst (All (Contains c.args.pass.reserve)) is c.requires.spare))

pub sessions_from-pass-requires-clause-known : goal.sessions_from-pass-requires-clause-known
sessions_from-pass-requires-clause-known g t c κs within = All-tail (Contains g.J.Made.sessions) c.in-Some.number.now c.in-Some.others.now (subst (All (Contains g.J.Made.sessions)) c.in-Some.ensures.cases.0 c.requires.known)

pub sessions_from-pass-requires-in-Err-clause-known : goal.sessions_from-pass-requires-in-Err-clause-known
sessions_from-pass-requires-in-Err-clause-known g t c κs within =
    All-tail (Contains g.J.Made.sessions) c.in-Some.number.now c.in-Some.others.now (subst (All (Contains g.J.Made.sessions)) c.in-Some.ensures.cases.0 c.requires.known)

pub sessions_from-pass-requires-clause-below : goal.sessions_from-pass-requires-clause-below
sessions_from-pass-requires-clause-below g t c κs within = All-tail (λ s. s < 65) c.in-Some.number.now c.in-Some.others.now (subst (All (λ s. s < 65)) c.in-Some.ensures.cases.0 c.requires.below)

pub sessions_from-pass-requires-in-Err-clause-below : goal.sessions_from-pass-requires-in-Err-clause-below
sessions_from-pass-requires-in-Err-clause-below g t c κs within =
    All-tail (λ s. s < 65) c.in-Some.number.now c.in-Some.others.now (subst (All (λ s. s < 65)) c.in-Some.ensures.cases.0 c.requires.below)

pub sessions_from-pass-requires-clause-distinct : goal.sessions_from-pass-requires-clause-distinct
sessions_from-pass-requires-clause-distinct g t c κs within = let d : AreDistinct (c.in-Some.number.now ∷ c.in-Some.others.now) = subst AreDistinct c.in-Some.ensures.cases.0 c.requires.distinct in d.1

pub sessions_from-pass-requires-in-Err-clause-distinct : goal.sessions_from-pass-requires-in-Err-clause-distinct
sessions_from-pass-requires-in-Err-clause-distinct g t c κs within =
    let d : AreDistinct (c.in-Some.number.now ∷ c.in-Some.others.now) = subst AreDistinct c.in-Some.ensures.cases.0 c.requires.distinct in d.1

pub work-other-requires-after_bounds : goal.work-other-requires-after_bounds
work-other-requires-after_bounds g t c κs within =
    let known : All (Contains g.J.Made.sessions) (c.in-Some.number.now ∷ c.in-Some.others.now) = subst (All (Contains g.J.Made.sessions)) c.in-Some.ensures.cases.0 c.requires.known in
    subst (λ f. (f.2.gate ≡ f.1.now.gate.now.gate) × IsScriptOf g.J.Made.schema g.J.Made.sessions g.J.Made.lines f.1.now.script.now × Contains g.J.Made.sessions f.3 × (f.2.own ≡ (f.3, []) ∷ [])) (sym c.in-Err.ensures.err)
    (c.split-pass.ensures.right.0 ∙ c.requires.gate, c.requires.script, All-head (Contains g.J.Made.sessions) c.in-Some.number.now c.in-Some.others.now known, c.split-pass.ensures.right.1)

-- ---- what comes back

pub returns-after-rest-clause-numbers : goal.returns-after-rest-clause-numbers
returns-after-rest-clause-numbers g t c =
    keeps_round c.in-Some.number.now c.args.pass c.split-pass.result.0 c.sessions_from-pass.result.0 c.join-other.result.0 c.join.result c.split-pass.ensures.left.1 c.split-pass.ensures.left.2 c.sessions_from-pass.ensures.numbers
    (has_one c.in-Some.number.now c.join-other.result.0 (c.join-other.ensures.1 ∙ ap (λ home. home.number ∷ []) c.in-Ok.ensures.ok)) c.join.ensures.both.0 c.join.ensures.both.1

pub returns-after-rest-2-clause-numbers : goal.returns-after-rest-2-clause-numbers
returns-after-rest-2-clause-numbers g t c =
    keeps_round c.in-Some.number.now c.args.pass c.split-pass.result.0 c.sessions_from-pass-in-Err.result.0 c.work-other.result.0 c.join-in-Err.result c.split-pass.ensures.left.1 c.split-pass.ensures.left.2 c.sessions_from-pass-in-Err.ensures.numbers
    (has_one c.in-Some.number.now c.work-other.result.0 (c.work-other.ensures.1 ∙ ap (λ f. f.3 ∷ []) c.in-Err.ensures.err)) c.join-in-Err.ensures.both.0 c.join-in-Err.ensures.both.1

pub returns-after-rest-clause-kept : goal.returns-after-rest-clause-kept
returns-after-rest-clause-kept g t c =
    kept_joined c.args.pass.own c.sessions_from-pass.result.0.own c.join-other.result.0.own c.join.result.own c.join.ensures.both.0 (subst (λ o. KeepsOwn o c.sessions_from-pass.result.0.own) c.split-pass.ensures.left.1 c.sessions_from-pass.ensures.kept)

pub returns-after-rest-2-clause-kept : goal.returns-after-rest-2-clause-kept
returns-after-rest-2-clause-kept g t c =
    kept_joined c.args.pass.own c.sessions_from-pass-in-Err.result.0.own c.work-other.result.0.own c.join-in-Err.result.own c.join-in-Err.ensures.both.0
    (subst (λ o. KeepsOwn o c.sessions_from-pass-in-Err.result.0.own) c.split-pass.ensures.left.1 c.sessions_from-pass-in-Err.ensures.kept)

pub returns-after-rest-clause-rested : goal.returns-after-rest-clause-rested
returns-after-rest-clause-rested g t c = λ movers rested.
    let s : ℕ = c.in-Some.number.now in
    let below = All-head (λ n. n < 65) s c.in-Some.others.now (subst (All (λ n. n < 65)) c.in-Some.ensures.cases.0 c.requires.below) in
    rested_joined movers c.sessions_from-pass.result.0.own c.join-other.result.0.own c.join.result.own c.join.ensures.both.0
    (c.sessions_from-pass.ensures.rested movers (subst (All (IsRested movers)) (sym c.split-pass.ensures.left.1) rested))
    (one_rested movers s c.join-other.result.0.own (c.join-other.ensures.1 ∙ ap (λ home. home.number ∷ []) c.in-Ok.ensures.ok) (omega (arith, below)) (subst (λ n. held_in (list_of n c.join-other.result.0.own) ≡ None) (ap (λ home. home.number) c.in-Ok.ensures.ok) c.join-other.ensures.3))

pub returns-after-rest-2-clause-rested : goal.returns-after-rest-2-clause-rested
returns-after-rest-2-clause-rested g t c = λ movers rested.
    let s : ℕ = c.in-Some.number.now in
    let below = All-head (λ n. n < 65) s c.in-Some.others.now (subst (All (λ n. n < 65)) c.in-Some.ensures.cases.0 c.requires.below) in
    rested_joined movers c.sessions_from-pass-in-Err.result.0.own c.work-other.result.0.own c.join-in-Err.result.own c.join-in-Err.ensures.both.0
    (c.sessions_from-pass-in-Err.ensures.rested movers (subst (All (IsRested movers)) (sym c.split-pass.ensures.left.1) rested))
    (one_rested movers s c.work-other.result.0.own (c.work-other.ensures.1 ∙ ap (λ f. f.3 ∷ []) c.in-Err.ensures.err) (omega (arith, below)) (subst (λ n. held_in (list_of n c.work-other.result.0.own) ≡ None) (ap (λ f. f.3) c.in-Err.ensures.err) c.work-other.ensures.3))

pub returns-after-rest-clause-runs : goal.returns-after-rest-clause-runs
returns-after-rest-clause-runs g t c =
    let s : ℕ = c.in-Some.number.now in
    let own : List (ℕ × List Event) = c.join-other.result.0.own in
    let done : Bool = c.join-other.result.1 in
    let run = subst (λ n. IsSessionRun n g.J.Made.lines done (entries_in (list_of n own))) (ap (λ home. home.number) c.in-Ok.ensures.ok) c.join-other.ensures.2 in
    let both : AreBoth c.sessions_from-pass.result.1 done c.if-rest.result = elim c.if-rest.branch [
      | then-rest w ↦ inl (w.if-rest.true, w.result-is)
      | else-rest w ↦ inr (w.if-rest.false, w.result-is ∙ w.if-rest.false)
    ] in
    runs_joined g.J.Made.lines c.sessions_from-pass.result.1 done c.if-rest.result both s c.in-Some.others.now c.args.sessions.now c.sessions_from-pass.result.0.own own c.join.result.own c.in-Some.ensures.cases.0 c.join.ensures.both.0
    (c.join-other.ensures.1 ∙ ap (λ home. home.number ∷ []) c.in-Ok.ensures.ok) run c.sessions_from-pass.ensures.runs

pub returns-after-rest-2-clause-runs : goal.returns-after-rest-2-clause-runs
returns-after-rest-2-clause-runs g t c =
    let s : ℕ = c.in-Some.number.now in
    let own : List (ℕ × List Event) = c.work-other.result.0.own in
    let done : Bool = c.work-other.result.1 in
    let run = subst (λ n. IsSessionRun n g.J.Made.lines done (entries_in (list_of n own))) (ap (λ f. f.3) c.in-Err.ensures.err) c.work-other.ensures.2 in
    let both : AreBoth c.sessions_from-pass-in-Err.result.1 done c.if-rest-2.result = elim c.if-rest-2.branch [
      | then-rest-2 w ↦ inl (w.if-rest-2.true, w.result-is)
      | else-rest-2 w ↦ inr (w.if-rest-2.false, w.result-is ∙ w.if-rest-2.false)
    ] in
    runs_joined g.J.Made.lines c.sessions_from-pass-in-Err.result.1 done c.if-rest-2.result both s c.in-Some.others.now c.args.sessions.now c.sessions_from-pass-in-Err.result.0.own own c.join-in-Err.result.own c.in-Some.ensures.cases.0 c.join-in-Err.ensures.both.0
    (c.work-other.ensures.1 ∙ ap (λ f. f.3 ∷ []) c.in-Err.ensures.err) run c.sessions_from-pass-in-Err.ensures.runs
