use Rattle.std.proofs.Common.{◌≡◌, ◌<◌, true, false, All, sym, ◌∙◌, subst}
use Rattle.history_gate.proofs.PassLaws.{first_has_all}
use Rattle.history_gate.proofs.Whole.{seen_all}
use Rattle.script_turns.proofs.Sessions.{sessions_below}
use Rattle.group_log.specs.Followed.{ground_of}
use Rattle.session_pool.specs.Events.{entries_in, number_in}
use Rattle.session_pool.specs.Rests.{HasRun, AreAtRest}
use Rattle.session_pool.specs.Runs.{IsLast}
use Rattle.session_pool.proofs.Closing.{at_rest}
use Rattle.session_pool.proofs.Histories.{rests_first}
use Rattle.session_pool.proofs.pool.run.Goals as goal

pub returns-in-Err-clause-stopped : goal.returns-in-Err-clause-stopped
returns-in-Err-clause-stopped g c =
    c.core_of.ensures.front c.args.movers (subst (AreAtRest g.J.Made.sessions g.J.Made.lines c.args.movers false) (sym (c.in-Err.ensures.err ∙ c.new-pooled.ensures)) (rests_first g.J.Made.sessions g.J.Made.lines c.args.movers))

pub new-pooled-requires-clause-claims : goal.new-pooled-requires-clause-claims
new-pooled-requires-clause-claims g c = c.log-log.ensures.none c.requires.log

pub new-pooled-requires-clause-numbers : goal.new-pooled-requires-clause-numbers
new-pooled-requires-clause-numbers g c = subst (All (λ s. s < 65)) (sym c.requires.script.sessions_are) (sessions_below c.args.script.now c.requires.script.runnable)

pub run_last-pass-requires-clause-below : goal.run_last-pass-requires-clause-below
run_last-pass-requires-clause-below g c κs within = subst (All (λ s. s < 65)) (sym c.requires.script.sessions_are) (sessions_below c.args.script.now c.requires.script.runnable)

-- every number is with the last pass
pub close-requires-clause-all : goal.close-requires-clause-all
close-requires-clause-all g c =
    let ok = c.in-Ok.ensures.ok in
    λ n lt. c.run_last-pass.ensures.numbers n (c.run_threads-pass.ensures.numbers n (first_has_all 73 c.in-Ok.made.1 ok.2 ok.3 n (subst (λ z. n < z) ok.0 lt)))

pub returns-then-whole-clause-ran : goal.returns-then-whole-clause-ran
returns-then-whole-clause-ran g c =
    let pass = c.run_last-pass.result.0 in
    let whole : c.run_last-pass.result.1 ≡ true = c.if-whole.true in
    let runs : All (HasRun g.J.Made.lines true pass.own) g.J.Made.sessions = subst (λ b. All (HasRun g.J.Made.lines b pass.own) g.J.Made.sessions) whole c.run_last-pass.ensures.runs in
    c.core_of-core.ensures.whole c.args.movers (at_rest g.J.Made.sessions g.J.Made.lines c.args.movers true pass.own c.close.result c.close.ensures.own c.close.ensures.others c.run_last-pass.ensures.rested runs)
    (λ some.
    -- the last turns saw the whole log
    let all : c.close.result ≡ pass.seen = seen_all number_in pass.own pass.seen c.close.result (c.run_last-pass.ensures.told whole some) c.close.ensures.own c.close.ensures.seen c.close.ensures.others in
    subst (λ events. IsLast (ground_of g.J.Made.schema g.J.Made.sizes) 1 (entries_in events)) (sym all) (c.run_last-pass.ensures.last whole some))

pub returns-clause-stopped : goal.returns-clause-stopped
returns-clause-stopped g c =
    let pass = c.run_last-pass.result.0 in
    let runs : All (HasRun g.J.Made.lines false pass.own) g.J.Made.sessions = subst (λ b. All (HasRun g.J.Made.lines b pass.own) g.J.Made.sessions) c.if-whole.false c.run_last-pass.ensures.runs in
    c.core_of-core.ensures.front c.args.movers (at_rest g.J.Made.sessions g.J.Made.lines c.args.movers false pass.own c.close.result c.close.ensures.own c.close.ensures.others c.run_last-pass.ensures.rested runs)
