use Rattle.std.proofs.Common.{subst}
use Rattle.std.specs.Prelude.{None}
use Rattle.group_book.specs.Choices.{install_work, release_work}
use Rattle.group_log.specs.Followed.{ground_of}
use Rattle.session_pool.specs.Events.{entries_in}
use Rattle.session_pool.specs.Sections.{After}
use Rattle.session_pool.specs.Works.{Attempts}
use Rattle.session_pool.proofs.Course.{end_may, idle_stop, installed_way, lent_way, looks_stopped, turn_may, turns_none, turns_some}
use Rattle.session_pool.proofs.Passes.{added_holds}
use Rattle.session_pool.proofs.Working.{works_ended, works_has, works_none, works_then}
use Rattle.session_pool.proofs.reorganizing.make_turns.Goals as goal

pub turns-init : goal.turns-init
turns-init g c = (works_none c.args.session c.args.pass c.requires.told, c.requires.free, c.requires.way)

pub attempt-next-requires-clause-may : goal.attempt-next-requires-clause-may
attempt-next-requires-clause-may g c = λ found is.
    let kept = c.turns.invariant in
    let works = kept.0 in
    turn_may (ground_of g.J.Made.schema g.J.Made.sizes) c.args.session c.turns.pass (works_has c.args.session c.args.pass c.turns.pass works c.requires.number) works.told found is c.turns.course kept.2
    (turns_some c.may_turn.result c.turns.course.turns c.may_turn.ensures c.turns-test.true)

pub returns-in-Idle-clause-works : goal.returns-in-Idle-clause-works
returns-in-Idle-clause-works g c = works_then c.args.session c.args.pass c.turns.pass c.attempt-next.result.0 c.turns.invariant.0 c.attempt-next.ensures.works

pub returns-in-Idle-clause-stopped : goal.returns-in-Idle-clause-stopped
returns-in-Idle-clause-stopped g c =
    let kept = c.turns.invariant in
    let works = kept.0 in
    let seen = entries_in c.attempt-next.result.0.seen in
    let log = subst (λ r. After c.turns.pass (λ found. Attempts (ground_of g.J.Made.schema g.J.Made.sizes) c.args.session r (entries_in found) seen)) c.in-Idle.is c.attempt-next.ensures.log in
    idle_stop (ground_of g.J.Made.schema g.J.Made.sizes) c.args.session c.turns.pass (works_has c.args.session c.args.pass c.turns.pass works c.requires.number) works.told log.0 log.1 c.turns.course seen kept.2 log.2.0 log.2.1

pub returns-in-Short-clause-works : goal.returns-in-Short-clause-works
returns-in-Short-clause-works g c = works_then c.args.session c.args.pass c.turns.pass c.attempt-next.result.0 c.turns.invariant.0 c.attempt-next.ensures.works

pub end_turn-next-requires-clause-may : goal.end_turn-next-requires-clause-may
end_turn-next-requires-clause-may g c κs within = λ found is.
    let kept = c.turns.invariant in
    let works = kept.0 in
    let mid = c.attempt-next.result.0 in
    let seen = entries_in mid.seen in
    let has = works_has c.args.session c.args.pass c.turns.pass works c.requires.number in
    let log = subst (λ r. After c.turns.pass (λ found. Attempts (ground_of g.J.Made.schema g.J.Made.sizes) c.args.session r (entries_in found) seen)) c.in-Lent.is c.attempt-next.ensures.log in
    let way = lent_way (ground_of g.J.Made.schema g.J.Made.sizes) c.args.session c.turns.pass has works.told log.0 log.1 c.turns.course c.turned.new.self c.in-Lent.claim seen kept.2 c.turned.ensures log.2 in
    end_may (ground_of g.J.Made.schema g.J.Made.sizes) c.args.session mid (works_has c.args.session c.turns.pass mid c.attempt-next.ensures.works has) c.attempt-next.ensures.works.told found is c.turned.new.self way

pub returns-then-not-installed-clause-works : goal.returns-then-not-installed-clause-works
returns-then-not-installed-clause-works g c =
    let works = c.turns.invariant.0 in
    let mid = c.attempt-next.result.0 in
    let last = c.end_turn-next.result.0 in
    let made = c.attempt-next.ensures.works in
    let has = works_has c.args.session c.turns.pass mid made (works_has c.args.session c.args.pass c.turns.pass works c.requires.number) in
    let x = c.end_turn-next.ensures in
    let e = x.released c.if-not-installed.true in
    works_then c.args.session c.args.pass mid last (works_then c.args.session c.args.pass c.turns.pass mid works made)
    (works_ended c.args.session mid last x.pass.0 x.pass.1 has made.told x.told e.0 e.1 release_work (ground_of g.J.Made.schema g.J.Made.sizes) x.own e.2)

pub returns-then-not-installed-clause-free : goal.returns-then-not-installed-clause-free
returns-then-not-installed-clause-free g c =
    let mid = c.attempt-next.result.0 in
    let has = works_has c.args.session c.turns.pass mid c.attempt-next.ensures.works (works_has c.args.session c.args.pass c.turns.pass c.turns.invariant.0 c.requires.number) in
    added_holds c.args.session None mid.own c.end_turn-next.result.0.own c.end_turn-next.ensures.own has

pub turns-preserved : goal.turns-preserved
turns-preserved g c =
    let kept = c.turns.invariant in
    let works = kept.0 in
    let mid = c.attempt-next.result.0 in
    let last = c.end_turn-next.result.0 in
    let seen = entries_in mid.seen in
    let made = c.attempt-next.ensures.works in
    let first = works_has c.args.session c.args.pass c.turns.pass works c.requires.number in
    let has = works_has c.args.session c.turns.pass mid made first in
    let x = c.end_turn-next.ensures in
    let e = x.installed c.if-not-installed.false in
    let log = subst (λ r. After c.turns.pass (λ found. Attempts (ground_of g.J.Made.schema g.J.Made.sizes) c.args.session r (entries_in found) seen)) c.in-Lent.is c.attempt-next.ensures.log in
    let way = lent_way (ground_of g.J.Made.schema g.J.Made.sizes) c.args.session c.turns.pass first works.told log.0 log.1 c.turns.course c.turned.new.self c.in-Lent.claim seen kept.2 c.turned.ensures log.2 in (
      works_then c.args.session c.args.pass mid last (works_then c.args.session c.args.pass c.turns.pass mid works made)
          (works_ended c.args.session mid last x.pass.0 x.pass.1 has made.told x.told e.0 e.1 install_work (ground_of g.J.Made.schema g.J.Made.sizes) x.own e.2),
      added_holds c.args.session None mid.own last.own x.own has,
      installed_way (ground_of g.J.Made.schema g.J.Made.sizes) c.args.session mid has made.told e.0 e.1 c.turned.new.self (entries_in last.seen) way e.2,
    )

pub returns-clause-works : goal.returns-clause-works
returns-clause-works g c = works_then c.args.session c.args.pass c.turns.pass c.look_on.result.0 c.turns.invariant.0 c.look_on.ensures.works

pub returns-clause-stopped : goal.returns-clause-stopped
returns-clause-stopped g c =
    let kept = c.turns.invariant in
    let works = kept.0 in
    looks_stopped (ground_of g.J.Made.schema g.J.Made.sizes) c.args.session c.turns.pass (works_has c.args.session c.args.pass c.turns.pass works c.requires.number) works.told c.turns.course (entries_in c.look_on.result.0.seen)
    (turns_none c.may_turn.result c.turns.course.turns c.may_turn.ensures c.turns-test.false) kept.2 c.look_on.result.1 c.look_on.ensures.ledger
