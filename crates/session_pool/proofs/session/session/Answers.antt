use Rattle.std.proofs.Common.{ap, subst, MatchBool, ◌≡◌, ◌∙◌}
use Rattle.history_gate.specs.Histories.{list_of}
use Rattle.session_pool.specs.Events.{entries_in}
use Rattle.session_pool.specs.Statements.{AddsStatement}
use Rattle.session_pool.proofs.Passes.{end_entries, end_free, end_numbers}
use Rattle.session_pool.proofs.Statements.{line_done, line_next, line_passed, line_stopped, lines_ended}
use Rattle.session_pool.proofs.session.session.Goals as goal

pub loop-step-preserved-in_default : goal.loop-step-preserved-in_default
loop-step-preserved-in_default g c =
    let kept = c.loop-step.invariant in (
      kept.0,
      kept.1,
      kept.2,
      line_passed c.args.session c.args.script.now.lines c.as_slice-step-items.result.now c.as_slice-step-items.ensures c.loop-step.step-index c.step-item.result c.loop-step-test.true c.step-item.is
          c.started_in.result c.started_in.ensures c.in_default.is (entries_in (list_of c.args.session c.loop-step.pass.own)) kept.3,
      kept.4,
    )

pub statement-next-requires-clause-next : goal.statement-next-requires-clause-next
statement-next-requires-clause-next g c κs within =
    line_next c.args.session c.args.script.now.lines c.as_slice-step-items.result.now c.as_slice-step-items.ensures c.loop-step.step-index c.step-item.result c.loop-step-test.true c.step-item.is
    c.started_in.result c.started_in.ensures c.in-Some.text c.in-Some.is (entries_in (list_of c.args.session c.loop-step.pass.own)) c.loop-step.invariant.3 g.J.Made.lines c.requires.script.0

pub returns-then-not-done-clause-turns : goal.returns-then-not-done-clause-turns
returns-then-not-done-clause-turns g c =
    let old = list_of c.args.session c.loop-step.pass.own in
    let new = list_of c.args.session c.statement-next.result.0.own in
    let stays = subst (λ done. MatchBool done (AddsStatement c.args.session (entries_in old) (entries_in new)) (new ≡ old)) c.if-not-done.true c.statement-next.ensures.turns in
    line_stopped c.args.session c.args.script.now.lines c.as_slice-step-items.result.now c.as_slice-step-items.ensures c.loop-step.step-index c.step-item.result c.loop-step-test.true c.step-item.is
    c.started_in.result c.started_in.ensures c.in-Some.text c.in-Some.is (entries_in old) c.loop-step.invariant.3 (entries_in new) (ap entries_in stays)

pub loop-step-preserved : goal.loop-step-preserved
loop-step-preserved g c =
    let kept = c.loop-step.invariant in
    let old = list_of c.args.session c.loop-step.pass.own in
    let new = list_of c.args.session c.statement-next.result.0.own in
    let adds = subst (λ done. MatchBool done (AddsStatement c.args.session (entries_in old) (entries_in new)) (new ≡ old)) c.if-not-done.false c.statement-next.ensures.turns in (
      c.statement-next.ensures.pass.0 ∙ kept.0,
      c.statement-next.ensures.pass.1 ∙ kept.1,
      c.statement-next.ensures.numbers,
      line_done c.args.session c.args.script.now.lines c.as_slice-step-items.result.now c.as_slice-step-items.ensures c.loop-step.step-index c.step-item.result c.loop-step-test.true c.step-item.is
          c.started_in.result c.started_in.ensures c.in-Some.text c.in-Some.is (entries_in old) kept.3 (entries_in new) adds,
      c.statement-next.ensures.free,
    )

pub returns-clause-numbers : goal.returns-clause-numbers
returns-clause-numbers g c = end_numbers c.args.session c.loop-step.pass.own c.end-pass.result.own c.loop-step.invariant.2 c.end-pass.ensures.own

pub returns-clause-turns : goal.returns-clause-turns
returns-clause-turns g c =
    let old = list_of c.args.session c.loop-step.pass.own in
    lines_ended c.args.session c.args.script.now.lines c.as_slice-step-items.result.now c.as_slice-step-items.ensures c.loop-step.step-index c.loop-step-test.false (entries_in old) (entries_in (list_of c.args.session c.end-pass.result.own))
    c.loop-step.invariant.3 (end_entries c.args.session c.loop-step.pass.own c.end-pass.result.own c.loop-step.invariant.2 c.end-pass.ensures.own)

pub statement-next-requires-clause-free : goal.statement-next-requires-clause-free
statement-next-requires-clause-free g c κs within = c.loop-step.invariant.4

pub returns-then-not-done-clause-free : goal.returns-then-not-done-clause-free
returns-then-not-done-clause-free g c = c.statement-next.ensures.free

pub end-pass-requires-clause-free : goal.end-pass-requires-clause-free
end-pass-requires-clause-free g c = c.loop-step.invariant.4

pub returns-clause-free : goal.returns-clause-free
returns-clause-free g c = end_free c.args.session c.loop-step.pass.own c.end-pass.result.own c.loop-step.invariant.2 c.end-pass.ensures.own
