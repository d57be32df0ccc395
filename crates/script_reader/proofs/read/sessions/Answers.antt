use Rattle.std.proofs.Common.{sym, ◌∙◌, true, false, arith}
use Rattle.std.proofs.lemmas.List.{append-nil}
use Rattle.script_reader.specs.Scripts.{is_named}
use Rattle.script_reader.proofs.Sessions.{sessions_more, sessions_all}
use Rattle.script_reader.proofs.read.sessions.Goals.{then-named-session+in_ok-push, else-named-session}
use Rattle.script_reader.proofs.read.sessions.Goals as goal

pub loop-session-preserved : goal.loop-session-preserved
loop-session-preserved c = record {
  before = elim c.if-named-session.branch [
    | then-named-session+in_ok-push w ↦ sessions_more (is_named c.args.steps.now) c.loop-session.session true c.loop-session.sessions c.if-named-session.sessions c.loop-session.auto.session
        (sym (c.named-named.ensures c.loop-session.session (omega arith)) ∙ w.if-named-session.true) c.loop-session.invariant.before (w.sessions-is ∙ w.in_ok-push.ensures.ok)
    | else-named-session w ↦ sessions_more (is_named c.args.steps.now) c.loop-session.session false c.loop-session.sessions c.if-named-session.sessions c.loop-session.auto.session
        (sym (c.named-named.ensures c.loop-session.session (omega arith)) ∙ w.if-named-session.false) c.loop-session.invariant.before (w.sessions-is ∙ sym (append-nil c.loop-session.sessions))
  ];
}

pub returns : goal.returns
returns c = sessions_all c.args.steps.now c.loop-session.session c.loop-session.sessions c.loop-session.invariant.before (omega arith)
