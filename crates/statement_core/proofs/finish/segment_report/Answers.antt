use Rattle.std.proofs.Common.{sym, ap, ◌∙◌, inl, inr}
use Rattle.cs_model.specs.declared.entry.Bound.TheVariants.{SegmentReport}
use Rattle.cs_model.specs.declared.entry.Refusal.TheVariants.{Memory}
use Rattle.cs_model.specs.State.{State}
use Rattle.cs_model.specs.Steps.{refused, replied}
use Rattle.statement_core.specs.CoreState.{state_of}
use Rattle.statement_core.proofs.States.{segments_kept}
use Rattle.statement_core.proofs.finish.segment_report.Goals as goal

pub returns-in-Ok-clause-settles : goal.returns-in-Ok-clause-settles
returns-in-Ok-clause-settles c = λ schema changes half. record {
  reply = inr c.in-Ok.ensures.report;
  state = c.look_at_segments.ensures.state changes ∙ segments_kept schema (state_of changes c.args.held.now) c.args.session c.in-Ok.reply c.in-Ok.ensures.report;
}

pub returns-in-Err-clause-settles : goal.returns-in-Err-clause-settles
returns-in-Err-clause-settles c = λ schema changes half. record {
  reply = inl c.refuse.ensures.reply;
  state = c.refuse.ensures.state changes ∙ ap (λ (x : State). refused x c.args.session Memory) (c.look_at_segments.ensures.state changes)
      ∙ ap (replied schema (state_of changes c.args.held.now) c.args.session SegmentReport) (sym c.refuse.ensures.reply);
}
