use Rattle.std.proofs.Common.{sym, ap, subst, ◌∙◌}
use Rattle.cs_model.specs.declared.entry.Bound.{Bound}
use Rattle.cs_model.specs.Kinds.{kind_of}
use Rattle.statement_core.specs.CoreState.{state_of}
use Rattle.statement_core.specs.Settled.{Settles}
use Rattle.statement_core.proofs.finish.plain.Goals as goal

pub returns-in-Begin-clause-settles : goal.returns-in-Begin-clause-settles
returns-in-Begin-clause-settles c = λ schema changes half.
    subst (λ (b : Bound). Settles schema (state_of changes c.args.held.now) c.args.session (record half { bound = b }) c.begin.result (state_of changes c.begin.new.held)) (sym c.in-Begin.is) (c.begin.ensures.settles schema changes half)

pub returns-in-Rollback-clause-settles : goal.returns-in-Rollback-clause-settles
returns-in-Rollback-clause-settles c = λ schema changes half.
    subst (λ (b : Bound). Settles schema (state_of changes c.args.held.now) c.args.session (record half { bound = b }) c.rollback.result (state_of changes c.rollback.new.held)) (sym c.in-Rollback.is) (c.rollback.ensures.settles schema changes half)

pub returns-in-Statistics-clause-settles : goal.returns-in-Statistics-clause-settles
returns-in-Statistics-clause-settles c = λ schema changes half.
    subst (λ (b : Bound). Settles schema (state_of changes c.args.held.now) c.args.session (record half { bound = b }) c.statistics.result (state_of changes c.statistics.new.held)) (sym c.in-Statistics.is) (c.statistics.ensures.settles schema changes half)

pub returns-in-GroupReport-clause-settles : goal.returns-in-GroupReport-clause-settles
returns-in-GroupReport-clause-settles c = λ schema changes half.
    subst (λ (b : Bound). Settles schema (state_of changes c.args.held.now) c.args.session (record half { bound = b }) c.group_report.result (state_of changes c.group_report.new.held)) (sym c.in-GroupReport.is) (c.group_report.ensures.settles schema changes half)

pub returns-in-SegmentReport-clause-settles : goal.returns-in-SegmentReport-clause-settles
returns-in-SegmentReport-clause-settles c = λ schema changes half.
    subst (λ (b : Bound). Settles schema (state_of changes c.args.held.now) c.args.session (record half { bound = b }) c.segment_report.result (state_of changes c.segment_report.new.held)) (sym c.in-SegmentReport.is) (c.segment_report.ensures.settles schema changes half)

pub returns-in-Begin-clause-shows : goal.returns-in-Begin-clause-shows
returns-in-Begin-clause-shows c = λ changes j k. absurd (cc (sym (ap kind_of c.in-Begin.is) ∙ k))

pub returns-in-Rollback-clause-shows : goal.returns-in-Rollback-clause-shows
returns-in-Rollback-clause-shows c = λ changes j k. absurd (cc (sym (ap kind_of c.in-Rollback.is) ∙ k))

pub returns-in-Nothing-clause-shows : goal.returns-in-Nothing-clause-shows
returns-in-Nothing-clause-shows c = λ changes j k. absurd (cc (sym (ap kind_of c.in-Nothing.is) ∙ k))

pub returns-in-Statistics-clause-shows : goal.returns-in-Statistics-clause-shows
returns-in-Statistics-clause-shows c = λ changes j k. absurd (cc (sym (ap kind_of c.in-Statistics.is) ∙ k))

pub returns-in-GroupReport-clause-shows : goal.returns-in-GroupReport-clause-shows
returns-in-GroupReport-clause-shows c = λ changes j k. let held = c.args.held.now in c.group_report.ensures.shows held.directory.schema.value changes

pub returns-in-SegmentReport-clause-shows : goal.returns-in-SegmentReport-clause-shows
returns-in-SegmentReport-clause-shows c = λ changes j k. c.segment_report.ensures.shows changes j

pub returns-in-SegmentReport-clause-printable : goal.returns-in-SegmentReport-clause-printable
returns-in-SegmentReport-clause-printable c = λ changes j fit k. c.segment_report.ensures.printable changes j fit
