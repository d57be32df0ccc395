use Rattle.std.proofs.Common.{◌≡◌, sym, ap, subst, ◌∙◌, rules, Some}
use Rattle.cs_types.specs.Schemas.{IsSchema}
use Rattle.cs_model.specs.declared.entry.Bound.{Bound}
use Rattle.cs_model.specs.Held.{AreFit}
use Rattle.cs_model.specs.Text.{IsPrintableReply}
use Rattle.group_directory.specs.declared.directory.Directory.{Directory}
use Rattle.group_directory.specs.Stands.{Stands}
use Rattle.cs_model.specs.State.{Half}
use Rattle.statement_core.specs.CoreState.{half_as, settings_of}
use Rattle.statement_core.specs.Outcomes.{told}
use Rattle.statement_core.specs.Settled.{Ends, IsDoneAt}
use Rattle.statement_core.proofs.Ending.{finishes}
use Rattle.statement_core.proofs.Finishing.{some_half, done_of}
use Rattle.statement_core.proofs.Stills.{still_same}
use Rattle.statement_core.proofs.finish.finish.Goals as goal

pub settle-requires-clause-done : goal.settle-requires-clause-done
settle-requires-clause-done c =
    let old = c.args.held.now in
    let mid = c.set_half.new.held in
    let half : Half = half_as c.in-Some.half in
    let begin = c.requires.done.0 in
    let changes = c.requires.done.1 in
    let same : c.deref.result.now ≡ c.in-Some.half.bound.value = search rules in (
      begin,
      changes,
      half,
      subst (λ (b : Bound). IsDoneAt begin changes mid c.args.session (record half { bound = b }) c.args.outcome) (sym same)
          (done_of begin changes old mid c.args.session half c.args.outcome (sym c.in-Some.ensures.was) c.in-Some.ensures.rest c.requires.done.2),
    )

pub returns-clause-finished : goal.returns-clause-finished
returns-clause-finished c = λ begin changes d.
    let old = c.args.held.now in
    let mid = c.set_half.new.held in
    let half : Half = half_as c.in-Some.half in
    let same : c.deref.result.now ≡ c.in-Some.half.bound.value = search rules in
    let still = still_same old mid c.in-Some.ensures.rest in
    let done = done_of begin changes old mid c.args.session half c.args.outcome (sym c.in-Some.ensures.was) c.in-Some.ensures.rest d in
    finishes begin changes old mid c.settle.new.held c.args.session half c.settle.result (sym c.in-Some.ensures.was) still.same (c.in-Some.ensures.state changes)
    (subst (λ (b : Bound). Ends begin.schema changes mid c.args.session (record half { bound = b }) c.settle.result c.settle.new.held) same
    (c.settle.ensures.ends begin changes half (subst (λ (b : Bound). IsDoneAt begin changes mid c.args.session (record half { bound = b }) c.args.outcome) (sym same) done)))

pub returns-clause-printable : goal.returns-clause-printable
returns-clause-printable c = λ changes half j fit is report.
    let made : Half = half_as c.in-Some.half in
    let same : c.deref.result.now ≡ c.in-Some.half.bound.value = search rules in
    let both : Some made ≡ Some half = c.in-Some.ensures.was ∙ is in
    let rest = sym c.in-Some.ensures.rest in
    subst (λ (d : Directory). IsPrintableReply d.schema.value c.settle.result) c.in-Some.ensures.rest
    (c.settle.ensures.printable changes (subst (λ (d : Directory). Stands d changes) rest j) (subst (λ (d : Directory). AreFit d.schema.value changes) rest fit)
    (same ∙ ap (λ (h : Half). h.bound) (some_half made half both) ∙ report))

pub returns-clause-given : goal.returns-clause-given
returns-clause-given c = λ given is. c.settle.ensures.given given is ∙ ap (λ seats. told (settings_of seats c.args.session) given) c.in-Some.ensures.settings

pub settle-requires-clause-table : goal.settle-requires-clause-table
settle-requires-clause-table c = subst (λ (d : Directory). IsSchema d.schema.value) (sym c.in-Some.ensures.rest) c.requires.table
