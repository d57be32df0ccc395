use Rattle.std.proofs.Common.{sym, ◌∙◌}
use Rattle.script_reader.proofs.Forms.{form_short}
use Rattle.script_reader.proofs.Behind.{refused_line, refused_form}
use Rattle.script_reader.proofs.read.Reading.read.Goals as goal

pub returns-in-Some : goal.returns-in-Some
returns-in-Some c = λ before r. refused_line c.args.mode before c.args.line.now c.args.number c.bad.result c.in-Some.reason c.bad.ensures (sym c.in-Some.ensures)

pub add-requires-clause-short : goal.add-requires-clause-short
add-requires-clause-short c = rw c.in_ok-form.ensures.form (form_short c.args.line.now (sym c.line_reason.ensures ∙ c.in_default.is))

pub returns-in-Some-form_reason : goal.returns-in-Some-form_reason
returns-in-Some-form_reason c = λ before r.
    refused_form c.args.mode before c.args.line.now c.args.number c.bad-in-Some-form_reason.result c.in-Some-form_reason.reason c.in_ok-form.form c.bad-in-Some-form_reason.ensures (sym c.line_reason.ensures ∙ c.in_default.is) c.in_ok-form.ensures.form
    (sym (c.in-Some-form_reason.ensures.reason before r))
