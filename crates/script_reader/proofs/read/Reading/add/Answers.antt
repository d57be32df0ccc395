use Rattle.std.proofs.Common.{refl, ◌∙◌}
use Rattle.script_reader.proofs.Behind.{quiet_read, setup_read, step_read, refused_text, handed_line}
use Rattle.script_reader.proofs.read.Reading.add.Goals as goal

pub returns-in_err-schema_of-in-Setup : goal.returns-in_err-schema_of-in-Setup
returns-in_err-schema_of-in-Setup c = λ mode before line r none is. handed_line c.from_residual.result _ _ c.in_err-schema_of-in-Setup.field-0.0 c.from_residual.ensures.1
    (refused_text mode before line c.in-Setup.text c.args.number c.in_err-schema_of-in-Setup.field-0.0 (rw c.as_slice.ensures at c.in_err-schema_of-in-Setup.ensures.refused) none (is ∙ c.in-Setup.is))

pub returns-in_ok-schema_of-in-Setup : goal.returns-in_ok-schema_of-in-Setup
returns-in_ok-schema_of-in-Setup c = λ mode before line r none is.
    setup_read mode before line c.args.self.now r none c.in-Setup.text c.in_ok-schema_of-in-Setup.field-0 _ (is ∙ c.in-Setup.is) (rw c.as_slice.ensures at c.in_ok-schema_of-in-Setup.ensures.found) refl refl refl

pub returns-in_ok-push-in-Ask : goal.returns-in_ok-push-in-Ask
returns-in_ok-push-in-Ask c = λ mode before line r none is.
    step_read mode before line c.args.self.now r none c.in-Ask.step c.push.new.self (is ∙ c.in-Ask.is) c.in_ok-push-in-Ask.ensures.setup c.in_ok-push-in-Ask.ensures.lines c.in_ok-push-in-Ask.ensures.marked

pub returns-in-Skipped : goal.returns-in-Skipped
returns-in-Skipped c = λ mode before line r none is. quiet_read mode before line c.args.self.now r none c.args.form is c.in-Skipped.is
