use Rattle.std.proofs.Common.{◌≡◌, subst}
use Rattle.std.specs.Prelude.{IfOk}
use Rattle.script_reader.specs.Lines.{session_form}
use Rattle.script_reader.proofs.form.session_line.Goals as goal

pub returns-in-Some : goal.returns-in-Some
returns-in-Some c = subst (λ f. IfOk c.session_form.result (λ form. form ≡ f)) (c.in-Some.ensures session_form) c.session_form.ensures
