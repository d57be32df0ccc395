use Rattle.std.proofs.Common.{◌∙◌}
use Rattle.script_reader.specs.Lines.{mover_form}
use Rattle.script_reader.proofs.form.mover_line.Goals as goal

pub returns-in-Some : goal.returns-in-Some
returns-in-Some c = c.mover_form.ensures ∙ c.in-Some.ensures mover_form
