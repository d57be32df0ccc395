use Rattle.script_reader.proofs.Grammar.{form_sound, form_whole}
use Rattle.script_reader.proofs.form.form_of.Goals as goal

pub returns-clause-sound : goal.returns-clause-sound
returns-clause-sound c = form_sound c.args.line.now

pub returns-clause-whole : goal.returns-clause-whole
returns-clause-whole c = λ form is. form_whole c.args.line.now form is
