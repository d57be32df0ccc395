use Rattle.schedule_laws.proofs.Scripts.{script_one}
use Rattle.schedule_laws.proofs.one_text_is_one_script.Goals as goal

pub returns : goal.returns
returns c = λ mode bytes script other x y. script_one mode bytes script other x y
