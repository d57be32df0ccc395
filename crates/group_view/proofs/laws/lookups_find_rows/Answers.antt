use Rattle.group_view.proofs.Looked.{looked_found, looked_none}
use Rattle.group_view.proofs.laws.lookups_find_rows.Goals as goal

pub returns-clause-found : goal.returns-clause-found
returns-clause-found c = λ width view changes key s place is shows reach most there. looked_found width view changes key s is shows reach most place there

pub returns-clause-none : goal.returns-clause-none
returns-clause-none c = λ width view changes key s is shows reach most hidden. looked_none width view changes key s is shows reach most hidden
