use Rattle.group_view.proofs.Tables.{rows_shown}
use Rattle.group_view.proofs.laws.shown_rows.Goals as goal

pub returns : goal.returns
returns c = λ width view changes s is shows reach most. rows_shown width view changes s is shows reach most
