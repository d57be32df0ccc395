use Rattle.group_view.proofs.Tables.{still_shown}
use Rattle.group_view.proofs.laws.stays_shown.Goals as goal

pub returns : goal.returns
returns c = λ width view changes later above shows. still_shown width view changes later above shows
