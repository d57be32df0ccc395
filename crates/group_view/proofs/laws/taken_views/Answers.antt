use Rattle.group_view.proofs.Listed.{view_taken}
use Rattle.group_view.proofs.laws.taken_views.Goals as goal

pub returns : goal.returns
returns c = λ width list view changes within fitting taken rows. view_taken width list view changes within fitting taken rows
