use Rattle.group_directory.proofs.StandLaws.{stands_new}
use Rattle.group_directory.proofs.standing.new_stands.Goals as goal

pub returns : goal.returns
returns c = stands_new
