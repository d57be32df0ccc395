use Rattle.group_directory.proofs.InstallStands.{claim_held}
use Rattle.group_directory.proofs.installs.actors_hold_alike.Goals as goal

pub returns : goal.returns
returns c = claim_held
