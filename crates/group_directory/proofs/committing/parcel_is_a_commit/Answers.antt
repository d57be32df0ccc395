use Rattle.group_directory.proofs.WholeLemmas.{parcel_reordered, parcel_plain, origins_of_listed}
use Rattle.group_directory.proofs.committing.parcel_is_a_commit.Goals as goal

pub returns-clause-reordered : goal.returns-clause-reordered
returns-clause-reordered c = parcel_reordered

pub returns-clause-plain : goal.returns-clause-plain
returns-clause-plain c = parcel_plain

pub returns-clause-rows : goal.returns-clause-rows
returns-clause-rows c = origins_of_listed
