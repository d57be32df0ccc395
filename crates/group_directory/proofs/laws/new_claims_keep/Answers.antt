use Rattle.group_directory.proofs.GroupLaws.{loan_made, loan_shared}
use Rattle.group_directory.proofs.laws.new_claims_keep.Goals as goal

pub returns-clause-made : goal.returns-clause-made
returns-clause-made c = λ directory changes actor claim test sources j. loan_made directory changes j actor claim test sources

pub returns-clause-share : goal.returns-clause-share
returns-clause-share c = loan_shared
