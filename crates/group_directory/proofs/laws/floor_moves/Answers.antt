use Rattle.std.proofs.Common.{Some, sym}
use Rattle.txn_table.specs.Txns.{with, opened, deepened, widened, snapshots_in}
use Rattle.group_directory.proofs.FloorLaws.{floor_there, floor_same, snapshots_same, snapshot-deepened, snapshot-widened, floor_low, floor_fixed, floor_ended, floor_risen}
use Rattle.group_directory.proofs.laws.floor_moves.Goals as goal

pub returns-clause-there : goal.returns-clause-there
returns-clause-there c = floor_there

pub returns-clause-same : goal.returns-clause-same
returns-clause-same c = floor_same

pub returns-clause-opened : goal.returns-clause-opened
returns-clause-opened c = λ txns clock floor session number depth none f. floor_same (snapshots_in txns) (snapshots_in (with txns session (Some (opened number depth)))) clock floor (snapshots_same txns session (Some (opened number depth)) (sym none)) f

pub returns-clause-deepened : goal.returns-clause-deepened
returns-clause-deepened c = λ txns clock floor session depth f. floor_same (snapshots_in txns) (snapshots_in (with txns session (deepened depth (txns session)))) clock floor (snapshots_same txns session (deepened depth (txns session)) (snapshot-deepened depth (txns session))) f

pub returns-clause-widened : goal.returns-clause-widened
returns-clause-widened c = λ txns clock floor session writes f. floor_same (snapshots_in txns) (snapshots_in (with txns session (widened writes (txns session)))) clock floor (snapshots_same txns session (widened writes (txns session)) (snapshot-widened writes (txns session))) f

pub returns-clause-fixed : goal.returns-clause-fixed
returns-clause-fixed c = λ txns changes clock floor session j f. floor_fixed txns clock floor session j.snapshots f

pub returns-clause-ended : goal.returns-clause-ended
returns-clause-ended c = λ txns changes clock now floor later session rises j f g. floor_ended txns clock floor session j.snapshots f now later rises g

pub returns-clause-risen : goal.returns-clause-risen
returns-clause-risen c = floor_risen

pub returns-clause-low : goal.returns-clause-low
returns-clause-low c = λ txns changes clock floor j f. floor_low txns clock floor 0 j.snapshots f
