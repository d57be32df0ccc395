use Rattle.group_log.proofs.Since.{since_step, since_floor, since_at_floor, since_log, new_ground}
use Rattle.group_log.proofs.followed_keeps_book.Goals as goal

pub returns-clause-new : goal.returns-clause-new
returns-clause-new c = new_ground

pub returns-clause-step : goal.returns-clause-step
returns-clause-step c = λ origin m after entry book made floor later room some sound taken j step moves after_taken.
    since_at_floor origin.begin origin.sizes.group_rows after made later (since_step origin m after entry book made room some (since_floor origin.begin origin.sizes.group_rows m book floor sound taken j) step moves) after_taken

pub returns-clause-log : goal.returns-clause-log
returns-clause-log c = λ origin log m book floor g x taken. since_at_floor origin.begin origin.sizes.group_rows m book floor (since_log origin log m book g x) taken
