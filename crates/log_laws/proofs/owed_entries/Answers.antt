use Rattle.log_laws.proofs.Room.{room_start, room_finish, room_end, owed_at_most}
use Rattle.log_laws.proofs.owed_entries.Goals as goal

pub returns-clause-starts : goal.returns-clause-starts
returns-clause-starts c = λ sessions log session b short d has e. room_start sessions log session b short d has e

pub returns-clause-finishes : goal.returns-clause-finishes
returns-clause-finishes c = λ sessions log session reply d has e. room_finish sessions log session reply d has e

pub returns-clause-ends : goal.returns-clause-ends
returns-clause-ends c = λ sessions log session d has e n. room_end sessions log session d has e n

pub returns-clause-most : goal.returns-clause-most
returns-clause-most c = λ sessions log. owed_at_most sessions log
