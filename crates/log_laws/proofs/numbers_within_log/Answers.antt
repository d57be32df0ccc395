use Rattle.log_laws.proofs.Numbers.{small, clock_later}
use Rattle.log_laws.proofs.numbers_within_log.Goals as goal

pub returns-clause-next : goal.returns-clause-next
returns-clause-next c = λ begin log m l. (small begin log m l).0

pub returns-clause-clock : goal.returns-clause-clock
returns-clause-clock c = λ begin log m l. (small begin log m l).1

pub returns-clause-later : goal.returns-clause-later
returns-clause-later c = λ begin log m l. clock_later begin begin.state m log l
