use Rattle.log_laws.proofs.Beginnings.{may_begin}
use Rattle.log_laws.proofs.Sound.{sound_step, sound_from}
use Rattle.log_laws.proofs.sound_states.Goals as goal

pub returns-clause-starts : goal.returns-clause-starts
returns-clause-starts c = λ schema. may_begin schema

pub returns-clause-step : goal.returns-clause-step
returns-clause-step c = λ begin m after entry p step. sound_step begin m entry after step p

pub returns-clause-log : goal.returns-clause-log
returns-clause-log c = λ begin log m p l. sound_from begin begin.state m log l p
