use Rattle.reorganize_laws.proofs.Alike.{alike_state, one_log}
use Rattle.reorganize_laws.proofs.one_log_shows_one_book.Goals as goal

pub returns-clause-states : goal.returns-clause-states
returns-clause-states c = λ origin log m n book other g x y. alike_state book other (one_log origin log m n book other g x y)

pub returns-clause-claims : goal.returns-clause-claims
returns-clause-claims c = λ origin log m n book other g x y. (one_log origin log m n book other g x y).deals

pub returns-clause-next : goal.returns-clause-next
returns-clause-next c = λ origin log m n book other g x y. (one_log origin log m n book other g x y).next
