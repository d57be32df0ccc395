-- What a session knows between the Start of a statement and its Finish.
use Rattle.std.specs.Prelude.{◌≡◌, ℕ, List}
use Rattle.cs_model.specs.declared.entry.Entry.{Entry}
use Rattle.cs_model.specs.State.{Begin}
use Rattle.group_book.specs.Book.{empty}
use Rattle.group_book.specs.Commits.{Sizes}
use Rattle.log_laws.specs.Started.{Begun, IsStarted}
use Rattle.statement_core.specs.declared.started.Started.{Started}
use Rattle.statement_core.specs.Begun.{Hands, MayWork}
use Rattle.statement_core.specs.Counted.{HasStartCounts}
use Rattle.statement_core.specs.Reorganizes.{reorganizes, HasLedger}
use Rattle.statement_core.specs.Terms.{sizes_of, AreTerms}

-- a session has begun a statement, and what was started is handed what its work stands on, with the groups of its Start; a
-- REORGANIZE has done nothing yet
pub record Awaits (sizes : Sizes) (begin : Begin) (log : List Entry) (session : ℕ) (started : Started) : Type 0 where
  pub terms : AreTerms started.terms.value
  pub sized : sizes_of started.terms.value ≡ sizes
  pub begun : Begun
  pub hands : Hands begun started
  pub works : MayWork begun
  pub is : IsStarted begin log session begun
  pub counts : HasStartCounts (record { begin = begin; sizes = sizes; book = empty }) log session started
  pub ledger : HasLedger (record { begin = begin; sizes = sizes; book = empty }) log session (reorganizes started.bound.value) started.ledger
