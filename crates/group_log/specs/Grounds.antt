-- What a followed log may begin from.
use Rattle.std.specs.Prelude.{◌≡◌, ◌≤◌, []}
use Rattle.log_laws.specs.Laws.{MayBegin}
use Rattle.group_book.specs.Invariant.{IsBookOf}
use Rattle.group_log.specs.Followed.{Ground}

-- a log may begin with the state; a group takes at least one row, and so does a direct load; nobody has a claim; and the book is
-- one of the state's changes, at its floor: that is the clock, as no transaction is open
pub record IsGround (origin : Ground) : Type 0 where
  pub begin : MayBegin origin.begin
  pub group_rows : 1 ≤ origin.sizes.group_rows
  pub direct_rows : 1 ≤ origin.sizes.direct_rows
  pub unclaimed : origin.book.claims ≡ []
  pub book : IsBookOf origin.sizes.group_rows origin.book origin.begin.state.changes origin.begin.state.clock
