-- What a log shows of a claim.
use Rattle.std.specs.Prelude.{ℕ, Option}
use Rattle.cs_model.specs.declared.work.Actor.{Actor}
use Rattle.group_book.specs.Book.{Choice, Claim}

-- its actor, its kind with the groups that this names, and the id of the group that it makes
pub record Deal : Type 0 where
  pub actor : Actor
  pub choice : Choice
  pub fresh : Option ℕ

abbrev pub deal_of : Claim → Deal
deal_of claim = record { actor = claim.actor; choice = claim.choice; fresh = claim.fresh }
