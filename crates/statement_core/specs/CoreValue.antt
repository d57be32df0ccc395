-- What contracts see of a core.
use Rattle.std.specs.Prelude.{ℕ, List}
use Rattle.cs_types.specs.declared.Schema.{Schema}
use Rattle.cs_model.specs.declared.entry.Entry.{Entry}
use Rattle.cs_model.specs.declared.work.Actor.{Actor}
use Rattle.group_book.specs.Commits.{Sizes}
use Rattle.group_view.specs.declared.claim.Claim.{Claim}

-- its table, how large groups are, the log of its events, the sessions that it serves, and the claims that are out, with the
-- actors that hold them, the newest first
pub record CoreValue : Type 0 where
  pub schema : Schema
  pub sizes : Sizes
  pub log : List Entry
  pub sessions : List ℕ
  pub claims : List (Actor × Claim)
