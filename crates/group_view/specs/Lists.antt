-- What is kept true of a list of groups, whatever it stands for, and which of its groups a view shows.
use Rattle.std.specs.Prelude.{ℕ, All}
use Rattle.cs_model.specs.declared.work.Actor.{Actor}
use Rattle.group_view.specs.declared.claim.Claim.{Claim}
use Rattle.group_view.specs.declared.groups.Group.{Group}
use Rattle.group_view.specs.declared.groups.GroupList.{GroupList}
use Rattle.group_view.specs.Parts.{IsFitting}
pub use Rattle.group_view.specs.Contents.{is_open, is_listed, listed, packed_content, packed_of, packed_in, IsFittingContent, IsOpenAt}

-- bitmaps fit their groups, the open store stands where it is looked for, and what claims lend fits
pub record IsHeld (list : GroupList) : Type 0 where
  pub fitting : All (λ (group : Group). IsFittingContent group.content) list.groups.items
  pub opened : IsOpenAt list.groups.items list.opened
  pub lent : All (λ (held : Actor × Claim). All (λ (group : ℕ × _). IsFitting group.1) held.1.view.groups) list.claims.items
