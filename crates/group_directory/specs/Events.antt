-- What the events of a list of groups ask for, and what they do to its rows.
use Rattle.std.specs.Prelude.{◌≡◌, List, Option, None, Some, All, true}
use Rattle.cs_model.specs.declared.work.Actor.{Actor}
use Rattle.group_book.specs.Book.{Group, Claim, Book, is_invisible}
use Rattle.group_book.specs.Turns.{is_fresh, claim_by}

-- the group that the claim makes is still invisible
abbrev pub IsHiddenBy : List Group → Option Claim → Type 0
IsHiddenBy groups None = Unit {0}
IsHiddenBy groups (Some claim) = All (λ (group : Group). is_fresh claim.fresh group ≡ true → is_invisible group.content ≡ true) groups

-- the group that the actor's claim makes is still invisible
abbrev pub MakesHidden : Actor → Book → Type 0
MakesHidden actor book = IsHiddenBy book.groups (claim_by actor book)
