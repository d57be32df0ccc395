-- Books that are one but for the order of packed versions, also of those that claims lent: so are any two to which one log leads.
use Rattle.std.specs.Prelude.{◌≡◌, List, Bool, Option, None, Some}
use Rattle.std.specs.declared.alloc.Global.{Global}
use Rattle.std.specs.declared.sync.Arc.{Arc}
use Rattle.std.specs.List.{AllZip}
use Rattle.std.specs.List.Sorted.{IsPermutation}
use Rattle.cs_model.specs.declared.entry.Bound.{Bound}
use Rattle.cs_model.specs.declared.entry.Entry.{Entry}
use Rattle.cs_model.specs.declared.entry.Entry.TheVariants.{Start, Finish, End, Mover}
use Rattle.cs_model.specs.declared.entry.Reply.{Reply}
use Rattle.group_book.specs.Book.{Version, Claim, Book}
use Rattle.group_book.specs.Orders.{IsGroupReordered}

-- the other claim is the same, where what it lent may stand in another order
abbrev pub IsClaimShuffled : Claim → Claim → Type 0
IsClaimShuffled claim other = (moved : List Version) × IsPermutation claim.lent moved × (other ≡ record claim { lent = moved })

-- the other book has the same groups, up to the order of packed versions, the same claims, up to the order of what they lent, and
-- the same buffer and next id
pub record IsShuffled (book other : Book) : Type 0 where
  pub groups : AllZip IsGroupReordered book.groups other.groups
  pub buffer : other.buffer ≡ book.buffer
  pub claims : AllZip IsClaimShuffled book.claims other.claims
  pub next : other.next ≡ book.next

-- there is neither claim, or both are there and the other is the same up to the order of what it lent
abbrev pub AreClaimsShuffled : Option Claim → Option Claim → Type 0
AreClaimsShuffled None None = Unit {0}
AreClaimsShuffled None (Some other) = ⊥
AreClaimsShuffled (Some claim) None = ⊥
AreClaimsShuffled (Some claim) (Some other) = IsClaimShuffled claim other

-- the other entry is one of the same actor: a Start or a Finish, with whatever statement or reply, the End or the same work
abbrev pub IsSameEvent : Entry → Entry → Type 0
IsSameEvent (Start session bound short) other = (started : Arc Bound Global) × (lacks : Bool) × (other ≡ Start session started lacks)
IsSameEvent (Finish session reply) other = (told : Reply) × (other ≡ Finish session told)
IsSameEvent (End session) other = other ≡ End session
IsSameEvent (Mover actor work) other = other ≡ Mover actor work
