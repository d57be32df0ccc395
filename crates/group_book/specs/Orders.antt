-- Books that are one up to the order of packed versions. A packed group has its rows in an order that makes them small, which
-- no event says: what an install or a commit makes is any book that is this one reordered. Events do not carry a reordering on,
-- since a claim lends versions in the order in which they stand.
use Rattle.std.specs.Prelude.{◌≡◌, List, All}
use Rattle.std.specs.List.{AllZip}
use Rattle.std.specs.List.Sorted.{IsPermutation}
use Rattle.group_book.specs.Book.{Version, Content, Group, Claim, Book, total, deleted}
use Rattle.group_book.specs.Book.Content.{Opened, Closed, Compressed, Invisible, Tombstone}
use Rattle.group_book.specs.Turns.{versions_of}
use Rattle.group_book.specs.States.{state_in}

-- the other content is the same, where packed versions may stand in another order
abbrev pub IsContentReordered : Content → Content → Type 0
IsContentReordered (Opened versions) other = other ≡ Opened versions
IsContentReordered (Closed versions) other = other ≡ Closed versions
IsContentReordered (Compressed versions) other = (moved : List Version) × IsPermutation versions moved × (other ≡ Compressed moved)
IsContentReordered Invisible other = other ≡ Invisible
IsContentReordered (Tombstone versions ends) other = other ≡ Tombstone versions ends

abbrev pub IsGroupReordered : Group → Group → Type 0
IsGroupReordered group other = (other.id ≡ group.id) × IsContentReordered group.content other.content

-- the other book has the same groups, up to the order of packed versions, and the same buffer, claims and next id; and what
-- claims lent stands as it stood: the versions of a claim's sources are in the same order
pub record IsReordered (book other : Book) : Type 0 where
  pub groups : AllZip IsGroupReordered book.groups other.groups
  pub buffer : other.buffer ≡ book.buffer
  pub claims : other.claims ≡ book.claims
  pub next : other.next ≡ book.next
  pub lent : All (λ (claim : Claim). versions_of claim.sources other.groups ≡ versions_of claim.sources book.groups) book.claims

-- two groups of the same id, state and counts
abbrev pub HasSameLine : Group → Group → Type 0
HasSameLine group other = (group.id ≡ other.id) × (state_in group.content ≡ state_in other.content) × (total group.content ≡ total other.content) × (deleted group.content ≡ deleted other.content)
