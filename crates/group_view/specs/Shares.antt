-- What views share of the groups of a list.
use Rattle.std.specs.Prelude.{◌≡◌, ◌≢◌, ℕ, ◌+◌, ◌*◌, List, map, filter, take, drop, slice_get, All, Option, None, Some, true, false}
use Rattle.std.specs.declared.alloc.Global.{Global}
use Rattle.std.specs.declared.sync.Arc.{Arc}
use Rattle.std.specs.declared.vec.Vec.{Vec}
use Rattle.group_view.specs.declared.groups.Group.{Group}
use Rattle.group_view.specs.declared.groups.GroupContent.{GroupContent}
use Rattle.group_view.specs.declared.parts.GroupPart.{GroupPart}
use Rattle.group_view.specs.Parts.{rowed_in, packed_part, packed_parts, IsFitting}
use Rattle.group_view.specs.Contents.{rowed_in_content, is_listed, packed_content, IsFittingContent}
use Rattle.group_view.specs.Seen.{Seen, shows, entry_of, packed_seen, part_entry}

-- what contracts see of the groups of a list: the groups by id, and how many find room in all without memory
pub record Grouped : Type 0 where
  pub items : List Group
  pub room : ℕ

-- the part is what a view shows of the group, none where it shows nothing of it
abbrev pub IsPartOf : GroupContent → Option GroupPart → Type 0
IsPartOf content None = is_listed content ≡ false
IsPartOf content (Some part) = (is_listed content ≡ true) × (rowed_in part ≡ rowed_in_content content) × (IsFittingContent content → IsFitting part)
    × ((id : ℕ) → packed_part (id, part) ≡ packed_content id content)

-- the parts are what a view shows of these groups
pub record IsShareOf (groups : List Seen) (parts : List (ℕ × GroupPart)) : Type 0 where
  pub entries : map part_entry parts ≡ map entry_of (filter shows groups)
  pub packed : packed_parts parts ≡ packed_seen (filter shows groups)
  pub fitting : All (λ (part : ℕ × GroupPart). IsFitting part.1) parts

-- parts that views share
abbrev pub Share : Type 0
Share = Arc (Vec (ℕ × GroupPart) Global) Global

abbrev pub parts_of : Share → List (ℕ × GroupPart)
parts_of share = share.value.items

-- of a list in chunks of 128 the chunk c
abbrev pub chunk_in : {X : Type 0} → ℕ → List X → List X
chunk_in c list = drop (128 * c) (take (128 * c + 128) list)

-- each share is what a view shows of its chunk
abbrev pub AreShared : List Seen → List (Option Share) → Type 0
AreShared groups shares = (c : ℕ) (share : Share) → slice_get shares c ≡ Some (Some share) → IsShareOf (chunk_in c groups) (parts_of share)

-- the lists have the same chunks, but for one
abbrev pub HaveOthers : ℕ → List Seen → List Seen → Type 0
HaveOthers chunk old new = (c : ℕ) → c ≢ chunk → chunk_in c new ≡ chunk_in c old
