-- What a claim lends, and how a list keeps it.
use Rattle.std.specs.Prelude.{◌≡◌, ℕ, ◌+◌, List, [], ◌∷◌, ◌++◌, map, All, Option, None, Some}
use Rattle.cs_types.specs.declared.Key.{Key}
use Rattle.cs_types.specs.declared.Schema.{Schema}
use Rattle.group_view.specs.declared.claim.Claim.{Claim}
use Rattle.group_view.specs.declared.groups.Group.{Group}
use Rattle.group_view.specs.declared.groups.GroupContent.TheVariants.{Invisible}
use Rattle.group_view.specs.declared.groups.GroupList.{GroupList}
use Rattle.group_view.specs.Lists.{IsFittingContent}
use Rattle.group_directory.specs.declared.claims.Turn.{Turn}
use Rattle.group_directory.specs.Claiming.{IsShareOf}
use Rattle.group_view.specs.Seen.{seen}
use Rattle.group_directory.specs.Sharing.{picks, IsViewOf}

-- the claim lends these groups of the list, with its buffer and these entries
pub record Lends (schema : Schema) (turn : Turn) (fresh : Option ℕ) (sources : List ℕ) (lent : List (Key × ℕ)) (list : GroupList) (claim : Claim) : Type 0 where
  pub choice : claim.choice ≡ turn.choice
  pub made : claim.fresh ≡ fresh
  pub floor : claim.floor ≡ turn.floor
  pub of_table : claim.schema.value ≡ schema
  pub view : IsViewOf (picks sources) list turn.floor turn.clock claim.view
  pub entries : claim.entries ≡ lent

-- the place of a new group, if one is made
abbrev pub place_of : Option ℕ → List Group
place_of None = []
place_of (Some id) = record { id = id; content = Invisible } ∷ []

abbrev pub next_after : Option ℕ → ℕ → ℕ
next_after None next = next
next_after (Some id) next = next + 1

-- the list keeps a new claim of these groups, which comes first, and the place of the group that it makes; what is lent shares
-- that claim. Of other groups some stores may be shared now
pub record Keeps (schema : Schema) (turn : Turn) (fresh : Option ℕ) (sources : List ℕ) (entries : List (Key × ℕ)) (list other : GroupList) (lent : Claim) : Type 0 where
  pub kept : Claim
  pub lends : Lends schema turn fresh sources entries list kept
  pub share : IsShareOf kept lent
  pub claims : other.claims.items ≡ (turn.actor, kept) ∷ list.claims.items
  pub seen_groups : map seen other.groups.items ≡ map seen (list.groups.items ++ place_of fresh)
  pub fitting : All (λ (group : Group). IsFittingContent group.content) other.groups.items
  pub opened : other.opened ≡ list.opened
  pub buffer : other.buffer.entries ≡ list.buffer.entries
  pub next : other.next ≡ next_after fresh list.next
