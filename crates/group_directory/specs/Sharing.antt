-- Shares of groups.
use Rattle.std.specs.Prelude.{◌≡◌, ◌==◌, ℕ, List, map, filter, slice_get, All, Option, None, Some, Bool, true, false}
use Rattle.group_book.specs.Turns.{is_id_of}
use Rattle.group_view.specs.declared.groups.Group.{Group}
use Rattle.group_view.specs.declared.groups.GroupList.{GroupList}
use Rattle.group_view.specs.declared.parts.GroupPart.{GroupPart}
use Rattle.group_view.specs.declared.view.GroupView.{GroupView}
use Rattle.group_view.specs.Parts.{packed_parts, IsFitting}
use Rattle.group_view.specs.Lists.{IsFittingContent}
use Rattle.group_view.specs.Seen.{Seen, seen, shows, entry_of, packed_seen, part_entry}

-- the group is one of these sources
abbrev pub picks : List ℕ → Seen → Bool
picks sources group = is_id_of sources group.group

abbrev pub is_number_of : Option ℕ → ℕ → Bool
is_number_of None id = false
is_number_of (Some source) id = source == id

-- the source at the place is this group
abbrev pub is_next : List ℕ → ℕ → ℕ → Bool
is_next sources next id = is_number_of (slice_get sources next) id

-- the sources are the ids of these groups, in their order, each once; and each is of a group that a view shows
pub record AreNamed (sources : List ℕ) (groups : List Seen) : Type 0 where
  pub ids : map (λ (group : Seen). let content = group.group in content.id) (filter (picks sources) groups) ≡ sources
  pub shown : All (λ (group : Seen). picks sources group ≡ true → shows group ≡ true) groups

-- ---- views

-- the other list has the same groups, rows, buffer, claims and next id; some of its stores may be shared now
pub record IsSameList (list other : GroupList) : Type 0 where
  pub seen : map seen other.groups.items ≡ map seen list.groups.items
  pub fitting : All (λ (group : Group). IsFittingContent group.content) other.groups.items
  pub opened : other.opened ≡ list.opened
  pub buffer : other.buffer.entries ≡ list.buffer.entries
  pub claims : other.claims.items ≡ list.claims.items
  pub next : other.next ≡ list.next

-- the parts are what a view shows of the groups that pass the test
pub record AreSharesOf (test : Seen → Bool) (list : GroupList) (parts : List (ℕ × GroupPart)) : Type 0 where
  pub groups : map part_entry parts ≡ map entry_of (filter test (map seen list.groups.items))
  pub packed : packed_parts parts ≡ packed_seen (filter test (map seen list.groups.items))
  pub fitting : All (λ (part : ℕ × GroupPart). IsFitting part.1) parts

-- the view shows the groups that pass the test, and the whole buffer
pub record IsViewOf (test : Seen → Bool) (list : GroupList) (least last : ℕ) (view : GroupView) : Type 0 where
  pub groups : map part_entry view.groups ≡ map entry_of (filter test (map seen list.groups.items))
  pub packed : packed_parts view.groups ≡ packed_seen (filter test (map seen list.groups.items))
  pub fitting : All (λ (part : ℕ × GroupPart). IsFitting part.1) view.groups
  pub buffer : view.buffer.value ≡ list.buffer.entries
  pub floor : view.floor ≡ least
  pub clock : view.clock ≡ last
