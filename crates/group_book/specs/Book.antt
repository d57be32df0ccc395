-- The book of row groups: which versions of rows stand where, and which of them a snapshot sees.
use Rattle.std.specs.Prelude.{ℕ, ◌+◌, ◌&&◌, List, [], ◌∷◌, ◌++◌, length, Option, None, Some, Bool, true, false, is_some, not, nat_le, nat_lt, if◌then◌else◌}
use Rattle.std.specs.List.{list_any}
use Rattle.cs_types.specs.declared.Key.{Key}
use Rattle.cs_types.specs.Keys.{same_key}
use Rattle.cs_model.specs.declared.work.Actor.{Actor}

-- the end of a version, where it is recorded beside it: the number of a commit; or plain, which every snapshot sees
pub data End : Type 0 where
  At : ℕ → End
  Plain : End

-- a version of the row of a key, without its cells: the commit number from which it is seen, and its recorded end
pub record Version : Type 0 where
  pub key : Key
  pub begin : ℕ
  pub end : Option End

-- an entry of the delete buffer: at this commit number a version of the key ends
pub record Ending : Type 0 where
  pub key : Key
  pub end : ℕ

-- what a row group is: the delta store that takes rows, one that takes no more and waits, packed versions, the place of a
-- group that is being made, or the counts that are left of one
pub data Content : Type 0 where
  Opened : List Version → Content
  Closed : List Version → Content
  Compressed : List Version → Content
  Invisible : Content
  Tombstone : (versions ends : ℕ) → Content

pub record Group : Type 0 where
  pub id : ℕ
  pub content : Content

-- what a turn does
pub data Choice : Type 0 where
  Compress : (source : ℕ) → Choice
  Flush : Choice
  Rebuild : (source : ℕ) → Choice
  Merge : (first second : ℕ) → Choice
  Settle : Choice
  Clear : Choice
  Idle : Choice

-- what an actor has claimed: the groups that it works on; the id of the group that it makes, which a flush has none of; the
-- floor of the claim's moment; the versions of its sources as they stood then; and the entries that were the ends of these
pub record Claim : Type 0 where
  pub actor : Actor
  pub choice : Choice
  pub sources : List ℕ
  pub fresh : Option ℕ
  pub floor : ℕ
  pub lent : List Version
  pub entries : List Ending

-- all groups by id, the delete buffer, the claims, and the next id
pub record Book : Type 0 where
  pub groups : List Group
  pub buffer : List Ending
  pub claims : List Claim
  pub next : ℕ

-- a new table has no group
abbrev pub empty : Book
empty = record { groups = []; buffer = []; claims = []; next = 1 }

-- ---- versions

-- the versions of the open store
abbrev pub opened_in : Content → List Version
opened_in (Opened versions) = versions
opened_in (Closed versions) = []
opened_in (Compressed versions) = []
opened_in Invisible = []
opened_in (Tombstone versions ends) = []

-- the versions of a group that takes no more rows
abbrev pub frozen_in : Content → List Version
frozen_in (Opened versions) = []
frozen_in (Closed versions) = versions
frozen_in (Compressed versions) = versions
frozen_in Invisible = []
frozen_in (Tombstone versions ends) = []

abbrev pub opened : List Group → List Version
opened [] = []
opened (group ∷ groups) = opened_in group.content ++ opened groups

abbrev pub frozen : List Group → List Version
frozen [] = []
frozen (group ∷ groups) = frozen_in group.content ++ frozen groups

-- how many pass the test
abbrev pub how_many : {X : Type 0} → (X → Bool) → List X → ℕ
how_many test [] = 0
how_many test (x ∷ xs) = (if test x then 1 else 0) + how_many test xs

-- ---- what a snapshot sees

-- a recorded end is at most s
abbrev pub has_ended : ℕ → Option End → Bool
has_ended s None = false
has_ended s (Some (At end)) = nat_le end s
has_ended s (Some Plain) = true

-- an entry of the key lies above the begin and at most at s
abbrev pub is_buffered : List Ending → Key → ℕ → ℕ → Bool
is_buffered buffer key begin s = list_any (λ (entry : Ending). same_key key entry.key && (nat_lt begin entry.end && nat_le entry.end s)) buffer

-- the version is visible at s: it has begun, and neither a recorded end nor an entry of the buffer has ended it
abbrev pub is_visible : List Ending → ℕ → Version → Bool
is_visible buffer s version = nat_le version.begin s && (not (has_ended s version.end) && not (is_buffered buffer version.key version.begin s))

-- a version of the key that is visible at s
abbrev pub shows : List Ending → Key → ℕ → Version → Bool
shows buffer key s version = same_key key version.key && is_visible buffer s version

-- how many versions of the key are visible at s
abbrev pub shown_count : Book → Key → ℕ → ℕ
shown_count book key s = how_many (shows book.buffer key s) (opened book.groups) + how_many (shows book.buffer key s) (frozen book.groups)

-- ---- counts

-- the ends that are recorded beside versions
abbrev pub ended_count : List Version → ℕ
ended_count versions = how_many (λ version. is_some version.end) versions

-- the versions of a group, ended ones too
abbrev pub total : Content → ℕ
total (Opened versions) = length versions
total (Closed versions) = length versions
total (Compressed versions) = length versions
total Invisible = 0
total (Tombstone versions ends) = versions

abbrev pub deleted : Content → ℕ
deleted (Opened versions) = ended_count versions
deleted (Closed versions) = ended_count versions
deleted (Compressed versions) = ended_count versions
deleted Invisible = 0
deleted (Tombstone versions ends) = ends

-- ---- kinds of groups

abbrev pub is_opened : Content → Bool
is_opened (Opened versions) = true
is_opened (Closed versions) = false
is_opened (Compressed versions) = false
is_opened Invisible = false
is_opened (Tombstone versions ends) = false

abbrev pub is_closed : Content → Bool
is_closed (Opened versions) = false
is_closed (Closed versions) = true
is_closed (Compressed versions) = false
is_closed Invisible = false
is_closed (Tombstone versions ends) = false

abbrev pub is_compressed : Content → Bool
is_compressed (Opened versions) = false
is_compressed (Closed versions) = false
is_compressed (Compressed versions) = true
is_compressed Invisible = false
is_compressed (Tombstone versions ends) = false

abbrev pub is_invisible : Content → Bool
is_invisible (Opened versions) = false
is_invisible (Closed versions) = false
is_invisible (Compressed versions) = false
is_invisible Invisible = true
is_invisible (Tombstone versions ends) = false

abbrev pub is_tombstone : Content → Bool
is_tombstone (Opened versions) = false
is_tombstone (Closed versions) = false
is_tombstone (Compressed versions) = false
is_tombstone Invisible = false
is_tombstone (Tombstone versions ends) = true

-- ---- sums

-- over the groups that are no tombstones: their versions, ended ones too; and the ends that are recorded beside these
abbrev pub total_sum : List Group → ℕ
total_sum [] = 0
total_sum (group ∷ groups) = (if is_tombstone group.content then 0 else total group.content) + total_sum groups

abbrev pub deleted_sum : List Group → ℕ
deleted_sum [] = 0
deleted_sum (group ∷ groups) = (if is_tombstone group.content then 0 else deleted group.content) + deleted_sum groups
