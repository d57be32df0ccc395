-- What is kept true between the book, the committed changes and the floor.
use Rattle.std.specs.Prelude.{◌≡◌, ◌≢◌, ℕ, ◌<◌, ◌≤◌, ◌⊎◌, ◌&&◌, ◌==◌, List, [], ◌∷◌, ◌++◌, length, Option, None, Some, Bool, true, false, is_some, not, nat_le, All, AllPairs, if◌then◌else◌}
use Rattle.std.specs.List.{AllByRecursion, list_any}
use Rattle.std.specs.List.Sorted.{IsNonDecreasingBy}
use Rattle.cs_types.specs.declared.Key.{Key}
use Rattle.cs_model.specs.declared.work.Actor.{Actor}
use Rattle.cs_model.specs.Changes.{Change, last_change}
use Rattle.group_book.specs.Book.{Version, Ending, Content, Group, Choice, Claim, Book, how_many, is_opened, is_closed, is_compressed, is_invisible}
use Rattle.group_book.specs.Book.Content.{Opened, Closed, Compressed, Invisible, Tombstone}
use Rattle.group_book.specs.Book.Choice.{Compress, Flush, Rebuild, Merge, Settle, Clear, Idle}
use Rattle.group_book.specs.Turns.{holds, versions_of, is_id_of, is_fresh, is_gone, made_of, spent_of, is_claimed, is_by, claim_by, claim_of}
use Rattle.group_book.specs.Choices.{flush_sources}
use Rattle.group_book.specs.Stocks.{next_change, is_after, is_end_of, stock_of, IsStockOf}

-- ---- the groups

abbrev pub begins_of : Version → ℕ
begins_of version = version.begin

-- how many versions a group has; in stores begins do not fall along them
abbrev pub IsSized : ℕ → Content → Type 0
IsSized group_rows (Opened versions) = (1 ≤ length versions) × (length versions < group_rows) × IsNonDecreasingBy begins_of versions
IsSized group_rows (Closed versions) = (1 ≤ length versions) × (length versions ≤ group_rows) × IsNonDecreasingBy begins_of versions
IsSized group_rows (Compressed versions) = (1 ≤ length versions) × (length versions ≤ group_rows)
IsSized group_rows Invisible = Unit {0}
IsSized group_rows (Tombstone versions ends) = Unit {0}

-- each id is below those after it
abbrev pub AreById : List Group → Type 0
AreById [] = Unit {0}
AreById (group ∷ groups) = AllByRecursion (λ (other : Group). group.id < other.id) groups × AreById groups

-- groups stand by id, below the next one; at most one is the open store
pub record AreGroups (group_rows : ℕ) (book : Book) : Type 0 where
  pub by_id : AreById book.groups
  pub below : All (λ (group : Group). group.id < book.next) book.groups
  pub one : how_many (λ (group : Group). is_opened group.content) book.groups ≤ 1
  pub sized : All (λ (group : Group). IsSized group_rows group.content) book.groups

-- ---- the claims

abbrev pub may_be_source : Choice → Content → Bool
may_be_source (Compress source) content = is_closed content
may_be_source Flush content = is_compressed content
may_be_source (Rebuild source) content = is_compressed content
may_be_source (Merge first second) content = is_compressed content
may_be_source Settle content = false
may_be_source Clear content = false
may_be_source Idle content = false

-- a flush makes no group
abbrev pub makes_group : Choice → Bool
makes_group (Compress source) = true
makes_group Flush = false
makes_group (Rebuild source) = true
makes_group (Merge first second) = true
makes_group Settle = false
makes_group Clear = false
makes_group Idle = false

-- the groups that the kind names are the sources; a flush has some; settle, clear and idle claim nothing
abbrev pub AreSourcesOf : Choice → List ℕ → Type 0
AreSourcesOf (Compress source) sources = sources ≡ source ∷ []
AreSourcesOf Flush sources = 1 ≤ length sources
AreSourcesOf (Rebuild source) sources = sources ≡ source ∷ []
AreSourcesOf (Merge first second) sources = sources ≡ first ∷ second ∷ []
AreSourcesOf Settle sources = ⊥
AreSourcesOf Clear sources = ⊥
AreSourcesOf Idle sources = ⊥

-- what was lent stands as it stood: the sources' versions with their recorded ends; and each lent entry, which is still in the
-- buffer and the next change of one of them. What had ended at the claim's floor is what its next change says; and the entries
-- of the buffer that go with those versions are exactly the ones at most that floor that are the next change of a lent version,
-- so that an end that was not lent is an entry above that floor
pub record IsLent (book : Book) (changes : List Change) (claim : Claim) : Type 0 where
  pub versions : versions_of claim.sources book.groups ≡ claim.lent
  pub gone : All (λ (version : Version). is_gone claim.floor claim.entries version ≡ not (is_after claim.floor (next_change changes version.key version.begin))) claim.lent
  pub spent : All (λ (entry : Ending). holds (spent_of claim) entry.key entry.end ≡ (nat_le entry.end claim.floor && list_any (is_end_of changes entry) claim.lent)) book.buffer
  pub held : (key : Key) (end : ℕ) → holds claim.entries key end ≡ true → holds book.buffer key end ≡ true
  pub owned : All (λ (entry : Ending). list_any (is_end_of changes entry) claim.lent ≡ true) claim.entries

abbrev pub IsThere : List Group → ℕ → Type 0
IsThere groups id = list_any (λ (group : Group). group.id == id) groups ≡ true

-- a claim: its floor is at most the present one; its sources are those that its kind names, and are there, of the state that
-- its kind asks for; the group that it makes is the invisible one of its id; and what it keeps of the lent versions fits a group
pub record IsClaim (group_rows : ℕ) (book : Book) (changes : List Change) (floor : ℕ) (claim : Claim) : Type 0 where
  pub below : claim.floor ≤ floor
  pub kind : AreSourcesOf claim.choice claim.sources
  pub there : All (IsThere book.groups) claim.sources
  pub sources : All (λ (group : Group). is_id_of claim.sources group ≡ true → may_be_source claim.choice group.content ≡ true) book.groups
  pub makes : is_some claim.fresh ≡ makes_group claim.choice
  pub fresh : All (λ (group : Group). is_fresh claim.fresh group ≡ true → is_invisible group.content ≡ true) book.groups
  pub once : how_many (is_fresh claim.fresh) book.groups ≡ (if makes_group claim.choice then 1 else 0)
  pub lent : IsLent book changes claim
  pub room : makes_group claim.choice ≡ true → length (made_of claim) ≤ group_rows

abbrev pub joined : (Claim → List ℕ) → List Claim → List ℕ
joined f [] = []
joined f (claim ∷ claims) = f claim ++ joined f claims

abbrev pub fresh_in : Option ℕ → List ℕ
fresh_in None = []
fresh_in (Some id) = id ∷ []

-- an actor has at most one claim, a group is the source of at most one, and each invisible group is made by one
pub record AreClaims (group_rows : ℕ) (book : Book) (changes : List Change) (floor : ℕ) : Type 0 where
  pub actors : (actor : Actor) → how_many (is_by actor) book.claims ≤ 1
  pub sources : AllPairs (λ x y. x ≢ y) (joined (λ claim. claim.sources) book.claims)
  pub fresh : AllPairs (λ x y. x ≢ y) (joined (λ claim. fresh_in claim.fresh) book.claims)
  pub made : All (λ (group : Group). is_invisible group.content ≡ true → list_any (λ (claim : Claim). is_fresh claim.fresh group) book.claims ≡ true) book.groups
  pub each : All (IsClaim group_rows book changes floor) book.claims

-- ---- the invariant

-- the book is one of these changes, at this floor
pub record IsBookOf (group_rows : ℕ) (book : Book) (changes : List Change) (floor : ℕ) : Type 0 where
  pub stock : IsStockOf (stock_of book) changes floor
  pub groups : AreGroups group_rows book
  pub claims : AreClaims group_rows book changes floor

-- an actor may take these groups for such work: it holds no claim; the groups are those that the kind names, there, each named
-- once, of the state that the kind asks for, and no claim has them
pub record MayTake (book : Book) (actor : Actor) (choice : Choice) (sources : List ℕ) : Type 0 where
  pub none : claim_by actor book ≡ None
  pub kind : AreSourcesOf choice sources
  pub distinct : AllPairs (λ x y. x ≢ y) sources
  pub there : All (IsThere book.groups) sources
  pub free : All (λ (group : Group). is_id_of sources group ≡ true → (may_be_source choice group.content ≡ true) × (is_claimed book.claims group ≡ false)) book.groups

-- and it may claim them, to make one group of them: what would be kept of their versions fits a group
pub record MayClaim (group_rows : ℕ) (book : Book) (floor : ℕ) (actor : Actor) (choice : Choice) (sources : List ℕ) : Type 0 where
  pub takes : MayTake book actor choice sources
  pub makes : makes_group choice ≡ true
  pub room : length (made_of (claim_of actor choice sources (Some book.next) floor book)) ≤ group_rows

-- an actor may do what its turn chose: claim the groups that a compress, a rebuild or a merge names, or take those that a flush
-- has entries for; settle, clear and idle take none
abbrev pub MayDo : ℕ → Book → ℕ → Actor → Choice → Type 0
MayDo group_rows book floor actor (Compress source) = MayClaim group_rows book floor actor (Compress source) (source ∷ [])
MayDo group_rows book floor actor Flush = MayTake book actor Flush (flush_sources book)
MayDo group_rows book floor actor (Rebuild source) = MayClaim group_rows book floor actor (Rebuild source) (source ∷ [])
MayDo group_rows book floor actor (Merge first second) = MayClaim group_rows book floor actor (Merge first second) (first ∷ second ∷ [])
MayDo group_rows book floor actor Settle = Unit {0}
MayDo group_rows book floor actor Clear = Unit {0}
MayDo group_rows book floor actor Idle = Unit {0}

-- ---- what a snapshot sees, by the table

-- the version stems from the last change of its key at s, which has a row: the last one at its begin is that one too, so the
-- version's row is the table's. Its begin is that change's number, or both are at most the floor
pub record IsSeenAt (changes : List Change) (floor s : ℕ) (version : Version) : Type 0 where
  pub change : Change
  pub is_last : last_change version.key s changes ≡ Some change
  pub stems : last_change version.key version.begin changes ≡ Some change
  pub row : is_some change.edit.1 ≡ true
  pub begin : (version.begin ≡ change.commit) ⊎ ((version.begin ≤ floor) × (change.commit ≤ floor))
