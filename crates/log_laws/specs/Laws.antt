-- What every state that a legal log leads to meets.
use Rattle.std.specs.Prelude.{◌≡◌, ◌≢◌, ℕ, ◌<◌, ◌≤◌, List, [], ◌∷◌, length, filter, All, ◌==◌, ◌&&◌, true, false, Option, None, Some}
use Rattle.std.specs.List.Sorted.{IsNonDecreasingBy, IsStrictlySortedBy}
use Rattle.cs_types.specs.declared.Key.{Key}
use Rattle.cs_types.specs.Keys.{key_cmp, same_key}
use Rattle.cs_model.specs.Changes.{Edit, Change, newest}
use Rattle.cs_model.specs.State.{Txn, Half, State, Begin}
use Rattle.cs_model.specs.Kinds.{is_of_table}
use Rattle.cs_model.specs.Obstacles.{keys_of, owns, is_above}
use Rattle.log_laws.specs.Frames.{SnapIn, IsDrawn, IsPinned}

-- each value stands once
abbrev pub AreDistinct : List ℕ → Type 0
AreDistinct [] = Unit {0}
AreDistinct (x ∷ xs) = All (λ y. x ≢ y) xs × AreDistinct xs

-- no two open transactions own one key
abbrev pub AreOwners : State → Type 0
AreOwners m = (a b : ℕ) (key : Key) → (a == b) ≡ false → owns (m.txns a) key ≡ true → owns (m.txns b) key ≡ false

-- every change's commit number is at most the clock
abbrev pub NumberedBelow : State → Type 0
NumberedBelow m = All (λ (change : Change). change.commit ≤ m.clock) m.changes

-- every change's transaction is numbered below the next one
abbrev pub DrawnBelow : State → Type 0
DrawnBelow m = All (λ (change : Change). change.txn < m.next) m.changes

-- commit numbers do not fall along the changes
abbrev pub CommitsAscend : State → Type 0
CommitsAscend m = IsNonDecreasingBy (λ (change : Change). change.commit) m.changes

-- a commit changes a key once: what it changed of this key
abbrev pub changes_at : ℕ → Key → List Change → List Change
changes_at commit key changes = filter (λ (change : Change). (change.commit == commit) && same_key key change.edit.0) changes

abbrev pub AreOnce : State → Type 0
AreOnce m = (commit : ℕ) (key : Key) → length (changes_at commit key m.changes) ≤ 1

-- own writes are by key, one for each key
abbrev pub IsByKey : Option Txn → Type 0
IsByKey None = Unit {0}
IsByKey (Some txn) = IsStrictlySortedBy key_cmp (keys_of txn.own)

-- a key that the transaction has written has no change above its snapshot; without a snapshot it has written none
abbrev pub IsUnchanged : List Change → Option Txn → Type 0
IsUnchanged changes None = Unit {0}
IsUnchanged changes (Some txn) = (key : Key) → owns (Some txn) key ≡ true → is_above (newest key changes) txn.snapshot ≡ false

-- what a transaction without a snapshot has written: nothing
abbrev pub WritesPinned : Option ℕ → List Edit → Type 0
WritesPinned None own = own ≡ []
WritesPinned (Some s) own = Unit {0}

abbrev pub IsPinnedWriter : Option Txn → Type 0
IsPinnedWriter None = Unit {0}
IsPinnedWriter (Some txn) = WritesPinned txn.snapshot txn.own

-- a statement of the table that is half done, and whose Start found memory, has a transaction with a snapshot
abbrev pub IsPinnedHalf : Option Half → Option Txn → ℕ → Type 0
IsPinnedHalf None txn clock = Unit {0}
IsPinnedHalf (Some half) txn clock = is_of_table half.bound ≡ true → half.short ≡ false → IsPinned txn clock

-- what each state of a legal log meets, where the one that it begins with does
pub record IsSound (m : State) : Type 0 where
  pub owners : AreOwners m
  pub drawn : (session : ℕ) → IsDrawn (m.txns session) m.next
  pub txns : DrawnBelow m
  pub snapshots : (session : ℕ) → SnapIn (m.txns session) m.clock
  pub commits : NumberedBelow m
  pub ascend : CommitsAscend m
  pub once : AreOnce m
  pub by_key : (session : ℕ) → IsByKey (m.txns session)
  pub pinned : (session : ℕ) → IsPinnedWriter (m.txns session)
  pub unchanged : (session : ℕ) → IsUnchanged m.changes (m.txns session)
  pub halves : (session : ℕ) → IsPinnedHalf (m.half session) (m.txns session) m.clock

-- what a log may begin with: a state that meets all this, with no transaction open, no statement half done and no setting on
pub record MayBegin (begin : Begin) : Type 0 where
  pub sound : IsSound begin.state
  pub closed : (session : ℕ) → begin.state.txns session ≡ None
  pub rests : (session : ℕ) → begin.state.half session ≡ None
  pub settings : (session : ℕ) → begin.state.statistics session ≡ false
