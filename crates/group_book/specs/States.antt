-- The states of a group, and which follow each other.
use Rattle.std.specs.Prelude.{◌≡◌, ◌≢◌, ℕ, ◌<◌, ◌≤◌, ◌⊎◌, ◌==◌, List, [], ◌∷◌, Contains, if◌then◌else◌}
use Rattle.group_book.specs.Book.{Content, Group, Book}
use Rattle.group_book.specs.Book.Content.{Opened, Closed, Compressed, Invisible, Tombstone}

-- none, before a group is there and after it has gone; then as in a report
pub data State : Type 0 where
  Absent : State
  IsOpen : State
  IsClosed : State
  IsCompressed : State
  IsInvisible : State
  IsTombstone : State

abbrev pub state_in : Content → State
state_in (Opened versions) = IsOpen
state_in (Closed versions) = IsClosed
state_in (Compressed versions) = IsCompressed
state_in Invisible = IsInvisible
state_in (Tombstone versions ends) = IsTombstone

-- the state of the group of this id
abbrev pub state_of : List Group → ℕ → State
state_of [] id = Absent
state_of (group ∷ groups) id = if group.id == id then state_in group.content else state_of groups id

-- what a mover's event makes of a group that it changes
abbrev pub mover_transitions : List (State × State)
mover_transitions =
    (Absent, IsInvisible)
    ∷ (IsInvisible, IsCompressed)
    ∷ (IsInvisible, Absent)
    ∷ (IsClosed, IsTombstone)
    ∷ (IsCompressed, IsTombstone)
    ∷ (IsTombstone, Absent)
    ∷ []

-- what a commit makes of a group that it changes: it opens stores and fills them, one commit both, and loads rows directly
abbrev pub commit_transitions : List (State × State)
commit_transitions = (Absent, IsOpen) ∷ (IsOpen, IsClosed) ∷ (Absent, IsClosed) ∷ (Absent, IsCompressed) ∷ []

-- what a close makes of the open store
abbrev pub close_transitions : List (State × State)
close_transitions = (IsOpen, IsClosed) ∷ []

-- from the first book to the second each group stays in its state, or makes one of these transitions; the next id does not
-- fall, and an id that gets a group is drawn on the way: it is at least the old next id, and below the new one
pub record GroupsMoveBy (transitions : List (State × State)) (before after : Book) : Type 0 where
  pub each : (id : ℕ) → (state_of before.groups id ≡ state_of after.groups id) ⊎ Contains transitions (state_of before.groups id, state_of after.groups id)
  pub next : before.next ≤ after.next
  pub drawn : (id : ℕ) → state_of before.groups id ≡ Absent → state_of after.groups id ≢ Absent → (before.next ≤ id) × (id < after.next)
