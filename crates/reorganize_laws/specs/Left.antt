-- What a REORGANIZE makes of the closed stores that it finds.
use Rattle.std.specs.Prelude.{◌≡◌, ◌⊎◌, ℕ, ◌≤◌, ◌^◌, List, false, Contains}
use Rattle.cs_model.specs.declared.entry.Entry.{Entry}
use Rattle.cs_model.specs.declared.entry.Entry.TheVariants.{Mover}
use Rattle.cs_model.specs.declared.work.Actor.{Actor}
use Rattle.cs_model.specs.declared.work.Actor.TheVariants as actor
use Rattle.cs_model.specs.declared.work.Work.{Work}
use Rattle.cs_model.specs.declared.work.Work.TheVariants as work
use Rattle.group_book.specs.Book.{Book}
use Rattle.group_book.specs.States.{state_of}
use Rattle.group_book.specs.States.State.{IsOpen, IsClosed}
use Rattle.group_book.specs.Turns.{same_actor}
use Rattle.group_log.specs.Followed.{Ground}
use Rattle.group_log.specs.Reorganizing.{works_of, LeavesGroups}

-- a REORGANIZE that began at this book and made these works found the group: it was a closed store then, or the open one, which it
-- closed itself
abbrev pub IsFound : Book → List Work → ℕ → Type 0
IsFound start works id = (state_of start.groups id ≡ IsClosed) ⊎ ((state_of start.groups id ≡ IsOpen) × Contains works (work.Close id))

-- the group is told as left, with another actor
pub record IsTold (left : List (ℕ × Actor)) (session id : ℕ) : Type 0 where
  pub by : Actor
  pub other : same_actor by (actor.Session session) ≡ false
  pub listed : Contains left (id, by)

-- another actor gave the group back as it was
pub record IsGivenBack (entries : List Entry) (session id : ℕ) : Type 0 where
  pub by : Actor
  pub other : same_actor by (actor.Session session) ≡ false
  pub fresh : ℕ
  pub stands : Contains entries (Mover by (work.ReleaseCompress id fresh))

-- of the stores that it found, one that is still a closed store at its last look is told as left, or was given back by another
-- since its Start; all others are compressed. This is so while group ids last: where the next one is above 2^62, no turn compresses
abbrev pub CompressesWhatItFound : (origin : Ground) (log : List Entry) (session : ℕ) (left : List (ℕ × Actor)) → LeavesGroups origin log session left → Type 0
CompressesWhatItFound origin log session left leaving =
    leaving.leaves.moment.book.next ≤ 2 ^ 62
    → (id : ℕ) → IsFound leaving.half.book (works_of session leaving.half.begun.behind) id → state_of leaving.leaves.moment.book.groups id ≡ IsClosed
    → IsTold left session id ⊎ IsGivenBack leaving.half.begun.behind session id
