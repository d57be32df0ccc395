-- What a REORGANIZE has done so far, and what a turn of it adds.
use Rattle.std.specs.Prelude.{◌≡◌, ◌⊎◌, ◌+◌, ℕ, List, [], ◌∷◌, ◌++◌, Bool, false}
use Rattle.std.specs.List.{list_any}
use Rattle.cs_model.specs.declared.entry.Entry.{Entry}
use Rattle.cs_model.specs.declared.entry.Entry.TheVariants.{Mover}
use Rattle.cs_model.specs.declared.work.Actor.TheVariants.{Session}
use Rattle.cs_model.specs.declared.work.Work.{Work}
use Rattle.group_log.specs.Followed.{Ground}
use Rattle.group_log.specs.Reorganizing.{begins_turn, closed_by, closed_ids, closed_in, from_start, most_turns, begun_turns, works_of, HasLooked, IsHalfDone, IsIdle, Saw}
use Rattle.cs_model.specs.Works.{lacks_memory}
use Rattle.statement_core.specs.Course.{Course}

-- the REORGANIZE that the session has half done made no work up to `from`; after its works since then these turns are left and these
-- stores are marked, and memory was not wanting
pub record IsCourse (origin : Ground) (session : ℕ) (from behind : List Entry) (course : Course) : Type 0 where
  pub half : IsHalfDone origin (from ++ behind) session
  pub more : List Entry
  pub begins : from ≡ from_start half.begun ++ more
  pub goes : (half.begun).behind ≡ more ++ behind
  pub none : works_of session more ≡ []
  pub all : half.all ≡ course.all
  pub turns : course.turns + begun_turns (works_of session behind) ≡ most_turns half.book
  pub marked : course.marked ≡ closed_ids half.book ++ closed_in (works_of session behind)
  pub well : list_any lacks_memory (works_of session behind) ≡ false

-- and it has looked for the open store, where it is to close that
pub record IsTurning (origin : Ground) (session : ℕ) (from behind : List Entry) (course : Course) : Type 0 where
  pub is : IsCourse origin session from behind course
  pub looked : HasLooked origin session course.all from behind

-- and it has stopped: it has made all its turns, or after its last work there was a moment at which its choice was Idle
pub record HasStopped (origin : Ground) (session : ℕ) (from behind : List Entry) (course : Course) : Type 0 where
  pub turning : IsTurning origin session from behind course
  pub stopped : (course.turns ≡ 0) ⊎ Saw origin (IsIdle origin.sizes session) session from behind []

-- the work begins a turn, or ends one; memory was not wanting, and it closes no store
pub record IsTurnWork (first : Bool) (w : Work) : Type 0 where
  pub begins : begins_turn w ≡ first
  pub well : lacks_memory w ≡ false
  pub closes : closed_by w ≡ []

-- the entries are one such work of the session
pub record IsTurnOf (session : ℕ) (first : Bool) (piece : List Entry) : Type 0 where
  pub work : Work
  pub is : IsTurnWork first work
  pub entry : piece ≡ Mover (Session session) work ∷ []
