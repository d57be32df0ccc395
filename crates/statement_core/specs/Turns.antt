-- The events of a turn, as the log before them has it: which work begins one, and which ends it.
use Rattle.std.specs.Prelude.{◌≡◌, ◌⊎◌, ℕ, List, [], ◌∷◌, Option, None, Some}
use Rattle.cs_model.specs.declared.entry.Entry.{Entry}
use Rattle.cs_model.specs.declared.entry.Entry.TheVariants.{Mover}
use Rattle.cs_model.specs.declared.work.Actor.{Actor}
use Rattle.cs_model.specs.declared.work.Work.{Work}
use Rattle.cs_model.specs.declared.work.Work.TheVariants.{Memory}
use Rattle.cs_model.specs.Floors.{IsFloor, snapshots}
use Rattle.group_book.specs.Book.{Choice, Claim}
use Rattle.group_book.specs.Choices.{choice, choice_work, install_work, release_work}
use Rattle.group_book.specs.Turns.{claim_by}
use Rattle.group_log.specs.Followed.{Ground, Moment}
use Rattle.group_view.specs.declared.claim.Claim as lent
use Rattle.group_directory.specs.Installing.{held_by}
use Rattle.statement_core.specs.declared.movers.Turned.{Turned}
use Rattle.statement_core.specs.Movers.{IsWorkOf}
use Rattle.statement_core.specs.Reorganizes.{HoldsAt}

-- these are all claims at the moment that the log leads to: in its book who holds none of them holds none
abbrev pub HasAllClaims : Ground → List Entry → List (Actor × lent.Claim) → Type 0
HasAllClaims origin log claims = HoldsAt origin (λ state book. (actor : Actor) → held_by actor claims ≡ None → claim_by actor book ≡ None) log

-- ---- the first event

-- the actor's work of its choice, or want of memory in the place of that; none where there is nothing to do
abbrev pub IsFirst : Actor → Option Work → List Entry → Type 0
IsFirst actor None piece = piece ≡ []
IsFirst actor (Some work) piece = (piece ≡ Mover actor work ∷ []) ⊎ (piece ≡ Mover actor Memory ∷ [])

-- the first event of a turn of an actor that holds no claim, by what it chooses at the moment and at its floor
pub record BeginsTurn (origin : Ground) (before : List Entry) (actor : Actor) (piece : List Entry) : Type 0 where
  pub moment : Moment origin before
  pub floor : ℕ
  pub is_floor : IsFloor (snapshots moment.state) (let state = moment.state in state.clock) floor
  pub free : claim_by actor moment.book ≡ None
  pub first : IsFirst actor (choice_work (choice floor origin.sizes.group_rows actor moment.book) floor moment.book) piece

-- the entry of an actor's work; none where there is no work
abbrev pub entry_of : Actor → Option Work → List Entry
entry_of actor None = []
entry_of actor (Some work) = Mover actor work ∷ []

-- such a first event with what its turn gave, which says what the event is
pub record TurnsTo (origin : Ground) (before : List Entry) (actor : Actor) (turned : Turned) (piece : List Entry) : Type 0 where
  pub moment : Moment origin before
  pub floor : ℕ
  pub is_floor : IsFloor (snapshots moment.state) (let state = moment.state in state.clock) floor
  pub free : claim_by actor moment.book ≡ None
  pub work : Option Work
  pub first : IsWorkOf (choice floor origin.sizes.group_rows actor moment.book) (choice_work (choice floor origin.sizes.group_rows actor moment.book) floor moment.book) turned work
  pub entry : piece ≡ entry_of actor work

-- ---- the last event

-- the work that ends a turn, of the claim that the actor holds at the moment; `ends` says which work: its install, or its release
pub record EndsBy (ends : Choice → Claim → Option Work) (origin : Ground) (before : List Entry) (actor : Actor) (piece : List Entry) : Type 0 where
  pub moment : Moment origin before
  pub claim : Claim
  pub held : claim_by actor moment.book ≡ Some claim
  pub work : Work
  pub of_claim : ends claim.choice claim ≡ Some work
  pub entry : piece ≡ Mover actor work ∷ []

-- who holds no claim at the moment has no turn to end
pub record HasNoTurn (origin : Ground) (before : List Entry) (actor : Actor) (piece : List Entry) : Type 0 where
  pub moment : Moment origin before
  pub free : claim_by actor moment.book ≡ None
  pub none : piece ≡ []

-- the last event of an actor's turn: the install of the claim that it holds, or its release; none where it holds no claim
abbrev pub EndsTurn : Ground → List Entry → Actor → List Entry → Type 0
EndsTurn origin before actor piece = EndsBy install_work origin before actor piece ⊎ EndsBy release_work origin before actor piece ⊎ HasNoTurn origin before actor piece
