-- The state of the row model that the core's fields stand for, beside the committed changes.
use Rattle.std.specs.Prelude.{◌≡◌, ◌<◌, ◌+◌, ◌^◌, ℕ, List, [], ◌==◌, Bool, true, false, Option, None, Some}
use Rattle.cs_model.specs.declared.work.Actor.{Actor}
use Rattle.cs_model.specs.Changes.{Change}
use Rattle.cs_model.specs.State.{Txn, Half, State}
use Rattle.group_book.specs.Book.{Book}
use Rattle.group_view.specs.declared.claim.Claim.{Claim}
use Rattle.group_view.specs.Books.{book_of}
use Rattle.group_directory.specs.Obstacles.{txns_of}
use Rattle.group_directory.specs.Stands.{Stands}
use Rattle.statement_core.specs.Seats.{seat}
use Rattle.statement_core.specs.declared.core_state.HalfDone.{HalfDone}
use Rattle.statement_core.specs.declared.core_state.CoreState.{CoreState}

-- a half-done statement as the row model has it, and where there is one
abbrev pub half_as : HalfDone → Half
half_as half = record { bound = half.bound.value; short = half.short; note = half.note }

abbrev pub half_in : Option HalfDone → Option Half
half_in None = None
half_in (Some half) = Some (half_as half)

abbrev pub halves_of : List (Option HalfDone) → ℕ → Option Half
halves_of seats session = half_in (seat seats session)

-- a setting is off until it is made
abbrev pub is_on : Option Bool → Bool
is_on None = false
is_on (Some on) = on

abbrev pub settings_of : List (Option Bool) → ℕ → Bool
settings_of seats session = is_on (seat seats session)

abbrev pub state_of : List Change → CoreState → State
state_of changes held = let directory = held.directory in record {
  changes = changes;
  clock = directory.clock;
  txns = txns_of directory.txns;
  half = halves_of held.halves;
  statistics = settings_of held.settings;
  next = directory.txns.next;
}

-- the book of its row groups
abbrev pub groups_of : CoreState → Book
groups_of held = let directory = held.directory in book_of directory.list

-- the claims that are out, with the actors that hold them
abbrev pub claims_of : CoreState → List (Actor × Claim)
claims_of held = let list = held.directory.list.claims in list.items

-- the session has a seat, and no number runs over
pub record IsWithin (held : CoreState) (session : ℕ) : Type 0 where
  pub seat : session < 65
  pub clock : held.directory.clock + 1 < 2 ^ 64
  pub next : held.directory.txns.next + 1 < 2 ^ 64

-- the groups, the claims, what the core was made with and the clock are as before
pub record IsSame (old new : CoreState) : Type 0 where
  pub claims : claims_of new ≡ claims_of old
  pub groups : groups_of new ≡ groups_of old
  pub sizes : new.directory.sizes ≡ old.directory.sizes
  pub schema : new.directory.schema ≡ old.directory.schema
  pub clock : new.directory.clock ≡ old.directory.clock

-- and the core stands for the same changes
pub record IsStill (old new : CoreState) : Type 0 where
  pub stands : (changes : List Change) → Stands old.directory changes → Stands new.directory changes
  pub same : IsSame old new

-- a transaction that ends with its statement has written nothing before it
abbrev pub IsBare : Option Txn → Type 0
IsBare None = Unit {0}
IsBare (Some txn) = (txn.depth == 0) ≡ true → txn.own ≡ []
