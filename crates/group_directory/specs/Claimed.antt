-- What the turn of an actor asks of a directory, and what it gives.
use Rattle.std.specs.Prelude.{◌≡◌, ◌⊎◌, ℕ, List, [], ◌∷◌, All, None, true}
use Rattle.cs_types.specs.declared.Schema.{Schema}
use Rattle.cs_model.specs.declared.work.Actor.{Actor}
use Rattle.cs_model.specs.Changes.{Change}
use Rattle.cs_model.specs.Floors.{IsFloor}
use Rattle.txn_table.specs.Txns.{txn_of, snapshots_in}
use Rattle.group_book.specs.Book.{Choice, Book}
use Rattle.group_book.specs.Book.Choice.{Flush, Settle, Clear, Idle}
use Rattle.group_book.specs.Choices.{choice, flushable, settling_count, tombstone_count, after_choice}
use Rattle.group_book.specs.Invariant.{makes_group}
use Rattle.group_book.specs.Turns.{claim_by}
use Rattle.group_view.specs.declared.claim.Claim.{Claim}
use Rattle.group_view.specs.declared.groups.GroupList.{GroupList}
use Rattle.group_view.specs.declared.parts.GroupPart.{GroupPart}
use Rattle.group_view.specs.Parts.{IsFitting}
use Rattle.group_view.specs.Views.{endings_of, buffer_of}
use Rattle.group_view.specs.Books.{choice_of, claim_of, book_of}
use Rattle.group_view.specs.Claims.{IsPackedPart}
use Rattle.group_directory.specs.declared.claims.Turn.{Turn}
use Rattle.group_directory.specs.declared.directory.Directory.{Directory}
use Rattle.group_directory.specs.declared.movers.Claimed.{Claimed}
use Rattle.group_directory.specs.declared.movers.Claimed.TheVariants.{Lent, Settled, Cleared, Nothing}
use Rattle.group_directory.specs.Claiming.{IsShareOf}
use Rattle.group_directory.specs.Stands.{IsLoanOf}

-- the turn is of an actor that holds no claim: its choice, at the directory's floor and clock
pub record IsTurnOf (directory : Directory) (turn : Turn) : Type 0 where
  pub at_floor : IsFloor (snapshots_in (txn_of directory.txns)) directory.clock turn.floor
  pub at_clock : turn.clock ≡ directory.clock
  pub chosen : choice_of turn.choice ≡ choice turn.floor directory.sizes.group_rows turn.actor (book_of directory.list)
  pub none : claim_by turn.actor (book_of directory.list) ≡ None

-- the claim is of the moment of this choice: its view has the floor, the clock and the whole buffer; a flush has the entries that
-- end versions of its groups, and what makes a group has none. Its floor, its new id, its groups and what these had are said by the
-- claim of the book
pub record IsOfMoment (made : Choice) (floor clock : ℕ) (before : Book) (claim : Claim) : Type 0 where
  pub at_floor : claim.view.floor ≡ floor
  pub at_clock : claim.view.clock ≡ clock
  pub buffer : buffer_of claim.view ≡ before.buffer
  pub none : makes_group made ≡ true → claim.entries ≡ []
  pub flush : made ≡ Flush → endings_of claim.entries ≡ flushable before

-- what a choice gives at a floor and a clock: a claim of the moment where there are groups to work on, which is the newest claim of
-- the book; and the numbers of the ends that became plain and of the tombstones that are gone
abbrev pub Gives : Choice → ℕ → ℕ → Actor → (before after : Book) → Claimed → Type 0
Gives made floor clock actor before after (Lent claim) =
    ((makes_group made ≡ true) ⊎ (made ≡ Flush)) × (choice_of claim.choice ≡ made) × (after.claims ≡ claim_of (actor, claim) ∷ before.claims)
    × IsOfMoment made floor clock before claim
Gives made floor clock actor before after (Settled number) = (made ≡ Settle) × (number ≡ settling_count floor before)
Gives made floor clock actor before after (Cleared number) = (made ≡ Clear) × (number ≡ tombstone_count before)
Gives made floor clock actor before after Nothing = made ≡ Idle

-- a claim that is lent shares what the list keeps, which comes first; and nothing else changes of the claims
abbrev pub KeepsClaim : Actor → (before after : GroupList) → Claimed → Type 0
KeepsClaim actor before after (Lent claim) = (kept : Claim) × (after.claims.items ≡ (actor, kept) ∷ before.claims.items) × IsShareOf kept claim
KeepsClaim actor before after (Settled number) = after.claims.items ≡ before.claims.items
KeepsClaim actor before after (Cleared number) = after.claims.items ≡ before.claims.items
KeepsClaim actor before after Nothing = after.claims.items ≡ before.claims.items

-- what is lent fits, and is what a claim of the table keeps; a flush is lent packed groups alone
abbrev pub IsSound : Schema → List Change → Actor → Claimed → Type 0
IsSound schema changes actor (Lent claim) =
    All (λ (part : ℕ × GroupPart). IsFitting part.1) claim.view.groups
    × IsLoanOf schema changes (actor, claim)
    × (choice_of claim.choice ≡ Flush → All (λ (part : ℕ × GroupPart). IsPackedPart part.1) claim.view.groups)
IsSound schema changes actor (Settled number) = Unit {0}
IsSound schema changes actor (Cleared number) = Unit {0}
IsSound schema changes actor Nothing = Unit {0}

-- the turn of this choice took the directory from one book to the next, and gave this
pub record IsTaken (made : Choice) (floor : ℕ) (actor : Actor) (old new : Directory) (claimed : Claimed) : Type 0 where
  pub book : book_of new.list ≡ after_choice made floor actor (book_of old.list)
  pub gives : Gives made floor old.clock actor (book_of old.list) (book_of new.list) claimed
  pub claims : KeepsClaim actor old.list new.list claimed
