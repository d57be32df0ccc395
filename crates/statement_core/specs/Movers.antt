-- What the calls of movers give and take.
use Rattle.std.specs.Prelude.{◌≡◌, ◌⊎◌, ℕ, List, ◌∷◌, Option, None, Some, IsSome, true}
use Rattle.cs_model.specs.declared.work.Actor.{Actor}
use Rattle.cs_model.specs.declared.work.Work.{Work}
use Rattle.cs_model.specs.declared.work.Work.TheVariants.{Memory}
use Rattle.group_book.specs.Book.{Choice, Book}
use Rattle.group_book.specs.Book.Choice.{Flush, Settle, Clear}
use Rattle.group_book.specs.Choices.{after_choice, choice_work}
use Rattle.group_book.specs.Invariant.{makes_group}
use Rattle.group_view.specs.declared.claim.Claim.{Claim}
use Rattle.group_view.specs.declared.claim.Product.{Product}
use Rattle.group_view.specs.Books.{choice_of}
use Rattle.group_view.specs.Claims.{IsMendable, IsProductOf}
use Rattle.group_directory.specs.Claiming.{IsShareOf}
use Rattle.statement_core.specs.declared.movers.Turned.{Turned}
use Rattle.statement_core.specs.declared.movers.Turned.TheVariants.{Lent, Alone, Short, Idle}

-- the kind of a claim: it makes a group, or is a flush
abbrev pub IsOfWork : Choice → Type 0
IsOfWork made = (makes_group made ≡ true) ⊎ (made ≡ Flush)

-- the kind of a turn that is one event
abbrev pub IsAlone : Choice → Type 0
IsAlone made = (made ≡ Settle) ⊎ (made ≡ Clear)

-- The work of a turn's first event, by what the turn gave: what is lent is of the kind chosen, and its work is that of the choice; so is
-- the work of a turn that is one event; want of memory stands in the place of a work; and there is nothing to do exactly where the
-- choice has no work.
abbrev pub IsWorkOf : Choice → Option Work → Turned → Option Work → Type 0
IsWorkOf made chosen (Lent claim) work = (choice_of claim.choice ≡ made) × IsOfWork made × IsSome work × (chosen ≡ work)
IsWorkOf made chosen Alone work = IsAlone made × IsSome work × (chosen ≡ work)
IsWorkOf made chosen Short work = IsSome chosen × (work ≡ Some Memory)
IsWorkOf made chosen Idle work = (chosen ≡ None) × (work ≡ None)

-- the book after the first event of a turn, which the choice moves unless memory was wanting
abbrev pub after_first : Choice → ℕ → Actor → Book → Turned → Book
after_first made floor actor book (Lent claim) = after_choice made floor actor book
after_first made floor actor book Alone = after_choice made floor actor book
after_first made floor actor book Short = book
after_first made floor actor book Idle = book

-- the first event of a turn by what it gave, and the book after it
abbrev pub IsFirstOf : Choice → ℕ → Actor → Book → Turned → Option Work → Book → Type 0
IsFirstOf made floor actor book turned work after = IsWorkOf made (choice_work made floor book) turned work × (after ≡ after_first made floor actor book turned)

-- what the first event of an actor's turn makes of the claims: what is lent is a share of a new claim, which comes first, and can
-- be worked on
abbrev pub GivesTurn : Actor → List (Actor × Claim) → List (Actor × Claim) → Turned → Type 0
GivesTurn actor old new (Lent claim) = (kept : Claim) × (new ≡ (actor, kept) ∷ old) × IsShareOf kept claim × IsMendable claim
GivesTurn actor old new Alone = new ≡ old
GivesTurn actor old new Short = new ≡ old
GivesTurn actor old new Idle = new ≡ old

-- a claim is held, and the product is what the work on a share of it gave
abbrev pub IsMended : Option (Actor × Claim) → Product → Type 0
IsMended None product = ⊥
IsMended (Some held) product = (lent : Claim) × IsShareOf held.1 lent × IsProductOf lent product
