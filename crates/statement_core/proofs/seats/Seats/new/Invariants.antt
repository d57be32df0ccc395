use Rattle.std.proofs.Common.{◌≡◌, ℕ, All, length, None}
use Rattle.statement_core.proofs.seats.Seats.new.Given as goal

-- so many seats, and all are empty
pub record Empty (so_many now : ℕ) (all : Type 0) : Type 0 where
  pub count : so_many ≡ now
  pub empty : all

abbrev pub invariant-loop : goal.invariant-loop
invariant-loop g l = Empty (length l.seats) l.counter (All (λ o. o ≡ None) l.seats)
