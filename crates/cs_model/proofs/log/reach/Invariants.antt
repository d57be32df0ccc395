use Rattle.std.proofs.Common.{◌≡◌, ℕ, length}
use Rattle.cs_model.specs.Places.{place_in}
use Rattle.cs_model.proofs.log.reach.Given as goal

-- there are so many places, and each count is as before
abbrev pub invariant-loop : goal.invariant-loop
invariant-loop l = record {
  long : length l.places ≡ l.counter;
  counts : (actor : ℕ) → place_in l.places actor ≡ place_in l.initial.places actor;
}
