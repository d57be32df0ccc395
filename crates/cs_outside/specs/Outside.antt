-- What the calls of a source and a sink do to the bytes that they tell, and when they may fail.
use Rattle.std.specs.Prelude.{◌≡◌, ℕ, ◌≤◌, List, [], length, take, Result, OnErr, IfSome}
use Rattle.std.specs.declared.option.Option.{Option}
use Rattle.std.specs.declared.option.Option.TheVariants.{None}
use Rattle.std.specs.Io.KnownBytes.{prepend_known, append_known}
use Rattle.cs_base.specs.Counts.{Rose}

-- the count did not fall, and an `Err` comes only where it rose
pub record HasCause {T E : Type 0} (before now : ℕ) (result : Result T E) : Type 0 where
  pub later : before ≤ now
  pub failed : OnErr result (Rose before now)

-- these bytes were taken from the start of those that are left, where they are told; whether they are told stays
abbrev pub Takes : Option (List ℕ) → Option (List ℕ) → List ℕ → Type 0
Takes old new bytes = old ≡ prepend_known bytes new

-- these bytes were added at the end of those that are held, where they are told; whether they are told stays
abbrev pub Adds : Option (List ℕ) → Option (List ℕ) → List ℕ → Type 0
Adds old new bytes = new ≡ append_known old bytes

-- some prefix of these bytes was added
abbrev pub AddsFront : Option (List ℕ) → Option (List ℕ) → List ℕ → Type 0
AddsFront old new bytes = (n : ℕ) × (n ≤ length bytes) × Adds old new (take n bytes)

-- nothing is left, where that is told
abbrev pub IsAtEnd : Option (List ℕ) → Type 0
IsAtEnd left = IfSome left (λ bytes. bytes ≡ [])

-- what an object tells that tells no bytes
abbrev pub untold : Option (List ℕ)
untold = None
