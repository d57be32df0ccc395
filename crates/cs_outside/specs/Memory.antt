-- What the source and the sink in memory stand for.
use Rattle.std.specs.Prelude.{ℕ, List, Bool, true, false}
use Rattle.cs_base.specs.Counts.{count_up}

-- the bytes that are left, the most that a call gives, the calls that fail (by their numbers, from 1), the calls and the
-- faults so far
pub record Input : Type 0 where
  pub left : List ℕ
  pub step : ℕ
  pub failing : List ℕ
  pub calls : ℕ
  pub faults : ℕ

-- the bytes that are held, how many there is room for, the most that a call takes, the calls that fail, the calls and the
-- faults so far
pub record Output : Type 0 where
  pub held : List ℕ
  pub room : ℕ
  pub step : ℕ
  pub failing : List ℕ
  pub calls : ℕ
  pub faults : ℕ

-- the count of faults after a call that failed, or did not
abbrev pub counted : Bool → ℕ → ℕ
counted true faults = count_up faults
counted false faults = faults
