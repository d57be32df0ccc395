-- What contracts see of a gate, of a pass, and of a value that is held.
use Rattle.std.specs.Prelude.{ℕ, List, [], ◌++◌, Contains, Option, Some, None}
use Rattle.atomic_table.specs.Seated.{TableId}
use Rattle.history_gate.specs.Histories.{own_numbers}

-- a gate: which one it is, and how many numbers there are
pub record GateState : Type 0 where
  pub gate : TableId
  pub seats : ℕ

-- a pass: its gate, the entries of each of its numbers, the numbers that it may give away, and the prefix of the history that it has seen
pub record PassState (E : Type 0) : Type 0 where
  pub gate : TableId
  pub own : List (ℕ × List E)
  pub reserve : List ℕ
  pub seen : List E

-- a value that is held: its pass, the history that was found, and the value
pub record HeldState (E X : Type 0) : Type 0 where
  pub gate : TableId
  pub own : List (ℕ × List E)
  pub reserve : List ℕ
  pub found : List E
  pub value : X

module _ {E : Type 0} where
  -- the history that is found at a turn
  abbrev pub found_at : Option (List E) → List E
  found_at None = []
  found_at (Some history) = history

  -- the pass has the number, or may give it away
  abbrev pub HasNumber : PassState E → ℕ → Type 0
  HasNumber pass n = Contains (own_numbers pass.own ++ pass.reserve) n

  -- the later pass has all numbers that the earlier has
  abbrev pub KeepsNumbers : PassState E → PassState E → Type 0
  KeepsNumbers before after = (n : ℕ) → HasNumber before n → HasNumber after n

module _ {E X : Type 0} where
  -- the same with another value
  abbrev pub with_value : HeldState E X → X → HeldState E X
  with_value held x = record held { value = x }
