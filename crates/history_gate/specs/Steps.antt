-- What each step of a gate tells the seat that makes it.
use Rattle.std.specs.Prelude.{◌≡◌, ℕ, ◌%◌, ◌^◌, ◌==◌, List, [], ◌∷◌, MatchBool, Option, Some, None}
use Rattle.atomic_table.specs.Table.{Me, Step}
use Rattle.history_gate.specs.declared.rule.View.{View}
use Rattle.history_gate.specs.Rule.{IsViewOf}
use Rattle.history_gate.specs.Views.{with_ticket, with_turn, after_turn}

module _ {E X : Type 0} where
  -- a ticket was drawn, and its remainder was found
  abbrev pub IsDrawn : Step (Option X) → Me (Option X) (View E) → ℕ → Me (Option X) (View E) → Type 0
  IsDrawn step before found after = (t : ℕ) × (found ≡ t % 2 ^ 64) × (after.0 ≡ with_ticket before.0 t) × (after.1 ≡ before.1)

module _ {E X : Type 0} (number : E → ℕ) (list : X → List E) where
  -- the seat has the turn, and the slot with a value; what it knows is so of the value's list
  abbrev pub IsCalled : Me (Option X) (View E) → Me (Option X) (View E) → Type 0
  IsCalled before after = (x : X) × (served : ℕ) × (after.0 ≡ with_turn before.0 (list x)) × (after.1 ≡ (0, Some x) ∷ before.1) × IsViewOf number (list x) served after.0

  -- where the number found is that of the ticket, the seat has the turn; else nothing has changed
  abbrev pub IsLooked : Step (Option X) → Me (Option X) (View E) → ℕ → Me (Option X) (View E) → Type 0
  IsLooked step before found after = (t : ℕ) → before.0.ticket ≡ Some t → before.0.turn ≡ None → MatchBool (found == t % 2 ^ 64) (IsCalled before after) (after ≡ before)

  -- the turn is over, and the history is the list of the value in the slot
  abbrev pub IsServed : Step (Option X) → Me (Option X) (View E) → ℕ → Me (Option X) (View E) → Type 0
  IsServed step before found after = (t : ℕ) (l : List E) (x : X) → before.0.ticket ≡ Some t → before.0.turn ≡ Some l → before.1 ≡ (0, Some x) ∷ []
      → (after.0 ≡ after_turn number before.0 (list x)) × (after.1 ≡ [])
