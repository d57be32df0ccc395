-- The rule of a gate: what holds of its words, its slot and all views between any two steps.
-- Word 0 is the next ticket and word 1 the ticket that is served, both counted round at 2^64. The one slot has the value.
use Rattle.std.specs.Prelude.{◌≡◌, ℕ, ◌+◌, ◌%◌, ◌^◌, ◌<◌, ◌≤◌, ◌⊎◌, List, [], ◌∷◌, length, sum_by, All, Option, Some}
use mathlib.Core.List.{IsPrefix}
use mathlib.Core.Option.{some, none}
use mathlib.Core.Option as maybe
use lib.ListN.{get_elem?}
use Rattle.atomic_table.specs.Table.{State}
use Rattle.history_gate.specs.declared.rule.View.{View}
use Rattle.history_gate.specs.Histories.{entries_of, Tells}
use Rattle.history_gate.specs.Views.{tickets, tickets_at, turns, share_count, shares_of, IsSpent}

module _ {E : Type 0} where
  -- so many tickets are out, from the served one on
  pub record IsQueue (served out : ℕ) (views : List (View E)) : Type 0 where
    pub count : sum_by tickets views ≡ out
    -- each of them is in exactly one view, and no view has another
    pub waiting : (k : ℕ) → served ≤ k → k < served + out → sum_by (tickets_at k) views ≡ 1
    pub others : (k : ℕ) → (k < served) ⊎ (served + out ≤ k) → sum_by (tickets_at k) views ≡ 0

  -- the views have as many numbers as there are seats, those that they may give away among them
  pub record AreShared (seats : ℕ) (views : List (View E)) : Type 0 where
    pub count : sum_by share_count views ≡ seats
    -- each number below the seats is there once, in one view, and there is no other
    pub once : (n : ℕ) → n < seats → sum_by (shares_of n) views ≡ 1
    pub no_others : (n : ℕ) → seats ≤ n → sum_by (shares_of n) views ≡ 0

module _ {E : Type 0} (number : E → ℕ) where
  -- what a view knows is so
  pub record IsViewOf (history : List E) (served : ℕ) (v : View E) : Type 0 where
    -- only the view with the served ticket may have the turn, and it has the whole history
    pub turn : (found : List E) → v.turn ≡ Some found → (found ≡ history) × (v.ticket ≡ Some served)
    -- the list of each of its numbers is that of the history's entries with it
    pub own : Tells number v.own history
    -- a number that it may give away has no entry
    pub reserve : All (λ n. entries_of number n history ≡ []) v.reserve
    -- what it has seen is a prefix of the history
    pub seen : IsPrefix v.seen history
    -- it is spent, or has a number
    pub numbered : IsSpent v ⊎ (0 < length v.own)

module _ {E X : Type 0} (number : E → ℕ) (list : X → List E) where
  -- the slot is out exactly where a view has the turn; at home it has a value, and the history is that value's list
  abbrev pub IsSlotOf : List E → ℕ → List (maybe.Option (Option X)) → Type 0
  IsSlotOf history turns homes = ((homes ≡ none ∷ []) × (turns ≡ 1)) ⊎ ((x : X) × (homes ≡ some (Some x) ∷ []) × (list x ≡ history) × (turns ≡ 0))

  -- the words, the slot and the views of a gate keep one history
  pub record KeepsHistory (seats : ℕ) (table : State (Option X) (View E)) : Type 0 where
    pub served : ℕ
    pub out : ℕ
    pub history : List E
    -- the next ticket and the served one, counted round
    pub words : table.words ≡ (served + out) % 2 ^ 64 ∷ served % 2 ^ 64 ∷ []
    pub queue : IsQueue served out table.views
    pub slot : IsSlotOf history (sum_by turns table.views) table.homes
    pub few : seats < 2 ^ 32
    pub shared : AreShared seats table.views
    -- every entry's number is below the seats
    pub below : All (λ e. number e < seats) history
    pub each : (j : ℕ) (v : View E) → get_elem? table.views j ≡ some v → IsViewOf number history served v
