-- What a seat knows, and how its steps change that.
use Rattle.std.specs.Prelude.{◌≡◌, ℕ, ◌-◌, ◌==◌, if◌then◌else◌, List, [], ◌∷◌, ◌++◌, map, length, count_by, Option, Some, None}
use Rattle.std.specs.List.{range_with_len}
use Rattle.history_gate.specs.declared.rule.View.{View}
use Rattle.history_gate.specs.Histories.{own_numbers, without, entries_of}

-- 1 where there is something, else 0
abbrev pub one_if_some : {A : Type 0} → Option A → ℕ
one_if_some None = 0
one_if_some (Some _) = 1

-- 1 where it is k, else 0
abbrev pub one_if_at : ℕ → Option ℕ → ℕ
one_if_at k None = 0
one_if_at k (Some t) = if t == k then 1 else 0

-- how often n stands in the list
abbrev pub times : ℕ → List ℕ → ℕ
times n xs = count_by (λ m. m == n) xs

module _ {E : Type 0} where
  -- the numbers that a view has or may give away
  abbrev pub shares : View E → List ℕ
  shares v = own_numbers v.own ++ v.reserve

  -- how many tickets a view has, and how many of them are k
  abbrev pub tickets : View E → ℕ
  tickets v = one_if_some v.ticket

  abbrev pub tickets_at : ℕ → View E → ℕ
  tickets_at k v = one_if_at k v.ticket

  -- how many turns it has
  abbrev pub turns : View E → ℕ
  turns v = one_if_some v.turn

  -- how many numbers it has or may give away, and how many of them are n
  abbrev pub share_count : View E → ℕ
  share_count v = length (shares v)

  abbrev pub shares_of : ℕ → View E → ℕ
  shares_of n v = times n (shares v)

  -- a view that a join left behind: it has no ticket, no turn, no numbers and no reserve
  abbrev pub IsSpent : View E → Type 0
  IsSpent v = (v.ticket ≡ None) × (v.turn ≡ None) × (v.own ≡ []) × (v.reserve ≡ [])

  -- the first view: it has the number 0, and may give away the others
  abbrev pub founder : ℕ → View E
  founder seats = record { ticket = None; turn = None; own = (0, []) ∷ []; reserve = range_with_len 1 (seats - 1); seen = [] }

  -- a ticket was drawn; the turn came, with the whole history
  abbrev pub with_ticket : View E → ℕ → View E
  with_ticket v t = record v { ticket = Some t }

  abbrev pub with_turn : View E → List E → View E
  with_turn v history = record v { turn = Some history }

  -- a number has left the reserve; the new view that has it
  abbrev pub giving : ℕ → View E → View E
  giving n v = record v { reserve = without n v.reserve }

  abbrev pub given : ℕ → View E → View E
  given n v = record { ticket = None; turn = None; own = (n, []) ∷ []; reserve = []; seen = v.seen }

  -- a view that took in another's numbers; the other after that
  abbrev pub joined : View E → View E → View E
  joined v w = record v { own = v.own ++ w.own; reserve = v.reserve ++ w.reserve }

  abbrev pub spent : View E
  spent = record { ticket = None; turn = None; own = []; reserve = []; seen = [] }

module _ {E : Type 0} (number : E → ℕ) where
  -- each number with its entries of the history
  abbrev pub recounted : List E → List (ℕ × List E) → List (ℕ × List E)
  recounted history own = map (λ p. (p.0, entries_of number p.0 history)) own

  -- ticket and turn are gone, and the whole history is seen
  abbrev pub after_turn : View E → List E → View E
  after_turn v history = record { ticket = None; turn = None; own = recounted history v.own; reserve = v.reserve; seen = history }
