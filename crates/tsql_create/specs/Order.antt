-- Places in order.
use Rattle.std.specs.Prelude.{ℕ, ◌≤◌, List, [], ◌∷◌, map}
use Rattle.tsql_create.specs.declared.written.WrittenColumn.{WrittenColumn}

-- P holds of each place
abbrev pub Each : (ℕ → Type 0) → List ℕ → Type 0
Each P [] = Unit {0}
Each P (p ∷ ps) = P p × Each P ps

-- each place is at most those after it
abbrev pub Ascend : List ℕ → Type 0
Ascend [] = Unit {0}
Ascend (p ∷ ps) = Each (λ q. p ≤ q) ps × Ascend ps

-- the names of columns stand one after another
abbrev pub AreInOrder : List WrittenColumn → Type 0
AreInOrder list = Ascend (map (λ c. c.name.place) list)
