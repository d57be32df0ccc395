-- Faults, and which of some comes first.
use Rattle.std.specs.Prelude.{ℕ, nat_lt, ◌==◌, List, [], ◌∷◌, Bool, ◌&&◌, ◌||◌, Option, None, Some, if◌then◌else◌}
use Rattle.bind_faults.specs.declared.fault.Fault.{Fault}

-- a number at a place
abbrev pub fault : ℕ → ℕ → Fault
fault number at = record { number = number; at = at }

-- a fault where a test is true
abbrev pub fault_if : Bool → ℕ → ℕ → List Fault
fault_if found number at = if found then fault number at ∷ [] else []

-- a lesser place, or the same place and a lesser number
abbrev pub is_before : Fault → Fault → Bool
is_before a b = nat_lt a.at b.at || (a.at == b.at) && nat_lt a.number b.number

-- of two faults the one that comes first
abbrev pub first_of : Fault → Fault → Fault
first_of a b = if is_before b a then b else a

abbrev pub earlier : Option Fault → Option Fault → Option Fault
earlier None other = other
earlier (Some a) None = Some a
earlier (Some a) (Some b) = Some (first_of a b)

-- of some faults the one that comes first
abbrev pub least : List Fault → Option Fault
least [] = None
least (f ∷ rest) = earlier (Some f) (least rest)
