-- The leftmost of some places.
use Rattle.std.specs.Prelude.{ℕ, min, List, [], ◌∷◌, Option, None, Some}

-- the least of two places
abbrev pub earlier : Option ℕ → Option ℕ → Option ℕ
earlier None other = other
earlier (Some place) None = Some place
earlier (Some place) (Some other) = Some (min place other)

-- the least of some places
abbrev pub leftmost : List ℕ → Option ℕ
leftmost [] = None
leftmost (place ∷ rest) = earlier (Some place) (leftmost rest)
