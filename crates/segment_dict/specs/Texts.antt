-- Texts laid side by side in one list of bytes, each with the place where it ends.
use Rattle.std.specs.Prelude.{ℕ, Bool, List, [], ◌∷◌, slice_range, nat_le, ◌==◌, ◌&&◌}

-- the texts from a place on: each runs from the end of the one before it to its own end
abbrev pub texts_from : ℕ → List ℕ → List ℕ → List (List ℕ)
texts_from from [] bytes = []
texts_from from (end ∷ ends) bytes = slice_range bytes from end ∷ texts_from end ends bytes

abbrev pub texts_in : List ℕ → List ℕ → List (List ℕ)
texts_in ends bytes = texts_from 0 ends bytes

-- the ends rise from a place to the last one, which is the end of all the bytes
abbrev pub ends_rise : ℕ → List ℕ → ℕ → Bool
ends_rise from [] last = from == last
ends_rise from (end ∷ ends) last = nat_le from end && ends_rise end ends last
