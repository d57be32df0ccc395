-- When a text is like a pattern.
use Rattle.std.specs.Prelude.{◌≡◌, ◌≢◌, ◌⊎◌, ℕ, Bool, true, false, ◌&&◌, ◌||◌, List, [], ◌∷◌, ◌++◌, length, ◌==◌, if◌then◌else◌}

-- the bytes that a byte of a pattern stands for: `%` for any run, `_` for one byte, any other byte for itself
abbrev pub StandsFor : ℕ → List ℕ → Type 0
StandsFor p run = (p ≡ 37) ⊎ ((p ≡ 95) × (length run ≡ 1)) ⊎ ((p ≢ 37) × (p ≢ 95) × (run ≡ p ∷ []))

-- the empty text is like the empty pattern, and else what the first byte stands for and then what is like the rest
abbrev pub Like : List ℕ → List ℕ → Type 0
Like [] text = text ≡ []
Like (p ∷ pattern) text = (run : List ℕ) × (rest : List ℕ) × (text ≡ run ++ rest) × StandsFor p run × Like pattern rest

-- a text, or what stands after some bytes of it, passes a test
abbrev pub has_end : (List ℕ → Bool) → List ℕ → Bool
has_end test [] = test []
has_end test (b ∷ text) = test (b ∷ text) || has_end test text

-- a byte of a pattern, other than `%`, stands for a byte
abbrev pub meets : ℕ → ℕ → Bool
meets p b = (p == 95) || (p == b)

-- a byte of a pattern, other than `%`, stands for the first byte of a text, and what is after passes a test
abbrev pub has_first : ℕ → (List ℕ → Bool) → List ℕ → Bool
has_first p test [] = false
has_first p test (b ∷ text) = meets p b && test text

-- the same as `Like`, as a test
abbrev pub is_like : List ℕ → List ℕ → Bool
is_like [] [] = true
is_like [] (b ∷ text) = false
is_like (p ∷ pattern) text = if p == 37 then has_end (is_like pattern) text else has_first p (is_like pattern) text
