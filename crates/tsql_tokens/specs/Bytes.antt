-- The classes of bytes.
use Rattle.std.specs.Prelude.{ℕ, List, [], ◌∷◌, Bool, true, false, ◌==◌, ◌&&◌, ◌||◌, nat_le, if◌then◌else◌}

-- a space or a tab
unfoldable pub is_blank : ℕ → Bool
is_blank b = b == 32 || b == 9

unfoldable pub is_digit : ℕ → Bool
is_digit b = nat_le 48 b && nat_le b 57

-- a letter or '_'
unfoldable pub begins_word : ℕ → Bool
begins_word b = nat_le 65 b && nat_le b 90 || nat_le 97 b && nat_le b 122 || b == 95

-- a letter, a digit, '_', '$', '#' or '@'
unfoldable pub goes_on_word : ℕ → Bool
goes_on_word b = begins_word b || is_digit b || b == 36 || b == 35 || b == 64

-- whether the next byte passes; at the end there is none
abbrev pub next_is : (ℕ → Bool) → List ℕ → Bool
next_is p [] = false
next_is p (b ∷ bytes) = p b

-- what is after the bytes at the beginning that pass
abbrev pub skip_while : (ℕ → Bool) → List ℕ → List ℕ
skip_while p [] = []
skip_while p (b ∷ bytes) = if p b then skip_while p bytes else b ∷ bytes

abbrev pub is_empty : List ℕ → Bool
is_empty [] = true
is_empty (b ∷ bytes) = false
