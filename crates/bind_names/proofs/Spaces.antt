-- What a last byte does to a text without its trailing spaces.
use Rattle.std.proofs.Common.{◌≡◌, ℕ, List, [], ◌∷◌, ◌++◌, Bool, true, false, refl, ap, sym, ◌∙◌}
use Rattle.std.specs.Prelude.{◌==◌, if◌then◌else◌}
use Rattle.bind_names.specs.Names.{before_trimmed, trimmed}

-- a space at the end goes
pub space_behind : (text : List ℕ) → trimmed (text ++ 32 ∷ []) ≡ trimmed text
space_behind [] = refl
space_behind (byte ∷ rest) = ap (before_trimmed byte) (space_behind rest)

before_more : (byte : ℕ) (rest : List ℕ) (last : ℕ) → before_trimmed byte (rest ++ last ∷ []) ≡ byte ∷ (rest ++ last ∷ [])
before_more byte [] last = refl
before_more byte (next ∷ rest) last = refl

alone : (last : ℕ) → (last == 32) ≡ false → trimmed (last ∷ []) ≡ last ∷ []
alone last other = go (last == 32) other
  where
    go : (b : Bool) → b ≡ false → (if b then [] else last ∷ []) ≡ last ∷ []
    go false e = refl
    go true e = absurd cc

-- any other byte at the end stays, and all that is before it
pub other_behind : (text : List ℕ) (last : ℕ) → (last == 32) ≡ false → trimmed (text ++ last ∷ []) ≡ text ++ last ∷ []
other_behind [] last other = alone last other
other_behind (byte ∷ rest) last other =
    ap (before_trimmed byte) (other_behind rest last other) ∙ before_more byte rest last

-- the same of a text that ends so
pub without_space : (text front : List ℕ) (last : ℕ) → text ≡ front ++ last ∷ [] → last ≡ 32 → trimmed front ≡ trimmed text
without_space text front last is space =
    sym (ap trimmed (is ∙ ap (λ z. front ++ z ∷ []) space) ∙ space_behind front)

pub with_other : (text front : List ℕ) (last : ℕ) → text ≡ front ++ last ∷ [] → (last == 32) ≡ false → text ≡ trimmed text
with_other text front last is other = is ∙ sym (ap trimmed is ∙ other_behind front last other)
