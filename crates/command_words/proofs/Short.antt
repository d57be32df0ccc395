-- Fewer than two words: no pair is left.
use Rattle.std.proofs.Common.{◌≡◌, ℕ, ◌<◌, List, [], ◌∷◌, map, length, ◌==◌, false, refl, arith}
use Rattle.command_words.specs.declared.mode.Mode.{Mode}
use Rattle.command_words.specs.Options.{OptionRow}
use Rattle.command_words.specs.Walk.{is_named, are_pairs, value_among}

pub named_short : {X : Type 0} (f : X → List ℕ) (name : List ℕ) (xs : List X) → length xs < 2 → is_named name (map f xs) ≡ false
named_short f name [] short = refl
named_short f name (x ∷ []) short = refl
named_short f name (x ∷ y ∷ xs) short = absurd (omega arith)

pub pairs_short : {X : Type 0} (f : X → List ℕ) (mode : Mode) (xs : List X) → length xs < 2 → are_pairs mode (map f xs) ≡ (length xs == 0)
pairs_short f mode [] short = refl
pairs_short f mode (x ∷ []) short = refl
pairs_short f mode (x ∷ y ∷ xs) short = absurd (omega arith)

pub value_short : {X : Type 0} (f : X → List ℕ) (row : OptionRow) (xs : List X) → length xs < 2 → value_among row (map f xs) ≡ row.usual
value_short f row [] short = refl
value_short f row (x ∷ []) short = refl
value_short f row (x ∷ y ∷ xs) short = absurd (omega arith)
