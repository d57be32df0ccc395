-- One step of the walk along the words.
use Rattle.std.proofs.Common.{◌≡◌, ℕ, ◌-◌, ◌≤◌, List, [], ◌∷◌, map, length, take, drop, get_or, Bool, true, false, not, ◌&&◌, refl, ap, sym, ◌∙◌, arith}
use Rattle.std.proofs.lemmas.List.{take_all}
use Rattle.command_words.specs.declared.mode.Mode.{Mode}
use Rattle.command_words.specs.Orders.{is_pair}
use Rattle.command_words.specs.Walk.{is_named, are_pairs}

-- a list of two at least is its first two and the rest
two_first : {X : Type 0} (xs : List X) (a b : X) → 2 ≤ length xs → a ≡ get_or xs 0 a → b ≡ get_or xs 1 b → xs ≡ a ∷ b ∷ take (length xs - 2) (drop 2 xs)
two_first [] a b long first second = absurd (omega arith)
two_first (x ∷ []) a b long first second = absurd (omega arith)
two_first (x ∷ y ∷ xs) a b long first second =
    let whole : take (length (x ∷ y ∷ xs) - 2) xs ≡ xs = take_all _ xs (omega arith) in
    let front : x ≡ a = sym first in
    let behind : y ≡ b = sym second in
    cc

and_false : (b : Bool) → (b && false) ≡ false
and_false true = refl
and_false false = refl

pub bad_value : {X : Type 0} (f : X → List ℕ) (mode : Mode) (xs : List X) (a b : X) → 2 ≤ length xs → a ≡ get_or xs 0 a → b ≡ get_or xs 1 b → is_pair mode (f a, f b) ≡ false → are_pairs mode (map f xs) ≡ false
bad_value f mode xs a b long first second bad =
    let rest = take (length xs - 2) (drop 2 xs) in
    ap (λ z. are_pairs mode (map f z)) (two_first xs a b long first second)
    ∙ ap (λ z. z && not (is_named (f a) (map f rest)) && are_pairs mode (map f rest)) bad

pub bad_name : {X : Type 0} (f : X → List ℕ) (mode : Mode) (xs : List X) (a b : X) → 2 ≤ length xs → a ≡ get_or xs 0 a → b ≡ get_or xs 1 b → is_named (f a) (map f (take (length xs - 2) (drop 2 xs))) ≡ true → are_pairs mode (map f xs) ≡ false
bad_name f mode xs a b long first second bad =
    let rest = take (length xs - 2) (drop 2 xs) in
    ap (λ z. are_pairs mode (map f z)) (two_first xs a b long first second)
    ∙ (ap (λ z. is_pair mode (f a, f b) && not z && are_pairs mode (map f rest)) bad
    ∙ ap (λ z. z && are_pairs mode (map f rest)) (and_false (is_pair mode (f a, f b))))

pub good_step : {X : Type 0} (f : X → List ℕ) (mode : Mode) (xs : List X) (a b : X) → 2 ≤ length xs → a ≡ get_or xs 0 a → b ≡ get_or xs 1 b → is_pair mode (f a, f b) ≡ true → is_named (f a) (map f (take (length xs - 2) (drop 2 xs))) ≡ false → are_pairs mode (map f (take (length xs - 2) (drop 2 xs))) ≡ are_pairs mode (map f xs)
good_step f mode xs a b long first second value other =
    let rest = take (length xs - 2) (drop 2 xs) in
    sym (ap (λ z. are_pairs mode (map f z)) (two_first xs a b long first second)
    ∙ (ap (λ z. z && not (is_named (f a) (map f rest)) && are_pairs mode (map f rest)) value
    ∙ ap (λ z. not z && are_pairs mode (map f rest)) other))
