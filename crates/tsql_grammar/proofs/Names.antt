-- The names known by their places are names.
use Rattle.std.proofs.Common.{◌≡◌, ℕ, Bool, true, false, List, [], ◌∷◌, Option, Some, None, refl, subst}
use Rattle.std.specs.Prelude.{◌&&◌, if◌then◌else◌, unwrap_or}
use Rattle.tsql_tokens.specs.Reserved.{is_word}
use Rattle.tsql_grammar.specs.declared.terminal.Terminal.{Terminal}
use Rattle.tsql_grammar.specs.declared.terminal.Terminal.TheVariants as terminal
use Rattle.tsql_grammar.specs.Terminals.{among}
use Rattle.tsql_grammar.specs.Words.{looked_up, or_else, placed_1, placed_2, placed_3, name_terminal}
use Rattle.tsql_grammar.specs.Grammar.{all_names}

-- each word of a table is a name
abbrev are_names : List (List ℕ × Terminal) → Bool
are_names [] = true
are_names ((word, t) ∷ words) = among t all_names && are_names words

parts : (b c : Bool) → (b && c) ≡ true → (b ≡ true) × (c ≡ true)
parts true c h = (refl, h)
parts false c h = absurd cc

found : (words : List (List ℕ × Terminal)) (bytes : List ℕ) (t : Terminal) → are_names words ≡ true → looked_up words bytes ≡ Some t → among t all_names ≡ true
found [] bytes t h e = absurd cc
found ((word, k) ∷ words) bytes t h e = go (is_word bytes word) e (λ z. found words bytes t (parts (among k all_names) (are_names words) h).1 z)
  where
    go : (b : Bool) → (if b then Some k else looked_up words bytes) ≡ Some t → (looked_up words bytes ≡ Some t → among t all_names ≡ true) → among t all_names ≡ true
    go true f ih = let same : k ≡ t = cc in subst (λ (z : Terminal). among z all_names ≡ true) same (parts (among k all_names) (are_names words) h).0
    go false f ih = ih f

pub is_name : (bytes : List ℕ) → among (name_terminal bytes) all_names ≡ true
unfolding name_terminal
is_name bytes = go (looked_up placed_1 bytes) refl (looked_up placed_2 bytes) refl (looked_up placed_3 bytes) refl
  where
    go : (a : Option Terminal) → looked_up placed_1 bytes ≡ a → (b : Option Terminal) → looked_up placed_2 bytes ≡ b → (c : Option Terminal) → looked_up placed_3 bytes ≡ c
        → among (unwrap_or (or_else a (or_else b c)) terminal.Plain) all_names ≡ true
    go (Some t) e b f c g = found placed_1 bytes t refl e
    go None e (Some t) f c g = found placed_2 bytes t refl f
    go None e None f (Some t) g = found placed_3 bytes t refl g
    go None e None f None g = refl
