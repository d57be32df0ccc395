-- The text of lines, one line more.
use Rattle.std.proofs.Common.{◌≡◌, ℕ, ◌+◌, ◌<◌, List, [], ◌∷◌, ◌++◌, length, take, get_or, map, sym, ap, ◌∙◌, append_assoc, codes}
use Rattle.std.proofs.lemmas.List.{flat_map_more, map_more}
use Rattle.cs_model.specs.Text.{lines_text}

-- a line, and then the byte 10, after the lines of the first i elements
pub lines_more : {X : Type 0} (line_of : X → List ℕ) (xs : List X) (i : ℕ) (x : X) → i < length xs → x ≡ get_or xs i x → (out before after : List ℕ) → after ≡ before ++ line_of x ++ codes "\n"
    → before ≡ out ++ lines_text (map line_of (take i xs)) → after ≡ out ++ lines_text (map line_of (take (i + 1) xs))
lines_more line_of xs i x within is out before after added so_far =
    added ∙ append_assoc before (line_of x) (codes "\n") ∙ ap (λ z. z ++ (line_of x ++ codes "\n")) so_far
    ∙ flat_map_more (λ line. line ++ codes "\n") out (map line_of (take i xs)) (line_of x)
    ∙ ap (λ lines. out ++ lines_text lines) (sym (map_more line_of xs i x within ∙ ap (λ y. map line_of (take i xs) ++ line_of y ∷ []) (sym is)))
