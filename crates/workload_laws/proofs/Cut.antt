-- Lines that are joined, each with a byte 10 at its end, are cut again into these lines.
use Rattle.std.proofs.Common.{◌≡◌, ℕ, List, [], ◌∷◌, ◌++◌, map, refl, ap, ◌∙◌, append_assoc, true, cond, arith}
use Rattle.std.proofs.lemmas.Bool.{and_parts}
use Rattle.std.specs.List.{list_all, flat_map}
use Rattle.cs_types.specs.Kinds.{is_text_byte}
use Rattle.script_reader.specs.Lines.{onto, pieces, trimmed, without_empty_end, lines}
use Rattle.workload_laws.proofs.Printed.{IsPrinted, other_byte}

-- a line up to its byte 10
pub cut_line : (line rest : List ℕ) → IsPrinted line → pieces (line ++ 10 ∷ rest) ≡ line ∷ pieces rest
cut_line [] rest printed = refl
cut_line (b ∷ line) rest printed =
    let both = and_parts (is_text_byte b) (list_all is_text_byte line) printed in
    ap (λ t. cond t ([] ∷ pieces (line ++ 10 ∷ rest)) (onto b (pieces (line ++ 10 ∷ rest)))) (other_byte b 10 (omega arith) both.0)
    ∙ ap (onto b) (cut_line line rest both.1)

-- a line that prints has no byte 13 at its end
pub trimmed_same : (line : List ℕ) → IsPrinted line → trimmed line ≡ line
trimmed_same [] printed = refl
trimmed_same (b ∷ []) printed = ap (λ t. cond t [] (b ∷ [])) (other_byte b 13 (omega arith) (and_parts (is_text_byte b) true printed).0)
trimmed_same (b ∷ c ∷ line) printed = ap (λ z. b ∷ z) (trimmed_same (c ∷ line) (and_parts (is_text_byte b) (list_all is_text_byte (c ∷ line)) printed).1)

last_piece : (all : List (List ℕ)) → without_empty_end (all ++ [] ∷ []) ≡ all
last_piece [] = refl
last_piece (piece ∷ []) = at piece
  where
    at : (piece : List ℕ) → without_empty_end (piece ∷ [] ∷ []) ≡ piece ∷ []
    at [] = refl
    at (b ∷ piece) = refl
last_piece (piece ∷ next ∷ all) = at piece ∙ ap (λ z. piece ∷ z) (last_piece (next ∷ all))
  where
    at : (piece : List ℕ) → without_empty_end (piece ∷ next ∷ (all ++ [] ∷ [])) ≡ piece ∷ without_empty_end (next ∷ (all ++ [] ∷ []))
    at [] = refl
    at (b ∷ piece) = refl

-- the lines of numbers after a first line
module _ (line : ℕ → List ℕ) (printed : (n : ℕ) → IsPrinted (line n)) where
  cut_all : (ns : List ℕ) → pieces (flat_map (λ n. line n ++ 10 ∷ []) ns) ≡ map line ns ++ [] ∷ []
  cut_all [] = refl
  cut_all (n ∷ ns) =
      ap pieces (append_assoc (line n) (10 ∷ []) (flat_map (λ n. line n ++ 10 ∷ []) ns))
      ∙ cut_line (line n) (flat_map (λ n. line n ++ 10 ∷ []) ns) (printed n) ∙ ap (λ z. line n ∷ z) (cut_all ns)

  trim_all : (ns : List ℕ) → map trimmed (map line ns ++ [] ∷ []) ≡ map line ns ++ [] ∷ []
  trim_all [] = refl
  trim_all (n ∷ ns) = ap (λ z. z ∷ map trimmed (map line ns ++ [] ∷ [])) (trimmed_same (line n) (printed n)) ∙ ap (λ z. line n ∷ z) (trim_all ns)

  pub lines_again : (first : List ℕ) → IsPrinted first → (ns : List ℕ) → lines ((first ++ 10 ∷ []) ++ flat_map (λ n. line n ++ 10 ∷ []) ns) ≡ first ∷ map line ns
  lines_again first prints ns =
      ap lines (append_assoc first (10 ∷ []) (flat_map (λ n. line n ++ 10 ∷ []) ns))
      ∙ ap (λ z. without_empty_end (map trimmed z)) (cut_line first (flat_map (λ n. line n ++ 10 ∷ []) ns) prints ∙ ap (λ z. first ∷ z) (cut_all ns))
      ∙ ap without_empty_end (ap (λ z. z ∷ map trimmed (map line ns ++ [] ∷ [])) (trimmed_same first prints) ∙ ap (λ z. first ∷ z) (trim_all ns))
      ∙ last_piece (first ∷ map line ns)
