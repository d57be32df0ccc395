-- The first batch that a predicate needs.
use Rattle.std.proofs.Common.{◌≡◌, ℕ, suc, ◌+◌, ◌<◌, get_or, drop, drop-cons, List, [], ◌∷◌, ◌++◌, map, length, slice_get, slice_index_or, All, Some, refl, sym, ap, ◌∙◌, rules, arith}
use Rattle.std.specs.List.{flat_map}
use Rattle.std.proofs.lemmas.List.Elements.{filter_map-append}
use Rattle.cs_types.specs.declared.Value.{Value}
use Rattle.cs_model.specs.declared.pred.Pred.{Pred}
use Rattle.batch_filter.specs.Named.{named}
use Rattle.batch_filter.specs.Batches.{batches_of, first_count}

-- the batches that the parts of a chain need from one on
from_part : (columns : List (List Value)) (chain : List Pred) (k : ℕ) (part : Pred) → k < length chain → part ≡ get_or chain k part
    → batches_of columns (flat_map (λ n. n) (map named (drop k chain))) ≡ batches_of columns (named part) ++ batches_of columns (flat_map (λ n. n) (map named (drop (suc k) chain)))
from_part columns chain k part l is =
    ap (λ (ps : List Pred). batches_of columns (flat_map (λ n. n) (map named ps))) (drop-cons chain k part l ∙ ap (λ (q : Pred). q ∷ drop (suc k) chain) (sym is))
    ∙ filter_map-append (slice_get columns) (named part) (flat_map (λ n. n) (map named (drop (suc k) chain)))

front_some : (front behind : List (List Value)) (n : ℕ) → first_count front ≡ Some n → first_count (front ++ behind) ≡ Some n
front_some [] behind n is = search rules
front_some (batch ∷ front) behind n is = is

front_none : (front behind : List (List Value)) → ((n : ℕ) → first_count front ≡ Some n → ⊥) → first_count (front ++ behind) ≡ first_count behind
front_none [] behind none = refl
front_none (batch ∷ front) behind none = absurd (none (length batch) refl)

-- where a part needs a batch, it is the first of the chain from it on
pub needed_some : (columns : List (List Value)) (chain : List Pred) (k : ℕ) (part : Pred) (n : ℕ) → k < length chain → part ≡ get_or chain k part → first_count (batches_of columns (named part)) ≡ Some n
    → first_count (batches_of columns (flat_map (λ n. n) (map named (drop k chain)))) ≡ Some n
needed_some columns chain k part n l is some =
    ap first_count (from_part columns chain k part l is) ∙ front_some (batches_of columns (named part)) (batches_of columns (flat_map (λ n. n) (map named (drop (suc k) chain)))) n some

-- where it needs none, that of the chain after it
pub needed_none : (columns : List (List Value)) (chain : List Pred) (k : ℕ) (part : Pred) → k < length chain → part ≡ get_or chain k part → ((n : ℕ) → first_count (batches_of columns (named part)) ≡ Some n → ⊥)
    → first_count (batches_of columns (flat_map (λ n. n) (map named (drop k chain)))) ≡ first_count (batches_of columns (flat_map (λ n. n) (map named (drop (k + 1) chain))))
needed_none columns chain k part l is none =
    let next : suc k ≡ k + 1 = omega arith in
    ap first_count (from_part columns chain k part l is) ∙ front_none (batches_of columns (named part)) (batches_of columns (flat_map (λ n. n) (map named (drop (suc k) chain)))) none
    ∙ ap (λ j. first_count (batches_of columns (flat_map (λ n. n) (map named (drop j chain))))) next

-- some batches that have so many cells each, before others
pub counted : (needed others : List (List Value)) (n : ℕ) → (needed ≡ [] → ⊥) → All (λ batch. length batch ≡ n) needed → length (slice_index_or (needed ++ others) 0 []) ≡ n
counted [] others n some all = absurd (some refl)
counted (batch ∷ behind) others n some all = all 0 [] (omega arith)
