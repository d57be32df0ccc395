-- The codes of the constants of an IN.
use Rattle.std.proofs.Common.{◌≡◌, ℕ, ◌+◌, ◌<◌, Bool, true, ◌||◌, List, length, map, take, get_or, sym, ap, ◌∙◌}
use Rattle.std.specs.List.{list_any}
use Rattle.std.proofs.lemmas.List.Folds.{list_any_more}
use Rattle.cs_types.specs.declared.Loose.{Loose}
use Rattle.cs_model.specs.declared.pred.Relation.TheVariants.{Equal}
use Rattle.cs_model.specs.Truths.{among, compare}
use Rattle.batch_filter.specs.Sieves.{is_asked}
use Rattle.batch_filter.proofs.VerdictLemmas.{true-any, list_any-map}

asked-among : (a : Loose) (list : List Loose) → is_asked true (among a list) ≡ list_any (λ c. is_asked true (compare Equal a c)) list
asked-among a list = true-any (map (compare Equal a) list) ∙ list_any-map (is_asked true) (compare Equal a) list

-- one constant more
pub among-more : (a : Loose) (list : List Loose) (k : ℕ) (c : Loose) → k < length list → c ≡ get_or list k c
    → (is_asked true (among a (take k list)) || is_asked true (compare Equal a c)) ≡ is_asked true (among a (take (k + 1) list))
among-more a list k c within is =
    let equals : Loose → Bool = λ c. is_asked true (compare Equal a c) in
    ap (λ b. b || equals c) (asked-among a (take k list))
    ∙ ap (λ d. list_any equals (take k list) || equals d) is
    ∙ sym (list_any_more equals list k c within)
    ∙ sym (asked-among a (take (k + 1) list))
