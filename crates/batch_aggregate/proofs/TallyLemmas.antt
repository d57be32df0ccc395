-- The tally of an item over the rows of two lists, and over rows in another order.
use Rattle.std.proofs.Common.{◌≡◌, ℕ, ◌+◌, ◌+ℤ◌, List, [], ◌∷◌, ◌++◌, length, map, refl, sym, ap, ◌∙◌, length-append}
use Rattle.std.specs.List.Sorted.{IsPermutation}
use Rattle.std.proofs.lemmas.List.Sorted.{length_permutation}
use Rattle.cs_types.specs.declared.Value.{Value}
use Rattle.cs_model.specs.declared.plan.Item.{Item}
use Rattle.cs_model.specs.declared.plan.Item.TheVariants as item
use Rattle.cs_model.specs.Items.{present, sum_of}
use Rattle.answer_laws.proofs.Least.{present-append, present-moved, count-moved, least-append, least-moved, greatest-append, greatest-moved, sum_of-append, sum_of-moved}
use Rattle.batch_aggregate.specs.declared.tally.Tally.TheVariants.{Count, Sum, Least, Greatest}
use Rattle.batch_aggregate.specs.Tallies.{tally_of, joined, all_joined}

module _ (i : ℕ) (xs ys : List (List Value)) where
  counts : length (present i (xs ++ ys)) ≡ length (present i xs) + length (present i ys)
  counts = ap length (present-append i xs ys) ∙ length-append (present i xs) (present i ys)

  totals : Sum (length (present i (xs ++ ys)), sum_of (present i (xs ++ ys))) ≡ Sum (length (present i xs) + length (present i ys), sum_of (present i xs) +ℤ sum_of (present i ys))
  totals =
      ap (λ n. Sum (n, sum_of (present i (xs ++ ys)))) counts
      ∙ ap (λ s. Sum (length (present i xs) + length (present i ys), s)) (ap sum_of (present-append i xs ys) ∙ sum_of-append (present i xs) (present i ys))

  totals-moved : IsPermutation xs ys → Sum (length (present i xs), sum_of (present i xs)) ≡ Sum (length (present i ys), sum_of (present i ys))
  totals-moved moved =
      ap (λ n. Sum (n, sum_of (present i xs))) (count-moved i xs ys moved)
      ∙ ap (λ s. Sum (length (present i ys), s)) (sum_of-moved (present i xs) (present i ys) (present-moved i xs ys moved))

-- the tally of the rows of two lists is that of both
pub tally_of-append : (xs ys : List (List Value)) (kind : Item) → tally_of (xs ++ ys) kind ≡ joined (tally_of xs kind) (tally_of ys kind)
tally_of-append xs ys (item.Column i) = refl
tally_of-append xs ys item.CountAll = ap Count (length-append xs ys)
tally_of-append xs ys (item.Count i) = ap Count (counts i xs ys)
tally_of-append xs ys (item.Sum i) = totals i xs ys
tally_of-append xs ys (item.Min i) = ap Least (least-append i xs ys)
tally_of-append xs ys (item.Max i) = ap Greatest (greatest-append i xs ys)
tally_of-append xs ys (item.Avg i) = totals i xs ys

-- a tally is the same for every order of its rows
pub tally_of-moved : (xs ys : List (List Value)) → IsPermutation xs ys → (kind : Item) → tally_of xs kind ≡ tally_of ys kind
tally_of-moved xs ys moved (item.Column i) = refl
tally_of-moved xs ys moved item.CountAll = ap Count (sym (length_permutation xs ys moved))
tally_of-moved xs ys moved (item.Count i) = ap Count (count-moved i xs ys moved)
tally_of-moved xs ys moved (item.Sum i) = totals-moved i xs ys moved
tally_of-moved xs ys moved (item.Min i) = ap Least (least-moved i xs ys moved)
tally_of-moved xs ys moved (item.Max i) = ap Greatest (greatest-moved i xs ys moved)
tally_of-moved xs ys moved (item.Avg i) = totals-moved i xs ys moved

pub tallies-append : (xs ys : List (List Value)) (items : List Item) → all_joined (map (tally_of xs) items) (map (tally_of ys) items) ≡ map (tally_of (xs ++ ys)) items
tallies-append xs ys [] = refl
tallies-append xs ys (kind ∷ items) =
    ap (λ t. t ∷ all_joined (map (tally_of xs) items) (map (tally_of ys) items)) (sym (tally_of-append xs ys kind))
    ∙ ap (λ ts. tally_of (xs ++ ys) kind ∷ ts) (tallies-append xs ys items)

pub tallies-moved : (xs ys : List (List Value)) → IsPermutation xs ys → (items : List Item) → map (tally_of xs) items ≡ map (tally_of ys) items
tallies-moved xs ys moved [] = refl
tallies-moved xs ys moved (kind ∷ items) =
    ap (λ t. t ∷ map (tally_of xs) items) (tally_of-moved xs ys moved kind) ∙ ap (λ ts. tally_of ys kind ∷ ts) (tallies-moved xs ys moved items)
