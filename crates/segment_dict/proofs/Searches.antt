-- Binary search in an ascending list.
use Rattle.std.proofs.Common.{◌≡◌, ℕ, ◌+◌, ◌<◌, ◌≤◌, inl, inr, List, length, get_or, sym, ◌∙◌, ap, arith, Contains, Some, slice_get, Result, Ok, Err, below_more}
use Rattle.std.specs.declared.cmp.Ordering.{Ordering}
use Rattle.std.specs.declared.cmp.Ordering.TheVariants.{Less, Equal, Greater}
use Rattle.std.specs.Cmp.{IsTotalOrder}
use Rattle.std.specs.List.Sorted.{IsBinarySearchResult, IsSearchInRange}
use Rattle.std.specs.Result.{result_ok}
use Rattle.std.specs.Ordering.{ordering_reverse}
use Rattle.std.proofs.lemmas.Bool.{cases_lt}
use Rattle.std.proofs.lemmas.Cmp.{tied_itself}
use Rattle.std.proofs.lemmas.List.Sorted.{searchable_from_sorted}
use Rattle.std.proofs.lemmas.Option.{slice_get-get_or, get_or_from_slice_get}
use Rattle.segment_dict.specs.Dictionaries.{Ascends, IsPlaceOf}
use Rattle.segment_dict.proofs.Orders.{sorted_from_Ascends}

-- what is sought can stand only from place low on and before place high
pub record Narrows {X : Type 0} (cmp : X → X → Ordering) (entries : List X) (x : X) (low high : ℕ) : Type 0 where
  pub ordered : low ≤ high
  pub within : high ≤ length entries
  pub before : (k : ℕ) → k < low → cmp (get_or entries k x) x ≡ Less
  pub after : (k : ℕ) → high ≤ k → k < length entries → cmp (get_or entries k x) x ≡ Greater

pub Narrows-all : {X : Type 0} (cmp : X → X → Ordering) (entries : List X) (x : X) → Narrows cmp entries x 0 (length entries)
Narrows-all cmp entries x = record { ordered = omega arith; within = omega arith; before = λ k l. absurd (omega arith); after = λ k from l. absurd (omega arith) }

module _ {X : Type 0} {cmp : X → X → Ordering} (o : IsTotalOrder cmp) (entries : List X) (x : X) (up : Ascends cmp entries) where
  -- the entry in the middle is less
  pub Narrows-less : (low high middle : ℕ) (y : X) → Narrows cmp entries x low high → middle < high → slice_get entries middle ≡ Some y → cmp y x ≡ Less → Narrows cmp entries x (middle + 1) high
  Narrows-less low high middle y h in' at less =
      let here : cmp (get_or entries middle x) x ≡ Less = ap (λ z. cmp z x) (get_or_from_slice_get entries middle y x at) ∙ less in
      let within = h.within in
      record {
        ordered = omega arith;
        within = within;
        before = below_more (λ k. cmp (get_or entries k x) x ≡ Less) middle
            (λ k l. o.trans (get_or entries k x) (get_or entries middle x) x (up k middle x l (omega arith)) here) here;
        after = h.after;
      }

  -- the entry in the middle is greater
  pub Narrows-greater : (low high middle : ℕ) (y : X) → Narrows cmp entries x low high → low ≤ middle → middle < high → slice_get entries middle ≡ Some y → cmp y x ≡ Greater → Narrows cmp entries x low middle
  Narrows-greater low high middle y h from in' at greater =
      let here : cmp (get_or entries middle x) x ≡ Greater = ap (λ z. cmp z x) (get_or_from_slice_get entries middle y x at) ∙ greater in
      let below : cmp x (get_or entries middle x) ≡ Less = o.antisymm x (get_or entries middle x) ∙ ap ordering_reverse here in
      let within = h.within in
      record {
        ordered = from;
        within = omega arith;
        before = h.before;
        after = λ k more l. elim (cases_lt middle k) [
          | inl later ↦ o.antisymm (get_or entries k x) x ∙ ap ordering_reverse (o.trans x (get_or entries middle x) (get_or entries k x) below (up middle k x later l))
          | inr same ↦ let e : k ≡ middle = omega arith in ap (λ i. cmp (get_or entries i x) x) e ∙ here
        ];
      }

-- nothing is left to look at
pub not_there : {X : Type 0} {cmp : X → X → Ordering} (o : IsTotalOrder cmp) (entries : List X) (x : X) (low : ℕ) → Narrows cmp entries x low low → Contains entries x → ⊥
not_there {X} {cmp} o entries x low h (k, l, e) = elim (cases_lt k low) [
  | inl less ↦ differ (sym (ap (λ y. cmp y x) e ∙ tied_itself o x) ∙ h.before k less)
  | inr more ↦ differ' (sym (ap (λ y. cmp y x) e ∙ tied_itself o x) ∙ h.after k more l)
]
  where
    differ : Equal ≡ Less → ⊥
    differ e = cc

    differ' : Equal ≡ Greater → ⊥
    differ' e = cc

-- what std's binary search answers is a place
pub IsPlaceOf-search : {X : Type 0} {cmp : X → X → Ordering} (o : IsTotalOrder cmp) → ((x y : X) → cmp x y ≡ Equal → x ≡ y) → (entries : List X) (x : X) → Ascends cmp entries → (r : Result ℕ ℕ) → IsSearchInRange r (length entries) → IsBinarySearchResult (λ y. cmp y x) entries r → IsPlaceOf entries x (result_ok r)
IsPlaceOf-search o same entries x up (Ok place) there at = slice_get-get_or entries place x there ∙ ap Some (same (get_or entries place x) x (at x))
IsPlaceOf-search o same entries x up (Err place) bound parted =
    let point = parted (searchable_from_sorted o (λ y. y) entries x (sorted_from_Ascends o entries up)) in
    not_there o entries x place (record {
      ordered = omega arith;
      within = bound;
      before = λ k l. point.0 k x (omega arith) l;
      after = λ k from l. point.1 k x from l;
    })
