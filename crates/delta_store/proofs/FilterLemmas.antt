-- Marks in the slots of keys.
use Rattle.std.proofs.Common.{◌≡◌, ℕ, ◌<◌, inl, inr, Bool, true, false, cond, List, [], ◌∷◌, ◌++◌, length, get_or, set, None, Some, refl, sym, ap, ◌∙◌, IsTrue, arith}
use Rattle.std.specs.Option.{option_or}
use Rattle.std.proofs.lemmas.Bool.{cases_eq}
use Rattle.std.proofs.lemmas.List.{length-set, get_or-set_same, get_or-set_other}
use Rattle.cs_types.specs.declared.Key.{Key}
use Rattle.cs_types.specs.Keys.{same_key}
use Rattle.cs_types.proofs.KeyLemmas.{one_key}
use Rattle.delta_store.specs.Filters.{slot_of, may_have, AreAllAdmitted}
use Rattle.delta_store.specs.Index.{place_in, SetsOnly}
use Rattle.delta_store.proofs.Pairs.{place_in-append}

differ : true ≡ false → ⊥
differ e = cc

-- a filter that admits every key
pub admitted-all : (marks : List Bool) (pairs : List (Key × ℕ)) → ((key : Key) → IsTrue (may_have marks key)) → AreAllAdmitted marks pairs
admitted-all marks pairs all q none = absurd (differ (sym (all q) ∙ none))

-- a key that is not admitted is another one than one that is
other : (marks : List Bool) (key q : Key) → IsTrue (may_have marks key) → may_have marks q ≡ false → same_key key q ≡ false
other marks key q has none = step (same_key key q) refl
  where
    step : (t : Bool) → same_key key q ≡ t → same_key key q ≡ false
    step true is = absurd (differ (sym has ∙ ap (may_have marks) (one_key key q is) ∙ none))
    step false is = is

-- the slot of a key is marked, among so many
module _ (marks : List Bool) (count at : ℕ) (key : Key) (sized : length marks ≡ count) (is : at ≡ slot_of count key) (within : at < count) where
  abbrev marked : List Bool
  marked = set marks at true

  at_slot : (q : Key) → may_have marked q ≡ get_or marked (slot_of count q) true
  at_slot q = ap (λ n. get_or marked (slot_of n q) true) (length-set marks at true ∙ sized)

  is_marked : get_or marked at true ≡ true
  is_marked = get_or-set_same marks at true true (omega (arith, sized, within))

  pub added : IsTrue (may_have marked key)
  added = at_slot key ∙ ap (λ n. get_or marked n true) (sym is) ∙ is_marked

  -- what is not admitted then was not before
  pub before : (q : Key) → may_have marked q ≡ false → may_have marks q ≡ false
  before q none = elim (cases_eq (slot_of count q) at) [
    | inl same ↦ absurd (differ (sym (at_slot q ∙ ap (λ n. get_or marked n true) same ∙ is_marked) ∙ none))
    | inr differs ↦ ap (λ n. get_or marks (slot_of n q) true) sized ∙ sym (get_or-set_other marks at (slot_of count q) true true differs) ∙ sym (at_slot q) ∙ none
  ]

-- one filter after a key was added, and the filter before it
module _ (old new : List Bool) (key : Key) (added : IsTrue (may_have new key)) (kept : (q : Key) → may_have new q ≡ false → may_have old q ≡ false) where
  -- so the key's pair may stand after others
  pub admitted-more : (pairs : List (Key × ℕ)) (place : ℕ) → AreAllAdmitted old pairs → AreAllAdmitted new (pairs ++ (key, place) ∷ [])
  admitted-more pairs place all q none =
      place_in-append pairs ((key, place) ∷ []) q
      ∙ ap (λ o. option_or o (place_in ((key, place) ∷ []) q)) (all q (kept q none))
      ∙ ap (λ t. cond t (Some place) None) (other new key q added none)

  -- and the key may have a place among pairs, the others theirs
  pub admitted-set : (pairs after : List (Key × ℕ)) (place : ℕ) → SetsOnly pairs after key place → AreAllAdmitted old pairs → AreAllAdmitted new after
  admitted-set pairs after place sets all q none =
      sets q
      ∙ ap (λ t. cond t (Some place) (place_in pairs q)) (other new key q added none)
      ∙ all q (kept q none)
