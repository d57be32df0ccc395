-- Keys that ascend: where a search ends, and which keys lie apart from them.
use Rattle.std.proofs.Common.{◌≡◌, ℕ, ◌+◌, ◌-◌, ◌<◌, inl, inr, arith, Bool, true, false, cond, List, length, get_or, take, refl, sym, ◌∙◌, ap, subst, Some, Result, Ok, Err, is_eq, Less, Equal, Greater}
use Rattle.std.specs.Prelude.{is_ok}
use Rattle.std.specs.List.{list_any}
use Rattle.std.specs.List.Sorted.{IsSearchInRange, IsBinarySearchResult, IsNonDecreasingBy}
use Rattle.std.specs.Option.{ForSome}
use Rattle.std.specs.Ordering.{is_lt, ordering_index, ordering_reverse}
use Rattle.std.specs.FinMap as finite
use Rattle.std.proofs.lemmas.Cmp.{tied_itself}
use Rattle.std.proofs.lemmas.List.Folds.{list_any-from_Any, Any-from_list_any}
use Rattle.std.proofs.lemmas.Bool.{cases_lt}
use Rattle.std.proofs.lemmas.List.{get_or_default, get_or-take, length-take-le}
use Rattle.std.proofs.lemmas.List.Sorted.{searchable_from_sorted}
use Rattle.cs_types.specs.declared.Key.{Key}
use Rattle.cs_types.specs.Keys.{key_cmp, same_key}
use Rattle.cs_types.proofs.KeyLemmas.{key_total, one_key}
use Rattle.version_store.specs.declared.NewestChange.{NewestChange}
use Rattle.version_store.specs.Newest.{Changes, Ascend, noted_by, AreBefore, IsBetween}
use Rattle.version_store.proofs.Laid.{get-noted}

-- a key that is among these stands at a place
pub place_of : (keys : List Key) (key : Key) → list_any (same_key key) keys ≡ true → (k : ℕ) × (k < length keys) × ((d : Key) → get_or keys k d ≡ key)
place_of keys key is =
    let f = Any-from_list_any (same_key key) keys is in
    (f.0, f.2, λ d. get_or_default keys f.0 d f.1 f.2 ∙ f.3 ∙ sym (one_key key f.1 f.4))

by_cases : (b : Bool) → (b ≡ true → ⊥) → b ≡ false
by_cases true never = absurd (never refl)
by_cases false never = refl

module _ (keys : List Key) (up : Ascend keys) where
  -- ---- a search

  module _ (key : Key) where
    sorted : (k : ℕ) (d : Key) → k + 1 < length keys → is_lt (key_cmp (get_or keys (k + 1) d) (get_or keys k d)) ≡ false
    sorted k d l = ap is_lt (key_total.antisymm (get_or keys (k + 1) d) (get_or keys k d) ∙ ap ordering_reverse (up k (k + 1) d (omega arith) l))

    rising : IsNonDecreasingBy (λ (other : Key). ordering_index (key_cmp other key)) keys
    rising = searchable_from_sorted key_total (λ (other : Key). other) keys key (λ k d _ l. sorted k d l)

    -- a key that is there at no place
    missing : (place k : ℕ) (d : Key) → IsBinarySearchResult (λ (other : Key). key_cmp other key) keys (Err place) → k < length keys → same_key key (get_or keys k d) ≡ true → ⊥
    missing place k d parted within is = elim (cases_lt k place) [
      | inl less ↦ let e = (parted rising).0 k d (omega arith) less in differ e
      | inr more ↦ let e = (parted rising).1 k d more within in differ' e
    ]
      where
        equal : key_cmp (get_or keys k d) key ≡ Equal
        equal = ap (λ (other : Key). key_cmp other key) (sym (one_key key (get_or keys k d) is)) ∙ tied_itself key_total key

        differ : key_cmp (get_or keys k d) key ≡ Less → ⊥
        differ e = cc (equal, e)

        differ' : key_cmp (get_or keys k d) key ≡ Greater → ⊥
        differ' e = cc (equal, e)

    pub searched : (r : Result ℕ ℕ) → IsSearchInRange r (length keys) → IsBinarySearchResult (λ (other : Key). key_cmp other key) keys r → is_ok r ≡ list_any (same_key key) keys
    searched (Ok place) within equal =
        sym (list_any-from_Any (same_key key) keys (place, get_or keys place key, within, get_or_default keys place (get_or keys place key) key within, ap is_eq (key_total.antisymm key (get_or keys place key) ∙ ap ordering_reverse (equal key))))
    searched (Err place) within parted = by (list_any (same_key key) keys) refl
      where
        by : (b : Bool) → list_any (same_key key) keys ≡ b → false ≡ b
        by true e = let f = Any-from_list_any (same_key key) keys e in absurd (missing place f.0 f.1 parted f.2 (ap (same_key key) f.3 ∙ f.4))
        by false e = refl

  -- ---- keys below the first or above the last

  over : (a b : Key) → key_cmp a b ≡ Less → key_cmp b a ≡ Greater
  over a b is = key_total.antisymm b a ∙ ap ordering_reverse is

  under : (a b : Key) → key_cmp a b ≡ Greater → key_cmp b a ≡ Less
  under a b is = key_total.antisymm b a ∙ ap ordering_reverse is

  -- a key that stands among them is not below the first one
  not_below : (a key : Key) (d : Key) → key_cmp a (get_or keys 0 d) ≡ Less → list_any (same_key key) keys ≡ true → key_cmp a key ≡ Less
  not_below a key d is among =
      let at = place_of keys key among in
      elim (cases_lt 0 at.0) [
        | inl later ↦ key_total.trans a (get_or keys 0 d) key is (ap (key_cmp (get_or keys 0 d)) (sym (at.2 d)) ∙ up 0 at.0 d later at.1)
        | inr first ↦ let none : 0 ≡ at.0 = omega (arith, first) in subst (λ (k : Key). key_cmp a k ≡ Less) (ap (λ n. get_or keys n d) none ∙ at.2 d) is
      ]

  not_above : (b key : Key) (d : Key) → key_cmp (get_or keys (length keys - 1) d) b ≡ Less → list_any (same_key key) keys ≡ true → key_cmp key b ≡ Less
  not_above b key d is among =
      let at = place_of keys key among in
      elim (cases_lt at.0 (length keys - 1)) [
        | inl earlier ↦ key_total.trans key (get_or keys (length keys - 1) d) b (ap (λ (k : Key). key_cmp k (get_or keys (length keys - 1) d)) (sym (at.2 d)) ∙ up at.0 (length keys - 1) d earlier (let within = at.1 in omega (arith, within, earlier))) is
        | inr last ↦ let same : length keys - 1 ≡ at.0 = (let within = at.1 in omega (arith, within, last)) in subst (λ (k : Key). key_cmp k b ≡ Less) (ap (λ n. get_or keys n d) same ∙ at.2 d) is
      ]

  pub apart_below : (least greatest d : Key) → key_cmp (get_or keys (length keys - 1) d) least ≡ Less → (key : Key) → IsBetween least greatest key → list_any (same_key key) keys ≡ false
  apart_below least greatest d is key within = by_cases (list_any (same_key key) keys) (λ among. within.0 (over key least (not_above least key d is among)))

  pub apart_above : (least greatest d : Key) → key_cmp greatest (get_or keys 0 d) ≡ Less → (key : Key) → IsBetween least greatest key → list_any (same_key key) keys ≡ false
  apart_above least greatest d is key within = by_cases (list_any (same_key key) keys) (λ among. within.1 (over greatest key (not_below greatest key d is among)))

  -- each lies from the first to the last
  pub within_ends : (d key : Key) → list_any (same_key key) keys ≡ true → IsBetween (get_or keys 0 d) (get_or keys (length keys - 1) d) key
  within_ends d key among = (
    λ above. cc (not_below key key d (under (get_or keys 0 d) key above) among, tied_itself key_total key),
    λ above. cc (not_above key key d (under key (get_or keys (length keys - 1) d) above) among, tied_itself key_total key),
  )

  -- ---- noted one by one

  before_it : (i : ℕ) (d : Key) → i < length keys → list_any (same_key (get_or keys i d)) (take i keys) ≡ false
  before_it i d within = by_cases (list_any (same_key (get_or keys i d)) (take i keys)) (λ among. at (place_of (take i keys) (get_or keys i d) among))
    where
      at : (k : ℕ) × (k < length (take i keys)) × ((e : Key) → get_or (take i keys) k e ≡ get_or keys i d) → ⊥
      at (k, less, is) =
          let n = length-take-le i keys (omega (arith, within)) in
          let low : k < i = omega (arith, less, n) in
          let same = sym (get_or-take i keys k d low) ∙ is d in
          cc (up k i d low within, ap (λ (key : Key). key_cmp key (get_or keys i d)) same, tied_itself key_total (get_or keys i d))

  -- a key that is not noted yet has an older change
  pub still_older : (note : NewestChange) (noted now : Changes) (i : ℕ) (d : Key) → i < length keys → now ≡ noted_by note noted (take i keys) → AreBefore note.commit keys noted
      → ForSome (finite.get now (get_or keys i d)) (λ other. other.commit < note.commit)
  still_older note noted now i d there is older other found =
      let key : Key = get_or keys i d in
      older i d there other (sym (ap (λ (m : Changes). finite.get m key) is ∙ get-noted note noted (take i keys) key ∙ ap (λ (t : Bool). cond t (Some note) (finite.get noted key)) (before_it i d there)) ∙ found)
