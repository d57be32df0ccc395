-- The entries of the delete buffer that hide a version.
use Rattle.std.proofs.Common.{◌≡◌, ℕ, zero, suc, ◌<◌, ◌≤◌, Bool, true, false, ◌&&◌, ◌||◌, leb, ltb, List, [], ◌∷◌, length, get_or, refl, ap, ◌∙◌, inl, inr, arith}
use Rattle.std.specs.Prelude.{None, Some}
use Rattle.std.specs.List.{AllByRecursion}
use Rattle.std.proofs.lemmas.Bool.{cases_lt, lt-leb, le-leb, le-ltb, lt-ltb, or_right}
use Rattle.std.proofs.lemmas.List.Elements.{recursion_from_All}
use Rattle.cs_types.specs.declared.Key.{Key}
use Rattle.cs_types.specs.Keys.{same_key}
use Rattle.delete_buffer.specs.Entries.{Entry, IsLeastEnd}
use Rattle.group_book.specs.Book.{is_buffered}
use Rattle.group_book.proofs.Keys.{key_here, key_is}
use Rattle.group_book.proofs.Lists.{weaker}
use Rattle.group_view.specs.Views.{endings_of}

module _ (key : Key) (begin s : ℕ) where
  -- each entry of the key is at most at the begin, or above s
  abbrev IsPast : Entry → Type 0
  IsPast x = x.0 ≡ key → begin < x.1 → s < x.1

  past_step : (x : Entry) (t rest : Bool) → same_key key x.0 ≡ t → IsPast x → rest ≡ false → ((t && (ltb begin x.1 && leb x.1 s)) || rest) ≡ false
  past_step x false rest is past none = none
  past_step x true rest is past none = elim (cases_lt begin x.1) [
    | inl above ↦ rw (lt-ltb begin x.1 above, lt-leb x.1 s (past (key_is key x.0 is) above)) none
    | inr low ↦ rw (le-ltb begin x.1 low) none
  ]

  none_buffered : (entries : List Entry) → AllByRecursion IsPast entries → is_buffered (endings_of entries) key begin s ≡ false
  none_buffered [] all = refl
  none_buffered (x ∷ entries) all = past_step x (same_key key x.0) (is_buffered (endings_of entries) key begin s) refl all.0 (none_buffered entries all.1)

  one_step : (x : Entry) (end : ℕ) (t rest : Bool) → same_key key x.0 ≡ t → x ≡ (key, end) → begin < end → end ≤ s → ((t && (ltb begin x.1 && leb x.1 s)) || rest) ≡ true
  one_step x end false rest is here above within = let same = key_here key x.0 (ap (λ (y : Entry). y.0) here) in cc
  one_step x end true rest is here above within =
      let number : x.1 ≡ end = ap (λ (y : Entry). y.1) here in
      rw (lt-ltb begin x.1 (omega arith), le-leb x.1 s (omega arith)) refl

  one_buffered : (entries : List Entry) (end place : ℕ) → place < length entries → get_or entries place (key, end) ≡ (key, end) → begin < end → end ≤ s → is_buffered (endings_of entries) key begin s ≡ true
  one_buffered [] end place there here above within = absurd (omega (arith, there))
  one_buffered (x ∷ entries) end zero there here above within = one_step x end (same_key key x.0) (is_buffered (endings_of entries) key begin s) refl here above within
  one_buffered (x ∷ entries) end (suc place) there here above within =
      or_right (same_key key x.0 && (ltb begin x.1 && leb x.1 s)) (is_buffered (endings_of entries) key begin s) (one_buffered entries end place (omega (arith, there)) here above within)

  -- where the key has no end above the begin, none hides the version
  pub without_end : (entries : List Entry) → IsLeastEnd entries key begin None → is_buffered (endings_of entries) key begin s ≡ false
  without_end entries none =
      none_buffered entries (weaker (λ (x : Entry). x.0 ≡ key → x.1 ≤ begin) IsPast entries (λ x low same above. absurd (omega (arith, low same, above))) (recursion_from_All (λ (x : Entry). x.0 ≡ key → x.1 ≤ begin) entries none))

  -- the least end above the begin hides it, or none does
  pub by_least_end : (entries : List Entry) (end : ℕ) → IsLeastEnd entries key begin (Some end) → is_buffered (endings_of entries) key begin s ≡ leb end s
  by_least_end entries end least = elim (cases_lt s end) [
    | inl later ↦
        none_buffered entries (weaker (λ (x : Entry). x.0 ≡ key → begin < x.1 → end ≤ x.1) IsPast entries (λ x high same above. omega (arith, high same above, later)) (recursion_from_All (λ (x : Entry). x.0 ≡ key → begin < x.1 → end ≤ x.1) entries least.2))
        ∙ rw (lt-leb end s later) refl
    | inr within ↦ one_buffered entries end least.0.0 least.0.1 least.0.2 least.1 within ∙ rw (le-leb end s within) refl
  ]
