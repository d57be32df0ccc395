-- A block of places more.
use Rattle.std.proofs.Common.{◌≡◌, ℕ, ◌+◌, ◌<◌, List, Bool, true, false, ◌&&◌, ◌||◌, length, slice_index, slice_index_or, take, drop, fold, ◌∙◌, ap, sym}
use Rattle.std.specs.Prelude.{◌==◌}
use Rattle.std.specs.List.{list_any}
use Rattle.std.proofs.Math.Seq.{take-add}
use Rattle.std.proofs.lemmas.List.{get_or-drop, get_or-take, take-append-drop}
use Rattle.std.proofs.lemmas.List.Folds.{list_any-append}
use Rattle.batch_kernels.specs.Places.{places_with}
use Rattle.batch_kernels.proofs.Batches.{fold-batch, count-batch, place-same}

-- what stands at a place of a block
pub in-block : {A : Type 0} (xs : List A) (from n i : ℕ) (d : A) → i < n → slice_index_or (take n (drop from xs)) i d ≡ slice_index_or xs (from + i) d
in-block xs from n i d below = get_or-take n (drop from xs) i d below ∙ get_or-drop from xs i d

module _ (mask : List Bool) (keys : List ℕ) (from n k : ℕ) where
  alike : (i : ℕ) → i < n →
      (slice_index_or (take n (drop from mask)) i false && slice_index (take n (drop from keys)) i == k) ≡ (slice_index_or mask (from + i) false && slice_index keys (from + i) == k)
  alike i below =
      place-same (slice_index_or (take n (drop from mask)) i false) (slice_index_or mask (from + i) false) (slice_index (take n (drop from keys)) i) (slice_index keys (from + i)) k
      (in-block mask from n i false below) (in-block keys from n i 0 below)

  -- of a fold over the places with a key
  pub fold-block : {A : Type 0} (step g : A → ℕ → A) (a old : A) (m : ℕ) → m ≡ n → ((i : ℕ) (b : A) → i < n → g b i ≡ step b (from + i)) →
      old ≡ fold step a (places_with mask (slice_index keys) k from) →
      fold g old (places_with (take n (drop from mask)) (slice_index (take n (drop from keys))) k m) ≡ fold step a (places_with mask (slice_index keys) k (from + n))
  fold-block step g a old m same steps before =
      ap (λ j. fold g old (places_with (take n (drop from mask)) (slice_index (take n (drop from keys))) k j)) same
      ∙ ap (λ o. fold g o (places_with (take n (drop from mask)) (slice_index (take n (drop from keys))) k n)) before
      ∙ sym (fold-batch (λ i. slice_index_or mask i false && slice_index keys i == k) (λ i. slice_index_or (take n (drop from mask)) i false && slice_index (take n (drop from keys)) i == k) step g a from n alike steps)

  -- of how many places have a key
  pub count-block : (m : ℕ) → m ≡ n →
      length (places_with mask (slice_index keys) k from) + length (places_with (take n (drop from mask)) (slice_index (take n (drop from keys))) k m) ≡ length (places_with mask (slice_index keys) k (from + n))
  count-block m same =
      ap (λ j. length (places_with mask (slice_index keys) k from) + length (places_with (take n (drop from mask)) (slice_index (take n (drop from keys))) k j)) same
      ∙ sym (count-batch (λ i. slice_index_or mask i false && slice_index keys i == k) (λ i. slice_index_or (take n (drop from mask)) i false && slice_index (take n (drop from keys)) i == k) from n alike)

module _ {A : Type 0} (p : A → Bool) (xs : List A) where
  -- of whether one passes a test, where none did before
  pub any-block : (from n : ℕ) → list_any p (take from xs) ≡ false → list_any p (take (from + n) xs) ≡ list_any p (take n (drop from xs))
  any-block from n none =
      let block = take n (drop from xs) in
      ap (list_any p) (take-add from n xs) ∙ list_any-append p (take from xs) block ∙ ap (λ b. b || list_any p block) none

  -- one of the first is one of all
  pub any-first : (n : ℕ) → list_any p (take n xs) ≡ true → list_any p xs ≡ true
  any-first n some =
      sym (ap (list_any p) (take-append-drop n xs)) ∙ list_any-append p (take n xs) (drop n xs) ∙ ap (λ b. b || list_any p (drop n xs)) some
