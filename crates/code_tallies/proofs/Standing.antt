-- What is kept of the batches before one, and with it.
use Rattle.std.proofs.Common.{◌≡◌, ℕ, ◌+◌, ◌-◌, ◌*◌, ◌^◌, ◌<◌, ◌≤◌, ◌+ℤ◌, ℤ, pos, List, Bool, false, ◌&&◌, nat_le, length, fold, min, max, refl, subst, ◌∙◌, ap, arith}
use Rattle.std.specs.Prelude.{slice_index, slice_index_or}
use Rattle.cs_types.specs.Rows.{number_in}
use Rattle.batch_kernels.specs.Places.{key_in, places_with, sum_with, least_with, greatest_with, IsSumOf}
use Rattle.batch_kernels.proofs.OneMore.{IsSumOf-more}
use Rattle.code_tallies.specs.declared.chosen.Chosen.{Chosen}
use Rattle.code_tallies.specs.declared.chosen.Batch.{Batch}
use Rattle.code_tallies.specs.declared.column.Column.{Column}
use Rattle.code_tallies.specs.Columns.{cell_there, code_at}
use Rattle.code_tallies.specs.Keys.{key_at}
use Rattle.code_tallies.specs.Tables.{is_chosen, positions, present_in, present_positions, sum_at, least_at, greatest_at, AreCounts, AreSums, AreLeast, AreGreatest, HasCodes, IsBatch, reached}
use Rattle.code_tallies.proofs.BatchSteps.{fold-next, count-next, positions-next}
use Rattle.code_tallies.proofs.Counted.{positions-most}

-- where no row of a batch is chosen, what stands for those before stands with it
module _ (chosen : Chosen) (number : ℕ) (here : 1024 * number < chosen.length) (none : (i : ℕ) → i < min 1024 (chosen.length - 1024 * number) → is_chosen chosen (1024 * number + i) ≡ false) where
  unpresent : (column : Column) (i : ℕ) → i < min 1024 (chosen.length - 1024 * number) → present_in column (is_chosen chosen) (1024 * number + i) ≡ false
  unpresent column i below = ap (λ b. b && nat_le column.first (code_at column (1024 * number + i))) (none i below)

  same : (test : ℕ → Bool) → ((i : ℕ) → i < min 1024 (chosen.length - 1024 * number) → test (1024 * number + i) ≡ false) → (k : ℕ) →
      positions test (key_at chosen.keys.items) k (reached chosen number) ≡ positions test (key_at chosen.keys.items) k (reached chosen (number + 1))
  same test never k = positions-next chosen.length number (min 1024 (chosen.length - 1024 * number)) here refl test (key_at chosen.keys.items) k never

  counts-skipped : (test : ℕ → Bool) (counts : List ℕ) → ((i : ℕ) → i < min 1024 (chosen.length - 1024 * number) → test (1024 * number + i) ≡ false) →
      AreCounts chosen test (reached chosen number) counts → AreCounts chosen test (reached chosen (number + 1)) counts
  counts-skipped test counts never are = record {
    long = are.long;
    each = λ k within. are.each k within ∙ ap length (same test never k);
  }

  pub rows-skipped : (counts : List ℕ) → AreCounts chosen (is_chosen chosen) (reached chosen number) counts → AreCounts chosen (is_chosen chosen) (reached chosen (number + 1)) counts
  rows-skipped counts are = counts-skipped (is_chosen chosen) counts none are

  pub cells-skipped : (column : Column) (counts : List ℕ) → AreCounts chosen (present_in column (is_chosen chosen)) (reached chosen number) counts →
      AreCounts chosen (present_in column (is_chosen chosen)) (reached chosen (number + 1)) counts
  cells-skipped column counts are = counts-skipped (present_in column (is_chosen chosen)) counts (unpresent column) are

  pub sums-skipped : (column : Column) (sums : List ℤ) → AreSums chosen column (reached chosen number) sums → AreSums chosen column (reached chosen (number + 1)) sums
  sums-skipped column sums are =
      let P = present_in column (is_chosen chosen) in
      record {
        long = are.long;
        each = λ k within. are.each k within ∙ ap (sum_at column) (same P (unpresent column) k);
        bound = λ k within. subst (λ (at : List ℕ). IsSumOf (length at) (slice_index_or sums k (pos 0))) (same P (unpresent column) k) (are.bound k within);
      }

  pub least-skipped : (column : Column) (codes : List ℕ) → AreLeast chosen column (reached chosen number) codes → AreLeast chosen column (reached chosen (number + 1)) codes
  least-skipped column codes are = record {
    long = are.long;
    each = λ k within. are.each k within ∙ ap (least_at column) (same (present_in column (is_chosen chosen)) (unpresent column) k);
  }

  pub greatest-skipped : (column : Column) (codes : List ℕ) → AreGreatest chosen column (reached chosen number) codes → AreGreatest chosen column (reached chosen (number + 1)) codes
  greatest-skipped column codes are = record {
    long = are.long;
    each = λ k within. are.each k within ∙ ap (greatest_at column) (same (present_in column (is_chosen chosen)) (unpresent column) k);
  }

-- a batch more
module _ (chosen : Chosen) (test : ℕ → Bool) (number : ℕ) (batch : Batch) (is : IsBatch chosen test number batch) (here : 1024 * number < chosen.length) where
  masks : (i : ℕ) → i < batch.count → slice_index_or batch.mask i false ≡ test (1024 * number + i)
  masks i below = is.mask i below ∙ ap (λ m. test (m + i)) is.from

  keys : (i : ℕ) → i < batch.count → key_in batch.keys i ≡ key_at chosen.keys.items (1024 * number + i)
  keys i below = is.keys i below ∙ ap (λ m. key_at chosen.keys.items (m + i)) is.from

  next : {A : Type 0} (step g : A → ℕ → A) (a old : A) (k : ℕ) → ((i : ℕ) (b : A) → i < batch.count → g b i ≡ step b (batch.from + i)) →
      old ≡ fold step a (positions test (key_at chosen.keys.items) k (reached chosen number)) →
      fold g old (places_with batch.mask (key_in batch.keys) k batch.count) ≡ fold step a (positions test (key_at chosen.keys.items) k (reached chosen (number + 1)))
  next step g a old k steps before =
      fold-next chosen.length number batch.count here is.count test (key_at chosen.keys.items) batch.mask (key_in batch.keys) k masks keys step g a old
      (λ i b below. steps i b below ∙ ap (λ m. step b (m + i)) is.from) before

  added : (k old : ℕ) → old ≡ length (positions test (key_at chosen.keys.items) k (reached chosen number)) →
      old + length (places_with batch.mask (key_in batch.keys) k batch.count) ≡ length (positions test (key_at chosen.keys.items) k (reached chosen (number + 1)))
  added k old before = count-next chosen.length number batch.count here is.count test (key_at chosen.keys.items) batch.mask (key_in batch.keys) k old masks keys before

  pub counts-small : chosen.length < 2 ^ 59 → (counts : List ℕ) → AreCounts chosen test (reached chosen number) counts → (k : ℕ) → k < length counts → slice_index counts k + batch.count < 2 ^ 64
  counts-small few counts are k there =
      let most : length (positions test (key_at chosen.keys.items) k (reached chosen number)) ≤ reached chosen number = positions-most test (key_at chosen.keys.items) k (reached chosen number) in
      omega (arith, few, most, are.each k (omega (arith, there, are.long)), is.count)

  pub keys-below : {A : Type 0} (entries : List A) → length entries ≡ chosen.size → (i : ℕ) → i < batch.count → key_in batch.keys i < length entries
  keys-below entries long i below = omega (arith, long, is.below i below)

  pub counts-next : (old new : List ℕ) → length new ≡ length old → AreCounts chosen test (reached chosen number) old →
      ((k : ℕ) → k < length old → slice_index new k ≡ slice_index old k + length (places_with batch.mask (key_in batch.keys) k batch.count)) → AreCounts chosen test (reached chosen (number + 1)) new
  counts-next old new long are new_is = record {
    long = long ∙ are.long;
    each = λ k within. new_is k (omega (arith, within, are.long)) ∙ added k (slice_index old k) (are.each k within);
  }

-- a batch more of a column
module _ (chosen : Chosen) (column : Column) (number : ℕ) (batch : Batch) (is : IsBatch chosen (present_in column (is_chosen chosen)) number batch) (here : 1024 * number < chosen.length) where
  pub sums-small : chosen.length < 2 ^ 59 → (sums : List ℤ) → AreSums chosen column (reached chosen number) sums → (k : ℕ) → k < length sums → IsSumOf 4611686018427387904 (slice_index_or sums k (pos 0))
  sums-small few sums are k there =
      let within : k < chosen.size = omega (arith, there, are.long) in
      let count : ℕ = length (present_positions chosen column k (reached chosen number)) in
      let most : count ≤ reached chosen number = positions-most (present_in column (is_chosen chosen)) (key_at chosen.keys.items) k (reached chosen number) in
      IsSumOf-more count 4611686018427387904 (slice_index_or sums k (pos 0)) (omega (arith, most, few)) (are.bound k within)

  pub sums-next : (old new : List ℤ) (numbers : List ℤ) → length new ≡ length old → AreSums chosen column (reached chosen number) old →
      ((i : ℕ) → i < batch.count → slice_index_or numbers i (pos 0) ≡ number_in (cell_there column (batch.from + i))) →
      ((k : ℕ) → k < length old → slice_index_or new k (pos 0) ≡ sum_with (slice_index_or old k (pos 0)) numbers (places_with batch.mask (key_in batch.keys) k batch.count)) →
      ((k n : ℕ) → k < length old → IsSumOf n (slice_index_or old k (pos 0)) → IsSumOf (n + length (places_with batch.mask (key_in batch.keys) k batch.count)) (slice_index_or new k (pos 0))) →
      AreSums chosen column (reached chosen (number + 1)) new
  sums-next old new numbers long are numbers_are new_is bounded =
      let P = present_in column (is_chosen chosen) in
      record {
        long = long ∙ are.long;
        each = λ k within.
            new_is k (omega (arith, within, are.long))
            ∙ next chosen P number batch is here (λ s i. s +ℤ number_in (cell_there column i)) (λ s i. s +ℤ slice_index_or numbers i (pos 0)) (pos 0) (slice_index_or old k (pos 0)) k
            (λ i s below. ap (λ n. s +ℤ n) (numbers_are i below)) (are.each k within);
        bound = λ k within.
            let count : ℕ = length (present_positions chosen column k (reached chosen number)) in
            subst (λ n. IsSumOf n (slice_index_or new k (pos 0))) (added chosen P number batch is here k count refl)
            (bounded k count (omega (arith, within, are.long)) (are.bound k within));
      }

  pub least-next : (old new : List ℕ) → length new ≡ length old → HasCodes column batch → AreLeast chosen column (reached chosen number) old →
      ((k : ℕ) → k < length old → slice_index new k ≡ least_with (slice_index old k) batch.codes (places_with batch.mask (key_in batch.keys) k batch.count)) → AreLeast chosen column (reached chosen (number + 1)) new
  least-next old new long codes are new_is = record {
    long = long ∙ are.long;
    each = λ k within.
        new_is k (omega (arith, within, are.long))
        ∙ next chosen (present_in column (is_chosen chosen)) number batch is here (λ m i. min m (code_at column i)) (λ m i. min m (slice_index batch.codes i)) column.last (slice_index old k) k
        (λ i m below. ap (λ n. min m n) (codes i below)) (are.each k within);
  }

  pub greatest-next : (old new : List ℕ) → length new ≡ length old → HasCodes column batch → AreGreatest chosen column (reached chosen number) old →
      ((k : ℕ) → k < length old → slice_index new k ≡ greatest_with (slice_index old k) batch.codes (places_with batch.mask (key_in batch.keys) k batch.count)) → AreGreatest chosen column (reached chosen (number + 1)) new
  greatest-next old new long codes are new_is = record {
    long = long ∙ are.long;
    each = λ k within.
        new_is k (omega (arith, within, are.long))
        ∙ next chosen (present_in column (is_chosen chosen)) number batch is here (λ m i. max m (code_at column i)) (λ m i. max m (slice_index batch.codes i)) 0 (slice_index old k) k
        (λ i m below. ap (λ n. max m n) (codes i below)) (are.each k within);
  }
