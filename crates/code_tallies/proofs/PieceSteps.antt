-- What is kept of the rows before a piece, and with it.
use Rattle.std.proofs.Common.{◌≡◌, ℕ, ◌+◌, ◌-◌, ◌<◌, ◌≤◌, ◌^◌, ◌⊎◌, inl, inr, ℤ, pos, ◌+ℤ◌, ◌*ℤ◌, List, Option, Bool, true, false, ◌&&◌, nat_le, cond, length, count_by, fold, min, max, refl, sym, ◌∙◌, ap, subst, arith, add-zero, FitsSigned, w64}
use Rattle.std.specs.Prelude.{slice_index, slice_index_or, slice_set, ◌==◌}
use Rattle.std.specs.List.{range_with_len}
use Rattle.std.specs.Option.{option_copied}
use Rattle.std.proofs.lemmas.Bool.{le-leb}
use Rattle.std.proofs.lemmas.Bool.Decides.{nat_tests}
use Rattle.std.proofs.lemmas.List.{length-set}
use Rattle.std.proofs.Math.Bool.{and-true, and-false}
use Rattle.cs_types.specs.Rows.{number_in}
use Rattle.column_segment.specs.Bodies.{cell_of_code}
use Rattle.batch_kernels.specs.Places.{IsSumOf}
use Rattle.batch_kernels.proofs.OneMore.{IsSumOf-more}
use Rattle.delete_bitmap.proofs.Counts.{count-most, count-same, none-counted}
use Rattle.code_tallies.specs.declared.chosen.Chosen.{Chosen}
use Rattle.code_tallies.specs.declared.column.Column.{Column}
use Rattle.code_tallies.specs.Columns.{code_at, cell_there}
use Rattle.code_tallies.specs.Keys.{key_at}
use Rattle.code_tallies.specs.Shown.{is_shown, shown_from}
use Rattle.code_tallies.specs.Tables.{IsEachShown, is_chosen, positions, present_in, present_positions, sum_at, least_at, greatest_at, AreCounts, AreSums, AreLeast, AreGreatest}
use Rattle.code_tallies.proofs.BatchSteps.{filter-skip}
use Rattle.code_tallies.proofs.Counted.{positions-most}
use Rattle.code_tallies.proofs.Again.{again, again-bound, again-greatest, again-least, again-sum, entry-written, piece-count, piece-fold}

-- in a piece the cells of a column that count are those of the rows that are shown, or none
module _ (chosen : Chosen) (column : Column) (from end code rows : ℕ) (each : IsEachShown chosen) (codes : (i : ℕ) → from ≤ i → i < end → code_at column i ≡ code)
    (counted : rows ≡ shown_from (option_copied chosen.shown) from (end - from)) where
  pub all-present : column.first ≤ code → (i : ℕ) → from ≤ i → i < end → present_in column (is_chosen chosen) i ≡ is_shown (option_copied chosen.shown) i
  all-present more i after below =
      ap (λ b. b && nat_le column.first (code_at column i)) (each i)
      ∙ ap (λ b. is_shown (option_copied chosen.shown) i && b) (ap (nat_le column.first) (codes i after below) ∙ le-leb column.first code more)
      ∙ and-true (is_shown (option_copied chosen.shown) i)

  none_shown : rows ≡ 0 → (i : ℕ) → from ≤ i → i < end → is_shown (option_copied chosen.shown) i ≡ false
  none_shown none i after below =
      let place : from + (i - from) ≡ i = omega (arith, after) in
      ap (is_shown (option_copied chosen.shown)) (sym place)
      ∙ none-counted (is_shown (option_copied chosen.shown)) from (end - from) (sym counted ∙ none) (i - from) (omega (arith, after, below))

  pub none-present : (rows ≡ 0) ⊎ (code < column.first) → (i : ℕ) → from ≤ i → i < end → present_in column (is_chosen chosen) i ≡ false
  none-present (inl none) i after below =
      ap (λ b. b && nat_le column.first (code_at column i)) (each i ∙ none_shown none i after below)
  none-present (inr less) i after below =
      let test : nat_le column.first code ≡ false = grind (arith, nat_tests) in
      ap (λ b. is_chosen chosen i && b) (ap (nat_le column.first) (codes i after below) ∙ test) ∙ and-false (is_chosen chosen i)

-- of a piece at most all rows are shown
pub shown-most : (shown : Option (List Bool)) (from n rows : ℕ) → rows ≡ shown_from shown from n → rows ≤ n
shown-most shown from n rows counted = omega (arith, counted, count-most (is_shown shown) from n)

module _ (chosen : Chosen) (from end j rows : ℕ) (some : from < end) (below : j < chosen.size) (keyed : (i : ℕ) → from ≤ i → i < end → key_at chosen.keys.items i ≡ j)
    (counted : rows ≡ shown_from (option_copied chosen.shown) from (end - from)) where
  abbrev many : ℕ
  many = end - from

  last : from + many ≡ end
  last = omega (arith, some)

  keys : (i : ℕ) → i < many → key_at chosen.keys.items (from + i) ≡ j
  keys i within = keyed (from + i) (omega arith) (omega (arith, within, some))

  -- where no position of the piece passes a test
  module _ (test : ℕ → Bool) (tested : (i : ℕ) → from ≤ i → i < end → test i ≡ false) where
    same : (k : ℕ) → positions test (key_at chosen.keys.items) k from ≡ positions test (key_at chosen.keys.items) k end
    same k =
        sym (filter-skip (λ i. test i && key_at chosen.keys.items i == k) from many
        (λ i within. ap (λ b. b && key_at chosen.keys.items (from + i) == k) (tested (from + i) (omega arith) (omega (arith, within, some)))))
        ∙ ap (positions test (key_at chosen.keys.items) k) last

    pub counts-past : (counts : List ℕ) → AreCounts chosen test from counts → AreCounts chosen test end counts
    counts-past counts are = record { long = are.long; each = λ k within. are.each k within ∙ ap length (same k) }

  -- where those that are shown pass it
  module _ (test : ℕ → Bool) (tested : (i : ℕ) → from ≤ i → i < end → test i ≡ is_shown (option_copied chosen.shown) i) where
    passing : rows ≡ count_by test (range_with_len from many)
    passing =
        counted ∙ sym (count-same test (is_shown (option_copied chosen.shown)) from from many (λ i within. tested (from + i) (omega arith) (omega (arith, within, some))))

    count : (k : ℕ) → length (positions test (key_at chosen.keys.items) k end) ≡ length (positions test (key_at chosen.keys.items) k from) + cond (j == k) rows 0
    count k =
        ap (λ m. length (positions test (key_at chosen.keys.items) k m)) (sym last) ∙ piece-count test (key_at chosen.keys.items) from many j rows passing keys k

    folded : {A : Type 0} (k : ℕ) (step : A → ℕ → A) (g : A → A) (a : A) → ((i : ℕ) (x : A) → from ≤ i → i < end → g x ≡ step x i) →
        fold step a (positions test (key_at chosen.keys.items) k end)
        ≡ cond (j == k) (again g (fold step a (positions test (key_at chosen.keys.items) k from)) rows) (fold step a (positions test (key_at chosen.keys.items) k from))
    folded k step g a steps =
        ap (λ m. fold step a (positions test (key_at chosen.keys.items) k m)) (sym last)
        ∙ piece-fold test (key_at chosen.keys.items) from many j rows passing keys k step g a (λ i x within. steps (from + i) x (omega arith) (omega (arith, within, some)))

    added : (n : ℕ) (b : Bool) → cond b (n + rows) n ≡ n + cond b rows 0
    added n true = refl
    added n false = sym (add-zero n)

    pub counts-piece : (old : List ℕ) → AreCounts chosen test from old → AreCounts chosen test end (slice_set old j (slice_index old j + rows))
    counts-piece old are = record {
      long = length-set old j (slice_index old j + rows) ∙ are.long;
      each = λ k within.
          entry-written old 0 (slice_index old j + rows) (λ n. n + rows) j k (omega (arith, below, are.long)) refl
          ∙ added (slice_index old k) (j == k)
          ∙ ap (λ n. n + cond (j == k) rows 0) (are.each k within)
          ∙ sym (count k);
    }

    pub counts-room : chosen.length < 2 ^ 59 → end ≤ chosen.length → (old : List ℕ) → AreCounts chosen test from old → slice_index old j + rows < 2 ^ 64
    counts-room few within old are =
        let most : length (positions test (key_at chosen.keys.items) j from) ≤ from = positions-most test (key_at chosen.keys.items) j from in
        let shown : rows ≤ many = shown-most (option_copied chosen.shown) from many rows counted in
        omega (arith, few, within, most, are.each j below, some, shown)

  -- a piece of which no cell counts in a column
  module _ (column : Column) (tested : (i : ℕ) → from ≤ i → i < end → present_in column (is_chosen chosen) i ≡ false) where
    none : (k : ℕ) → present_positions chosen column k from ≡ present_positions chosen column k end
    none k = same (present_in column (is_chosen chosen)) tested k

    pub sums-past : (sums : List ℤ) → AreSums chosen column from sums → AreSums chosen column end sums
    sums-past sums are = record {
      long = are.long;
      each = λ k within. are.each k within ∙ ap (sum_at column) (none k);
      bound = λ k within. subst (λ (at : List ℕ). IsSumOf (length at) (slice_index_or sums k (pos 0))) (none k) (are.bound k within);
    }

    pub least-past : (codes : List ℕ) → AreLeast chosen column from codes → AreLeast chosen column end codes
    least-past codes are = record { long = are.long; each = λ k within. are.each k within ∙ ap (least_at column) (none k) }

    pub greatest-past : (codes : List ℕ) → AreGreatest chosen column from codes → AreGreatest chosen column end codes
    greatest-past codes are = record { long = are.long; each = λ k within. are.each k within ∙ ap (greatest_at column) (none k) }

  -- a piece of one code in a column that is not NULL's
  module _ (column : Column) (code : ℕ) (tested : (i : ℕ) → from ≤ i → i < end → present_in column (is_chosen chosen) i ≡ is_shown (option_copied chosen.shown) i)
      (codes : (i : ℕ) → from ≤ i → i < end → code_at column i ≡ code) where
    pub least-piece : 0 < rows → (old : List ℕ) → AreLeast chosen column from old → AreLeast chosen column end (slice_set old j (min (slice_index old j) code))
    least-piece shown old are = record {
      long = length-set old j (min (slice_index old j) code) ∙ are.long;
      each = λ k within.
          entry-written old 0 (min (slice_index old j) code) (λ m. again (λ x. min x code) m rows) j k (omega (arith, below, are.long)) (sym (again-least code (slice_index old j) rows shown))
          ∙ ap (λ m. cond (j == k) (again (λ x. min x code) m rows) m) (are.each k within)
          ∙ sym (folded (present_in column (is_chosen chosen)) tested k (λ m i. min m (code_at column i)) (λ m. min m code) column.last
          (λ i m after within. ap (λ c. min m c) (sym (codes i after within))));
    }

    pub greatest-piece : 0 < rows → (old : List ℕ) → AreGreatest chosen column from old → AreGreatest chosen column end (slice_set old j (max (slice_index old j) code))
    greatest-piece shown old are = record {
      long = length-set old j (max (slice_index old j) code) ∙ are.long;
      each = λ k within.
          entry-written old 0 (max (slice_index old j) code) (λ m. again (λ x. max x code) m rows) j k (omega (arith, below, are.long)) (sym (again-greatest code (slice_index old j) rows shown))
          ∙ ap (λ m. cond (j == k) (again (λ x. max x code) m rows) m) (are.each k within)
          ∙ sym (folded (present_in column (is_chosen chosen)) tested k (λ m i. max m (code_at column i)) (λ m. max m code) 0
          (λ i m after within. ap (λ c. max m c) (sym (codes i after within))));
    }

    module _ (number : ℤ) (is : number ≡ number_in (cell_of_code column.segment.now.body code)) (fits : FitsSigned w64 number) (old : List ℤ) (are : AreSums chosen column from old) where
      abbrev pub sum : ℤ
      sum = slice_index_or old j (pos 0) +ℤ (number *ℤ pos rows)

      entry : (k : ℕ) → slice_index_or (slice_set old j sum) k (pos 0)
          ≡ cond (j == k) (again (λ s. s +ℤ number) (slice_index_or old k (pos 0)) rows) (slice_index_or old k (pos 0))
      entry k =
          entry-written old (pos 0) sum (λ s. again (λ t. t +ℤ number) s rows) j k (omega (arith, below, are.long)) (sym (again-sum number (slice_index_or old j (pos 0)) rows))

      bounded : (k m : ℕ) (b : Bool) → IsSumOf m (slice_index_or old k (pos 0)) →
          IsSumOf (m + cond b rows 0) (cond b (again (λ s. s +ℤ number) (slice_index_or old k (pos 0)) rows) (slice_index_or old k (pos 0)))
      bounded k m true before = again-bound number (slice_index_or old k (pos 0)) rows m fits before
      bounded k m false before = subst (λ n. IsSumOf n (slice_index_or old k (pos 0))) (sym (add-zero m)) before

      pub sums-piece : AreSums chosen column end (slice_set old j sum)
      sums-piece = record {
        long = length-set old j sum ∙ are.long;
        each = λ k within.
            entry k
            ∙ ap (λ s. cond (j == k) (again (λ t. t +ℤ number) s rows) s) (are.each k within)
            ∙ sym (folded (present_in column (is_chosen chosen)) tested k (λ s i. s +ℤ number_in (cell_there column i)) (λ s. s +ℤ number) (pos 0)
            (λ i s after within. ap (λ n. s +ℤ n) (is ∙ ap (λ c. number_in (cell_of_code column.segment.now.body c)) (sym (codes i after within)))));
        bound = λ k within.
            subst (λ n. IsSumOf n (slice_index_or (slice_set old j sum) k (pos 0))) (sym (count (present_in column (is_chosen chosen)) tested k))
            (subst (IsSumOf (length (present_positions chosen column k from) + cond (j == k) rows 0)) (sym (entry k))
            (bounded k (length (present_positions chosen column k from)) (j == k) (are.bound k within)));
      }

      pub sums-room : chosen.length < 2 ^ 59 → from < chosen.length → IsSumOf 576460752303423488 (slice_index_or old j (pos 0))
      sums-room few within =
          IsSumOf-more (length (present_positions chosen column j from)) 576460752303423488 (slice_index_or old j (pos 0))
          (omega (arith, few, within, positions-most (present_in column (is_chosen chosen)) (key_at chosen.keys.items) j from)) (are.bound j below)
