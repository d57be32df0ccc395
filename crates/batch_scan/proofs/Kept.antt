-- The positions of a packed group that are read and kept, and the rows there.
use Rattle.std.proofs.Common.{◌≡◌, ℕ, zero, suc, ◌+◌, ◌<◌, ◌≤◌, Bool, true, false, ◌&&◌, cond, List, [], ◌∷◌, ◌++◌, length, get_or, map, filter, take, refl, sym, ap, subst, ◌∙◌, append_assoc, arith}
use Rattle.std.specs.Prelude.{Option, None, Some, slice_get, slice_index_or}
use Rattle.std.specs.List.{All, filter_map, range_with_len}
use Rattle.std.specs.Map.{values_of}
use Rattle.std.specs.Option.{option_and_then, option_map, option_to_list}
use Rattle.std.proofs.lemmas.List.{append-nil, get_or-map, map-append, take_all}
use Rattle.std.proofs.lemmas.List.Elements.{All-append, All-cons, All-nil, filter-append}
use Rattle.std.proofs.lemmas.Option.{get_or_from_slice_get, same_Some}
use Rattle.cs_types.specs.declared.Key.{Key}
use Rattle.cs_types.specs.declared.Schema.{Schema}
use Rattle.cs_types.specs.declared.Value.{Value}
use Rattle.cs_types.specs.Rows.{key_in, padded}
use Rattle.cs_model.specs.declared.pred.Pred.{Pred}
use Rattle.cs_model.specs.Answers.{chosen}
use Rattle.cs_model.specs.Changes.{Table}
use Rattle.cs_model.specs.Queries.{keeps}
use Rattle.delete_bitmap.specs.declared.MarkedEnd.{MarkedEnd}
use Rattle.delete_bitmap.specs.Marks.{end_at}
use Rattle.row_group.specs.Groups.{Group, row_at}
use Rattle.row_group.specs.Rows.{PackedRow}
use Rattle.batch_kernels.specs.Places.{places}
use Rattle.batch_kernels.proofs.OneMore.{filter-more}
use Rattle.group_view.specs.declared.view.Pinned.{Pinned}
use Rattle.group_view.specs.Parts.{Rowed, packed_version, packed_versions}
use Rattle.group_view.specs.Views.{version_at}
use Rattle.group_view.proofs.Versions.{length-packed_versions, packed_read}
use Rattle.batch_scan.specs.Reads.{is_read, read_flags, read_row, rowed_at}
use Rattle.batch_scan.specs.Scans.{is_kept, kept_positions, positions_kept, verdicts_of}
use Rattle.batch_scan.proofs.Flags.{length-flags}
use Rattle.batch_scan.proofs.Padded.{keeps_padded}
use Rattle.batch_scan.proofs.Seen.{at_place}
use Rattle.batch_scan.proofs.Walks.{read_more}

-- ---- the first places

one_mapped : {Y : Type 0} (g : ℕ → Y) (n : ℕ) (b : Bool) → map g (cond b (n ∷ []) []) ≡ cond b (g n ∷ []) []
one_mapped g n true = refl
one_mapped g n false = refl

-- one place more
mapped_more : {Y : Type 0} (g : ℕ → Y) (p : ℕ → Bool) (n : ℕ) → map g (filter p (range_with_len 0 (n + 1))) ≡ map g (filter p (range_with_len 0 n)) ++ cond (p n) (g n ∷ []) []
mapped_more g p n =
    ap (map g) (filter-more p n) ∙ map-append g (filter p (range_with_len 0 n)) (cond (p n) (n ∷ []) [])
    ∙ ap (λ l. map g (filter p (range_with_len 0 n)) ++ l) (one_mapped g n (p n))

-- tests that answer alike at each of them
pub filter_alike : (p q : ℕ → Bool) (n : ℕ) → ((i : ℕ) → i < n → p i ≡ q i) → filter p (range_with_len 0 n) ≡ filter q (range_with_len 0 n)
filter_alike p q zero alike = refl
filter_alike p q (suc n) alike =
    let next : suc n ≡ n + 1 = omega arith in
    let front = filter_alike p q n (λ i less. alike i (omega (arith, less))) in
    ap (λ k. filter p (range_with_len 0 k)) next ∙ filter-more p n ∙ ap (λ l. l ++ cond (p n) (n ∷ []) []) front
    ∙ ap (λ b. filter q (range_with_len 0 n) ++ cond b (n ∷ []) []) (alike n (omega arith))
    ∙ sym (ap (λ k. filter q (range_with_len 0 k)) next ∙ filter-more q n)

-- a test that none of them passes
pub filter_none : (p : ℕ → Bool) (n : ℕ) → ((i : ℕ) → i < n → p i ≡ false) → filter p (range_with_len 0 n) ≡ []
filter_none p zero none = refl
filter_none p (suc n) none =
    let next : suc n ≡ n + 1 = omega arith in
    ap (λ k. filter p (range_with_len 0 k)) next ∙ filter-more p n ∙ ap (λ l. l ++ cond (p n) (n ∷ []) []) (filter_none p n (λ i less. none i (omega (arith, less))))
    ∙ ap (λ b. cond b (n ∷ []) []) (none n (omega arith))

-- each that passes is one of them
pub filter_within : (p : ℕ → Bool) (n m : ℕ) → n ≤ m → All (λ i. (i < m) × (p i ≡ true)) (filter p (range_with_len 0 n))
filter_within p zero m low = All-nil (λ i. (i < m) × (p i ≡ true))
filter_within p (suc n) m low =
    let next : suc n ≡ n + 1 = omega arith in
    let there : n < m = omega (arith, low) in
    subst (All (λ i. (i < m) × (p i ≡ true))) (sym (ap (λ k. filter p (range_with_len 0 k)) next ∙ filter-more p n))
    (All-append (λ i. (i < m) × (p i ≡ true)) (filter p (range_with_len 0 n)) (cond (p n) (n ∷ []) []) (filter_within p n m (omega (arith, low))) (last (p n) refl there))
  where
    last : (b : Bool) → p n ≡ b → n < m → All (λ i. (i < m) × (p i ≡ true)) (cond b (n ∷ []) [])
    last true is there = All-cons (λ i. (i < m) × (p i ≡ true)) n [] (there, is) (All-nil (λ i. (i < m) × (p i ≡ true)))
    last false is there = All-nil (λ i. (i < m) × (p i ≡ true))

-- the places of a mask after those of a batch before it
pub places_more : (p : ℕ → Bool) (mask : List Bool) (from n : ℕ) → ((i : ℕ) → i < n → slice_index_or mask i false ≡ p (from + i))
    → filter p (range_with_len 0 from) ++ map (λ i. from + i) (places mask n) ≡ filter p (range_with_len 0 (from + n))
places_more p mask from zero is =
    let same : from + zero ≡ from = omega arith in
    append-nil (filter p (range_with_len 0 from)) ∙ ap (λ k. filter p (range_with_len 0 k)) (sym same)
places_more p mask from (suc n) is =
    let next : suc n ≡ n + 1 = omega arith in
    let shifted : from + n + 1 ≡ from + suc n = omega arith in
    let front = filter p (range_with_len 0 from) in
    let before = map (λ i. from + i) (places mask n) in
    let last = cond (slice_index_or mask n false) ((from + n) ∷ []) [] in
    ap (λ k. front ++ map (λ i. from + i) (places mask k)) next
    ∙ ap (λ l. front ++ l) (mapped_more (λ i. from + i) (λ i. slice_index_or mask i false) n)
    ∙ sym (append_assoc front before last)
    ∙ ap (λ l. l ++ last) (places_more p mask from n (λ i less. is i (omega (arith, less))))
    ∙ ap (λ b. filter p (range_with_len 0 (from + n)) ++ cond b ((from + n) ∷ []) []) (is n (omega arith))
    ∙ sym (filter-more p (from + n)) ∙ ap (λ k. filter p (range_with_len 0 k)) shifted

-- one place that is pushed where the mask chooses it
pub place_pushed : (mask : List Bool) (from n : ℕ) (initial old new : List ℕ) (t : Bool) → slice_index_or mask n false ≡ t → old ≡ initial ++ map (λ i. from + i) (places mask n) → new ≡ old ++ cond t ((from + n) ∷ []) []
    → new ≡ initial ++ map (λ i. from + i) (places mask (n + 1))
place_pushed mask from n initial old new t is before here =
    here ∙ ap (λ l. l ++ cond t ((from + n) ∷ []) []) before ∙ append_assoc initial (map (λ i. from + i) (places mask n)) (cond t ((from + n) ∷ []) [])
    ∙ ap (λ b. initial ++ (map (λ i. from + i) (places mask n) ++ cond b ((from + n) ∷ []) [])) (sym is)
    ∙ ap (λ l. initial ++ l) (sym (mapped_more (λ i. from + i) (λ i. slice_index_or mask i false) n))

no_place : (xs : List ℕ) → length xs ≡ 0 → xs ≡ []
no_place [] none = refl
no_place (x ∷ xs) none = absurd (omega (arith, none))

-- where the mask chooses none, nothing comes to them
pub places_none : (p : ℕ → Bool) (mask : List Bool) (from n : ℕ) → ((i : ℕ) → i < n → slice_index_or mask i false ≡ p (from + i)) → length (places mask n) ≡ 0
    → filter p (range_with_len 0 from) ≡ filter p (range_with_len 0 (from + n))
places_none p mask from n is none =
    sym (ap (λ l. filter p (range_with_len 0 from) ++ map (λ i. from + i) l) (no_place (places mask n) none) ∙ append-nil (filter p (range_with_len 0 from))) ∙ places_more p mask from n is

-- what is read and kept of a list is found by the places in it
module _ {X Y : Type 0} (f : X → Option Y) (q : Y → Bool) (p : ℕ → Bool) (g : ℕ → Y) (xs : List X) (each : (i : ℕ) → i < length xs → filter q (option_to_list (option_and_then f (slice_get xs i))) ≡ cond (p i) (g i ∷ []) []) where
  taken_by_places : (n : ℕ) → n ≤ length xs → filter q (filter_map f (take n xs)) ≡ map g (filter p (range_with_len 0 n))
  taken_by_places zero low = refl
  taken_by_places (suc n) low =
      let next : suc n ≡ n + 1 = omega arith in
      let last = option_to_list (option_and_then f (slice_get xs n)) in
      ap (λ k. filter q (filter_map f (take k xs))) next ∙ ap (filter q) (read_more f xs n) ∙ filter-append q (filter_map f (take n xs)) last
      ∙ ap (λ l. l ++ filter q last) (taken_by_places n (omega (arith, low)))
      ∙ ap (λ l. map g (filter p (range_with_len 0 n)) ++ l) (each n (omega (arith, low)))
      ∙ sym (ap (λ k. map g (filter p (range_with_len 0 k))) next ∙ mapped_more g p n)

  pub by_places : filter q (filter_map f xs) ≡ map g (filter p (range_with_len 0 (length xs)))
  by_places = ap (λ ys. filter q (filter_map f ys)) (sym (take_all (length xs) xs (omega arith))) ∙ taken_by_places (length xs) (omega arith)

-- rows that are kept, with their keys or without
pub values_chosen : (schema : Schema) (condition : Option Pred) (rows : Table) → filter (keeps schema condition) (values_of rows) ≡ values_of (chosen schema condition rows)
values_chosen schema condition [] = refl
values_chosen schema condition (entry ∷ rows) = step (keeps schema condition entry.1) (values_chosen schema condition rows)
  where
    step : (b : Bool) → filter (keeps schema condition) (values_of rows) ≡ values_of (chosen schema condition rows)
        → cond b (entry.1 ∷ filter (keeps schema condition) (values_of rows)) (filter (keeps schema condition) (values_of rows)) ≡ values_of (cond b (entry ∷ chosen schema condition rows) (chosen schema condition rows))
    step true rest = ap (λ l. entry.1 ∷ l) rest
    step false rest = rest

-- ---- a packed group

-- the row at a position in the table's cells, by its key
abbrev pub entry_at : ℕ → Group → ℕ → Key × List Value
entry_at width group position = (key_in group.key (row_at group position).cells, padded width (row_at group position).cells)

one_kept : {Y : Type 0} (q : Y → Bool) (y : Y) (t b : Bool) → q y ≡ b → filter q (option_to_list (cond t (Some y) None)) ≡ cond (b && t) (y ∷ []) []
one_kept q y true true is = ap (λ k. cond k (y ∷ []) []) is
one_kept q y true false is = ap (λ k. cond k (y ∷ []) []) is
one_kept q y false true is = refl
one_kept q y false false is = refl

module _ (pinned : Pinned) (schema : Schema) (condition : Option Pred) (group : Group) (marks : List (Option MarkedEnd)) (fits : length marks ≡ length group.rows) where
  abbrev versions : List Rowed
  versions = packed_versions group.key group.rows marks

  abbrev flags : List Bool
  flags = read_flags pinned group marks

  abbrev width : ℕ
  width = length schema.columns

  counted : length versions ≡ length group.rows
  counted = length-packed_versions group.key group.rows marks fits

  abbrev version : ℕ → Rowed
  version position = packed_version group.key (row_at group position) (end_at marks position)

  pub version_is : (position : ℕ) → position < length group.rows → slice_get (packed_versions group.key group.rows marks) position ≡ Some (packed_version group.key (row_at group position) (end_at marks position))
  version_is position there = packed_read group marks position (omega (arith, there, counted))

  pub flag_is_read : (position : ℕ) → position < length group.rows → slice_index_or (read_flags pinned group marks) position false ≡ is_read pinned (packed_version group.key (row_at group position) (end_at marks position))
  flag_is_read position there =
      get_or-map (is_read pinned) versions position (version position) false (omega (arith, there, counted))
      ∙ ap (is_read pinned) (get_or_from_slice_get versions position (version position) (version position) (version_is position there))

  each_one : (i : ℕ) → i < length versions → filter (λ (entry : Key × List Value). keeps schema condition entry.1) (option_to_list (option_and_then (read_row width pinned) (slice_get versions i)))
      ≡ cond (keeps schema condition (row_at group i).cells && slice_index_or flags i false) (entry_at width group i ∷ []) []
  each_one i below =
      let there : i < length group.rows = omega (arith, below, counted) in
      let kept : keeps schema condition (padded width (row_at group i).cells) ≡ keeps schema condition (row_at group i).cells = sym (keeps_padded schema condition (row_at group i).cells) in
      ap (λ o. filter (λ (entry : Key × List Value). keeps schema condition entry.1) (option_to_list (option_and_then (read_row width pinned) o))) (version_is i there)
      ∙ one_kept (λ (entry : Key × List Value). keeps schema condition entry.1) (entry_at width group i) (is_read pinned (version i)) (keeps schema condition (row_at group i).cells) kept
      ∙ ap (λ t. cond (keeps schema condition (row_at group i).cells && t) (entry_at width group i ∷ []) []) (sym (flag_is_read i there))

  -- what is read of a packed group and kept stands at these positions
  pub chosen_at_positions : chosen schema condition (filter_map (read_row (length schema.columns) pinned) (packed_versions group.key group.rows marks)) ≡ map (entry_at (length schema.columns) group) (kept_positions pinned schema condition group marks)
  chosen_at_positions =
      by_places (read_row width pinned) (λ (entry : Key × List Value). keeps schema condition entry.1) (λ i. keeps schema condition (row_at group i).cells && slice_index_or flags i false) (entry_at width group) versions each_one
      ∙ ap (λ n. map (entry_at width group) (filter (λ i. keeps schema condition (row_at group i).cells && slice_index_or flags i false) (range_with_len 0 n))) counted

  -- the sieve of the condition tells them
  sieved : (o : Option Pred) → o ≡ condition → (i : ℕ) → i < length group.rows → is_kept (verdicts_of schema o group) i ≡ keeps schema condition (row_at group i).cells
  sieved None is i there = ap (λ o. keeps schema o (row_at group i).cells) is
  sieved (Some pred) is i there =
      get_or-map (λ (row : PackedRow). keeps schema (Some pred) row.cells) group.rows i (record { cells = []; begin = 0 }) false there ∙ ap (λ o. keeps schema o (row_at group i).cells) is

  pub positions_sieved : positions_kept (read_flags pinned group marks) (verdicts_of schema condition group) ≡ kept_positions pinned schema condition group marks
  positions_sieved =
      ap (λ n. filter (λ i. is_kept (verdicts_of schema condition group) i && slice_index_or flags i false) (range_with_len 0 n)) (length-flags pinned group marks fits)
      ∙ filter_alike (λ i. is_kept (verdicts_of schema condition group) i && slice_index_or flags i false) (λ i. keeps schema condition (row_at group i).cells && slice_index_or flags i false) (length group.rows)
      (λ i there. ap (λ b. b && slice_index_or flags i false) (sieved condition refl i there))

  and_false : (b : Bool) → (b && false) ≡ false
  and_false true = refl
  and_false false = refl

  -- where nothing is read there are none
  pub positions_nowhere : All (λ (flag : Bool). flag ≡ false) (read_flags pinned group marks) → [] ≡ kept_positions pinned schema condition group marks
  positions_nowhere none =
      sym (filter_none (λ i. keeps schema condition (row_at group i).cells && slice_index_or flags i false) (length group.rows)
      (λ i there. ap (λ b. keeps schema condition (row_at group i).cells && b) (none i false (omega (arith, there, length-flags pinned group marks fits))) ∙ and_false (keeps schema condition (row_at group i).cells)))

  -- each is the position of a row, and of a version that is read
  pub positions_within : All (λ i. (i < length group.rows) × ((keeps schema condition (row_at group i).cells && slice_index_or (read_flags pinned group marks) i false) ≡ true)) (kept_positions pinned schema condition group marks)
  positions_within = filter_within (λ i. keeps schema condition (row_at group i).cells && slice_index_or flags i false) (length group.rows) (length group.rows) (omega arith)

  rows_of : (positions : List ℕ) → map (λ i. padded width (row_at group i).cells) positions ≡ values_of (map (entry_at width group) positions)
  rows_of [] = refl
  rows_of (i ∷ positions) = ap (λ l. padded width (row_at group i).cells ∷ l) (rows_of positions)

  -- the rows at these positions are those that are read and kept
  pub rows_at_positions : map (λ i. padded (length schema.columns) (row_at group i).cells) (kept_positions pinned schema condition group marks)
      ≡ filter (keeps schema condition) (values_of (filter_map (read_row (length schema.columns) pinned) (packed_versions group.key group.rows marks)))
  rows_at_positions =
      rows_of (kept_positions pinned schema condition group marks) ∙ ap values_of (sym chosen_at_positions)
      ∙ sym (values_chosen schema condition (filter_map (read_row width pinned) versions))

  -- at each stands a version of the view, with its row
  module _ (place : ℕ) (same : rowed_at pinned.view place ≡ packed_versions group.key group.rows marks) (positions : List ℕ) (are : positions ≡ kept_positions pinned schema condition group marks) (n d : ℕ) (there : n < length positions) where
    within : get_or positions n d < length group.rows
    within = (subst (All (λ i. (i < length group.rows) × ((keeps schema condition (row_at group i).cells && slice_index_or flags i false) ≡ true))) (sym are) positions_within n d there).0

    pub version_here : version_at pinned.view (record { group = place; position = get_or positions n d }) ≡ Some (packed_version group.key (row_at group (get_or positions n d)) (end_at marks (get_or positions n d)))
    version_here =
        at_place pinned.view place (get_or positions n d) ∙ ap (λ (versions : List Rowed). slice_get versions (get_or positions n d)) same
        ∙ version_is (get_or positions n d) within

    pub row_here : (row : List Value) → option_map (λ (rowed : Rowed). padded (length schema.columns) rowed.row) (version_at pinned.view (record { group = place; position = get_or positions n d })) ≡ Some row
        → row ≡ padded (length schema.columns) (row_at group (get_or positions n d)).cells
    row_here row is = sym (same_Some (padded width (row_at group (get_or positions n d)).cells) row (sym (ap (option_map (λ (rowed : Rowed). padded width rowed.row)) version_here) ∙ is))
