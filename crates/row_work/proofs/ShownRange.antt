-- The rows of a packed group with keys of a range, as a set of positions.
use Rattle.std.proofs.Common.{◌≡◌, ℕ, suc, ◌+◌, ◌-◌, ◌<◌, Bool, true, false, ◌&&◌, cond, eqb, List, [], ◌∷◌, ◌++◌, length, get_or, map, drop, take, pos, refl, sym, ap, subst, ◌∙◌, arith}
use Rattle.std.specs.Prelude.{Option, None, Some, slice_index}
use Rattle.std.specs.List.{All, cons_option, filter_map}
use Rattle.std.specs.Map.{values_of}
use Rattle.std.proofs.lemmas.Bool.{and_parts, eq-eqb, ne_eqb}
use Rattle.std.proofs.lemmas.List.{append-nil, get_or-drop, get_or-map, get_or-take, get_or_default, length-drop, length-map, length-take-le}
use Rattle.std.proofs.lemmas.List.Folds.{list_any_none}
use Rattle.std.proofs.lemmas.Option.{same_Some, slice_get-get_or}
use Rattle.cs_types.specs.declared.Key.{Key}
use Rattle.cs_types.specs.declared.Schema.{Schema}
use Rattle.cs_types.specs.declared.Value.{Value}
use Rattle.cs_types.specs.Rows.{key_in, padded}
use Rattle.cs_types.proofs.PaddedLemmas.{padded_itself}
use Rattle.cs_model.specs.declared.pred.Pred.{Pred}
use Rattle.cs_model.specs.declared.plan.Query.{Query}
use Rattle.cs_model.specs.Answers.{chosen}
use Rattle.cs_model.specs.Queries.{keeps}
use Rattle.delete_bitmap.specs.declared.MarkedEnd.{MarkedEnd}
use Rattle.delta_store.specs.Index.{is_between}
use Rattle.row_group.specs.Groups.{Group, row_at, AreByKey}
use Rattle.row_group.specs.Rows.{PackedRow}
use Rattle.row_group.proofs.GroupLemmas.{places_by_key}
use Rattle.batch_aggregate.specs.declared.partial.Partial.{Partial}
use Rattle.batch_aggregate.specs.Standing.{StandsFor}
use Rattle.code_tallies.specs.Shown.{cells_at, shown_rows}
use Rattle.group_book.proofs.Lists.{list_any-some}
use Rattle.group_view.specs.declared.view.Pinned.{Pinned}
use Rattle.group_view.specs.Parts.{Rowed, packed_versions}
use Rattle.group_view.specs.Laws.{shown_row}
use Rattle.batch_scan.specs.Hidden.{is_one_of}
use Rattle.batch_scan.specs.declared.shown.Shown.{Shown}
use Rattle.batch_scan.specs.declared.shown.Shown.TheVariants as shown
use Rattle.batch_scan.specs.Reads.{is_read, read_flags, AreShown, IsSetOf}
use Rattle.row_work.specs.declared.bounds.Bounds.{Bounds}
use Rattle.row_work.specs.Bounds.{IsWithin, KeepsRange, KeepsWithin}
use Rattle.row_work.specs.Ranges.{ArePlacesWithin}
use Rattle.row_work.specs.Reads.{read_row}
use Rattle.row_work.specs.Sieved.{read_in}
use Rattle.row_work.specs.Stores.{is_read_within, AreRowsRead}
use Rattle.row_work.proofs.KeptRange.{and_turned}
use Rattle.row_work.proofs.Positions.{where_true}
use Rattle.row_work.proofs.Ranges.{key_as, long_as}
use Rattle.row_work.proofs.Sieved.{packed_keys, packed_rows, row_is, shown_no_row, shown_passed}
use Rattle.row_work.proofs.Standing.{stands_as}
use Rattle.row_work.proofs.Stored.{kept_same}

-- bounds that are exact
pub exact_are : (t : Bool) (found bounds : Bounds) → Some found ≡ cond t (Some bounds) None → (t ≡ true) × (found ≡ bounds)
exact_are true found bounds is = (refl, same_Some found bounds is)
exact_are false found bounds is = cc

-- lists of bools that agree at each place are one
same_bools : (xs ys : List Bool) → length xs ≡ length ys → ((p : ℕ) → p < length xs → get_or xs p false ≡ get_or ys p false) → xs ≡ ys
same_bools [] [] long same = refl
same_bools [] (y ∷ ys) long same = absurd (omega (arith, long))
same_bools (x ∷ xs) [] long same = absurd (omega (arith, long))
same_bools (x ∷ xs) (y ∷ ys) long same = λ k. same 0 (omega arith) k ∷ same_bools xs ys (omega (arith, long)) (λ p below. same (suc p) (omega (arith, below))) k

-- ---- positions at some places

module _ (group : Group) (by_key : AreByKey group) (bounds : Bounds) (from to : ℕ) (places : ArePlacesWithin group bounds from to) where
  abbrev part : List ℕ
  part = take (to - from) (drop from group.places)

  abbrev key_at : ℕ → Key
  key_at p = key_in group.key (row_at group p).cells

  part_long : length part ≡ to - from
  part_long = length-take-le (to - from) (drop from group.places) (let all = length-drop from group.places in let most = places.within in omega (arith, all, most))

  part_at : (k d : ℕ) → k < length part → get_or part k d ≡ get_or group.places (from + k) d
  part_at k d within = get_or-take (to - from) (drop from group.places) k d (omega (arith, within, part_long)) ∙ get_or-drop from group.places k d

  -- they are positions of rows
  pub part_within : (k d : ℕ) → k < length part → get_or part k d < length group.rows
  part_within k d within =
      let count = part_long in
      let there : from + k < length group.places = let most = places.within in omega (arith, within, count, most) in
      let here = part_at k d within ∙ get_or_default group.places (from + k) d 0 there in
      let low = (places_by_key group by_key).within (from + k) there in
      omega (arith, here, low)

  -- those at these places are of rows of these keys
  pub part_is : (p : ℕ) → p < length group.rows → is_one_of part p ≡ is_between bounds.least bounds.greatest (key_at p)
  part_is p below = step (is_between bounds.least bounds.greatest (key_at p)) refl
    where
      step : (t : Bool) → is_between bounds.least bounds.greatest (key_at p) ≡ t → is_one_of part p ≡ t
      step true is =
          let (i, inside, here) = (places_by_key group by_key).each p below in
          let stands = places.every i inside (subst (λ (q : ℕ). IsWithin bounds (key_at q)) (sym here) is) in
          let low = stands.0 in
          let count = part_long in
          let within : i - from < length part = let high = stands.1 in omega (arith, low, high, count) in
          let back : from + (i - from) ≡ i = omega (arith, low) in
          list_any-some (λ other. eqb other p) part (i - from) 0 within
          (eq-eqb (get_or part (i - from) 0) p (part_at (i - from) 0 within ∙ ap (λ n. get_or group.places n 0) back ∙ here))
      step false is =
          list_any_none (λ other. eqb other p) part (λ k d within.
          let count = part_long in
          let there : from + k < length group.places = let most = places.within in omega (arith, within, count, most) in
          ne_eqb (get_or part k d) p (λ same. outside (from + k) (places.inside (from + k) (omega arith) (omega (arith, within, count))) (sym (part_at k d within ∙ default (from + k) d there) ∙ same)))
        where
          default : (n d : ℕ) → n < length group.places → get_or group.places n d ≡ slice_index group.places n
          default n d there = get_or_default group.places n d 0 there

          two : (t : Bool) → t ≡ true → t ≡ false → ⊥
          two t one other = cc

          outside : (n : ℕ) → IsWithin bounds (key_at (slice_index group.places n)) → slice_index group.places n ≡ p → ⊥
          outside n within same = two (is_between bounds.least bounds.greatest (key_at p)) (subst (λ (q : ℕ). IsWithin bounds (key_at q)) same within) is

-- ---- the set of those that are read

module _ (schema : Schema) (condition : Option Pred) (pinned : Pinned) (group : Group) (marks : List (Option MarkedEnd)) (fits : length marks ≡ length group.rows) (by_key : AreByKey group) (bounds : Bounds) (from to : ℕ)
    (places : ArePlacesWithin group bounds from to) (set : List Bool) (long : length set ≡ length group.rows)
    (each : (p : ℕ) → p < length group.rows → get_or set p false ≡ (is_one_of (take (to - from) (drop from group.places)) p && get_or (read_flags pinned group marks) p false)) where
  abbrev versions : List Rowed
  versions = packed_versions group.key group.rows marks

  abbrev test : Rowed → Bool
  test = is_read_within pinned bounds

  abbrev none : Rowed
  none = record { version = record { key = record { 0 = pos 0 }; begin = 0; end = None }; row = [] }

  -- it has the positions of the versions that are read and of these keys
  set_is : set ≡ map test versions
  set_is =
      let wide : length versions ≡ length group.rows = long_as group versions (packed_keys group.key group.rows marks fits) in
      same_bools set (map test versions) (let all = length-map versions test in omega (arith, long, all, wide)) (λ p within.
      let below : p < length group.rows = omega (arith, within, long) in
      let there : p < length versions = omega (arith, below, wide) in
      let x = get_or versions p none in
      let own = key_as group versions (packed_keys group.key group.rows marks fits) p x (slice_get-get_or versions p none there) in
      each p below
      ∙ ap (λ (t : Bool). t && get_or (read_flags pinned group marks) p false) (part_is group by_key bounds from to places p below ∙ ap (is_between bounds.least bounds.greatest) (sym own))
      ∙ ap (λ (t : Bool). is_between bounds.least bounds.greatest x.version.key && t) (get_or-map (is_read pinned) versions p none false there)
      ∙ and_turned (is_between bounds.least bounds.greatest x.version.key) (is_read pinned x)
      ∙ sym (get_or-map test versions p none false there))

  module _ (wide : All (λ (row : PackedRow). length row.cells ≡ length schema.columns) group.rows) (rows : AreRowsRead schema pinned (packed_versions group.key group.rows marks)) (exact : KeepsRange schema condition bounds) where
    abbrev width : ℕ
    width = length schema.columns

    -- the condition keeps the row at each of them
    pub keeps_in : (p : ℕ) → p < length group.rows → get_or set p false ≡ true → true ≡ keeps schema condition (cells_at group p)
    keeps_in p below on =
        let there : p < length versions = let all = long_as group versions (packed_keys group.key group.rows marks fits) in omega (arith, below, all) in
        let x = get_or versions p none in
        let at = slice_get-get_or versions p none there in
        let passes : test x ≡ true = sym (get_or-map test versions p none false there) ∙ ap (λ (l : List Bool). get_or l p false) (sym set_is) ∙ on in
        let both = and_parts (is_read pinned x) (is_between bounds.least bounds.greatest x.version.key) passes in
        let row = row_is pinned group versions (packed_rows group.key group.rows marks fits) p x at in
        sym (exact x.version.key (padded width x.row) (rows p x at both.0) ∙ both.1)
        ∙ ap (keeps schema condition) (sym (padded_itself width x.row (ap length row ∙ wide p (record { cells = []; begin = 0 }) below)) ∙ row)

    one_reading : (r w : Bool) (s : Key × List Value) → cond (r && w) (Some s) None ≡ cond (r && w) (cond r (Some s) None) None
    one_reading true true s = refl
    one_reading true false s = refl
    one_reading false w s = refl

    same_reading : (list : List Rowed) → filter_map (λ (rowed : Rowed). cond (test rowed) (Some (shown_row width rowed)) None) list ≡ filter_map (where_true (read_row width pinned) test) list
    same_reading [] = refl
    same_reading (x ∷ list) = λ k. cons_option (one_reading (is_read pinned x) (is_between bounds.least bounds.greatest x.version.key) (shown_row width x) k) (same_reading list k)

    keeps_within : KeepsWithin schema condition bounds
    keeps_within key row stands kept = sym (exact key row stands) ∙ kept

    -- what stands for the rows at these positions stands for all that are read
    pub stands_in : (query : Query) (partial : Partial) (rest : List (List Value)) → partial.schema.now ≡ schema → partial.query.now ≡ query → query.filter ≡ condition
        → StandsFor partial (rest ++ shown_rows group (Some set)) → StandsFor partial (rest ++ read_in (length schema.columns) pinned (packed_versions group.key group.rows marks))
    stands_in query partial rest of_schema of_query same stands =
        let bounded = filter_map (where_true (read_row width pinned) test) versions in
        let all = filter_map (read_row width pinned) versions in
        let rows_shown : shown_rows group (Some set) ≡ values_of bounded =
        ap (λ (l : List Bool). shown_rows group (Some l)) set_is ∙ shown_passed pinned group versions (packed_rows group.key group.rows marks fits) width wide test ∙ ap values_of (same_reading versions) in
        stands_as schema query partial rest bounded all of_schema of_query
        (subst (λ (c : Option Pred). chosen schema c bounded ≡ chosen schema c all) (sym same) (kept_same schema condition pinned bounds keeps_within versions rows))
        (subst (λ l. StandsFor partial (rest ++ l)) rows_shown stands)

-- ---- no place

module _ (schema : Schema) (condition : Option Pred) (pinned : Pinned) (group : Group) (marks : List (Option MarkedEnd)) (fits : length marks ≡ length group.rows) (by_key : AreByKey group) (bounds : Bounds) (from to : ℕ)
    (places : ArePlacesWithin group bounds from to) (empty : length (take (to - from) (drop from group.places)) ≡ 0) where
  abbrev no_flags : List Bool
  no_flags = map (λ (row : PackedRow). false) group.rows

  no_flag : (p : ℕ) (d : Bool) → p < length group.rows → get_or no_flags p d ≡ false
  no_flag p d below = get_or-map (λ (row : PackedRow). false) group.rows p (record { cells = []; begin = 0 }) d below

  nowhere : (p : ℕ) → p < length group.rows → get_or no_flags p false ≡ (is_one_of (take (to - from) (drop from group.places)) p && get_or (read_flags pinned group marks) p false)
  nowhere p below =
      let none = sym (part_long group by_key bounds from to places) ∙ empty in
      no_flag p false below ∙ sym (ap (λ (n : ℕ). is_one_of (take n (drop from group.places)) p && get_or (read_flags pinned group marks) p false) none)

  -- where no row is of these keys, what is read of the group changes nothing of what a partial answer stands for
  pub stands_still : All (λ (row : PackedRow). length row.cells ≡ length schema.columns) group.rows → AreRowsRead schema pinned (packed_versions group.key group.rows marks) → KeepsRange schema condition bounds
      → (query : Query) (partial : Partial) (rest : List (List Value)) → partial.schema.now ≡ schema → partial.query.now ≡ query → query.filter ≡ condition
      → StandsFor partial rest → StandsFor partial (rest ++ read_in (length schema.columns) pinned (packed_versions group.key group.rows marks))
  stands_still wide rows exact query partial rest of_schema of_query same stands =
      let long = length-map group.rows (λ (row : PackedRow). false) in
      let no_row = shown_no_row group no_flags (λ p d within. no_flag p d (omega (arith, within, long))) long in
      stands_in schema condition pinned group marks fits by_key bounds from to places no_flags long nowhere wide rows exact query partial rest of_schema of_query same
      (subst (λ l. StandsFor partial (rest ++ l)) (sym no_row) (subst (StandsFor partial) (sym (append-nil rest)) stands))

-- a set of positions that are shown is of as many as the group has
pub shown_set : (flags : List Bool) (shown : Shown) (count : ℕ) → AreShown flags shown → length flags ≡ count → IsSetOf count shown
shown_set flags shown.Every count are long = tt
shown_set flags shown.Nowhere count are long = tt
shown_set flags (shown.Some positions) count are long = ap length are ∙ long

-- there is a flag for each row
pub flags_long : (pinned : Pinned) (group : Group) (marks : List (Option MarkedEnd)) → length marks ≡ length group.rows → length (read_flags pinned group marks) ≡ length group.rows
flags_long pinned group marks fits =
    let versions = packed_versions group.key group.rows marks in
    length-map versions (is_read pinned) ∙ long_as group versions (packed_keys group.key group.rows marks fits)
