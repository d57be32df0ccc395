-- What a filter says of the rows of a group, and what is read of these.
use Rattle.std.proofs.Common.{◌≡◌, ℕ, zero, suc, ◌<◌, ◌≤◌, ◌++◌, Bool, true, false, cond, List, [], ◌∷◌, map, filter, take, length, get_or, pos, refl, sym, ap, subst, ◌∙◌, arith, add-one}
use Rattle.std.specs.Prelude.{Option, None, Some, slice_get}
use Rattle.std.specs.List.{All, AllByRecursion, cons_option, filter_map, range_with_len}
use Rattle.std.specs.Map.{values_of}
use Rattle.std.specs.Option.{option_and_then, option_map, option_to_list}
use Rattle.std.proofs.lemmas.List.{append-nil, get_or-map, length-map, take_all}
use Rattle.std.proofs.lemmas.List.Elements.{recursion_from_All}
use Rattle.std.proofs.lemmas.Option.{same_Some, slice_get-get_or, slice_get-map, slice_get_within}
use Rattle.cs_types.specs.declared.Key.{Key}
use Rattle.cs_types.specs.declared.Schema.{Schema}
use Rattle.cs_types.specs.declared.Value.{Value}
use Rattle.cs_types.specs.Rows.{key_in, padded}
use Rattle.cs_types.proofs.PaddedLemmas.{padded_itself}
use Rattle.cs_model.specs.declared.plan.Query.{Query}
use Rattle.cs_model.specs.declared.pred.Pred.{Pred}
use Rattle.cs_model.specs.Queries.{keeps}
use Rattle.delete_bitmap.specs.declared.MarkedEnd.{MarkedEnd}
use Rattle.row_group.specs.Groups.{Group, keys_of}
use Rattle.row_group.specs.Rows.{PackedRow}
use Rattle.batch_filter.specs.Sieves.{verdicts}
use Rattle.batch_aggregate.specs.declared.partial.Partial.{Partial}
use Rattle.batch_aggregate.specs.Standing.{StandsFor}
use Rattle.code_tallies.specs.Shown.{cells_at, is_shown, rows_at, shown_rows}
use Rattle.code_tallies.proofs.Buckets.{rows-more, same-below}
use Rattle.group_view.specs.declared.view.Pinned.{Pinned}
use Rattle.group_view.specs.Laws.{shown_row}
use Rattle.group_view.specs.Parts.{Rowed, packed_versions}
use Rattle.batch_scan.specs.Reads.{is_read}
use Rattle.batch_scan.specs.Scans.{verdicts_of}
use Rattle.row_work.specs.Reads.{read_row}
use Rattle.row_work.specs.Sieved.{read_in, LosesNone}
use Rattle.batch_scan.proofs.Padded.{keeps_padded}
use Rattle.row_work.proofs.Passed.{stands_on}
use Rattle.row_work.proofs.Scanned.{read_more, values_append}

-- ---- the verdict on a row

-- the verdict on a row of a group
pub verdict_at : (schema : Schema) (condition : Option Pred) (group : Group) (sieve : List Bool) → Some sieve ≡ verdicts_of schema condition group
    → (i : ℕ) → i < length group.rows → get_or sieve i false ≡ keeps schema condition (cells_at group i)
verdict_at schema None group sieve is i within = cc
verdict_at schema (Some pred) group sieve is i within =
    ap (λ (l : List Bool). get_or l i false) (same_Some sieve (verdicts schema pred group) is)
    ∙ get_or-map (λ (row : PackedRow). keeps schema (Some pred) row.cells) group.rows i (record { cells = []; begin = 0 }) false within

-- without verdicts each row is kept
pub no_verdict : (schema : Schema) (condition : Option Pred) (group : Group) → None ≡ verdicts_of schema condition group → (row : List Value) → true ≡ keeps schema condition row
no_verdict schema None group is row = refl
no_verdict schema (Some pred) group is row = cc

-- ---- versions of which no row is kept, or no version is read

module _ (width : ℕ) (pinned : Pinned) where
  -- where the condition keeps the row of no version, it keeps none that is read
  pub none_kept : (schema : Schema) (condition : Option Pred) (versions : List Rowed) → ((i : ℕ) (rowed : Rowed) → slice_get versions i ≡ Some rowed → keeps schema condition (padded width rowed.row) ≡ false)
      → filter (keeps schema condition) (read_in width pinned versions) ≡ []
  none_kept schema condition [] out = refl
  none_kept schema condition (rowed ∷ rest) out = step (is_read pinned rowed) (none_kept schema condition rest (λ i other at. out (suc i) other at))
    where
      step : (read : Bool) → filter (keeps schema condition) (read_in width pinned rest) ≡ []
          → filter (keeps schema condition) (values_of (cons_option (cond read (Some (shown_row width rowed)) None) (filter_map (read_row width pinned) rest))) ≡ []
      step true none = ap (λ b. cond b (padded width rowed.row ∷ filter (keeps schema condition) (read_in width pinned rest)) (filter (keeps schema condition) (read_in width pinned rest))) (out 0 rowed refl) ∙ none
      step false none = none

  -- a row that is not kept changes nothing of what a partial answer stands for
  pub passed_by : (partial : Partial) (o : Option Rowed) → ((rowed : Rowed) → o ≡ Some rowed → keeps partial.schema.now partial.query.now.filter (padded width rowed.row) ≡ false)
      → (rows : List (List Value)) → StandsFor partial rows → StandsFor partial (rows ++ values_of (option_to_list (option_and_then (read_row width pinned) o)))
  passed_by partial None out rows stands = subst (StandsFor partial) (sym (append-nil rows)) stands
  passed_by partial (Some rowed) out rows stands =
      stands_on partial.schema.now partial.query.now partial rows (values_of (option_to_list (read_row width pinned rowed))) refl refl (step (is_read pinned rowed)) stands
    where
      step : (read : Bool) → filter (keeps partial.schema.now partial.query.now.filter) (values_of (option_to_list (cond read (Some (shown_row width rowed)) None))) ≡ []
      step true = ap (λ b. cond b (padded width rowed.row ∷ []) []) (out rowed refl)
      step false = refl

  none_shown : (versions : List Rowed) → AllByRecursion (λ (flag : Bool). flag ≡ false) (map (is_read pinned) versions) → read_in width pinned versions ≡ []
  none_shown [] all = refl
  none_shown (rowed ∷ rest) all = ap (λ b. values_of (cons_option (cond b (Some (shown_row width rowed)) None) (filter_map (read_row width pinned) rest))) all.0 ∙ none_shown rest all.1

  -- where no version is shown, none is read
  pub shown_nowhere : (versions : List Rowed) → All (λ (flag : Bool). flag ≡ false) (map (is_read pinned) versions) → read_in width pinned versions ≡ []
  shown_nowhere versions all = none_shown versions (recursion_from_All (λ (flag : Bool). flag ≡ false) (map (is_read pinned) versions) all)

-- ---- the rows of a packed group

pub packed_rows : (key : ℕ) (rows : List PackedRow) (marks : List (Option MarkedEnd)) → length marks ≡ length rows
    → map (λ (rowed : Rowed). rowed.row) (packed_versions key rows marks) ≡ map (λ (row : PackedRow). row.cells) rows
packed_rows key [] marks same = refl
packed_rows key (row ∷ rows) [] same = absurd (omega (arith, same))
packed_rows key (row ∷ rows) (mark ∷ marks) same = ap (λ l. row.cells ∷ l) (packed_rows key rows marks (omega (arith, same)))

pub packed_keys : (key : ℕ) (rows : List PackedRow) (marks : List (Option MarkedEnd)) → length marks ≡ length rows → map (λ (rowed : Rowed). rowed.version.key) (packed_versions key rows marks) ≡ keys_of key rows
packed_keys key [] marks same = refl
packed_keys key (row ∷ rows) [] same = absurd (omega (arith, same))
packed_keys key (row ∷ rows) (mark ∷ marks) same = ap (λ l. key_in key row.cells ∷ l) (packed_keys key rows marks (omega (arith, same)))

module _ (pinned : Pinned) (group : Group) (versions : List Rowed) (same : map (λ (rowed : Rowed). rowed.row) versions ≡ map (λ (row : PackedRow). row.cells) group.rows) where
  pub length-versions : length versions ≡ length group.rows
  length-versions = sym (length-map versions (λ (rowed : Rowed). rowed.row)) ∙ ap length same ∙ length-map group.rows (λ (row : PackedRow). row.cells)

  pub row_is : (i : ℕ) (rowed : Rowed) → slice_get versions i ≡ Some rowed → rowed.row ≡ cells_at group i
  row_is i rowed at =
      let within = slice_get_within versions i rowed at in
      same_Some rowed.row (cells_at group i)
      (sym (ap (option_map (λ (r : Rowed). r.row)) at)
      ∙ sym (slice_get-map (λ (r : Rowed). r.row) versions i)
      ∙ ap (λ (l : List (List Value)). slice_get l i) same
      ∙ slice_get-map (λ (r : PackedRow). r.cells) group.rows i
      ∙ ap (option_map (λ (r : PackedRow). r.cells)) (slice_get-get_or group.rows i (record { cells = []; begin = 0 }) (omega (arith, within, length-versions))))

  -- verdicts on the rows of the group pass over no version whose row is kept
  pub verdicts_lose_none : (schema : Schema) (condition : Option Pred) (sieve : Option (List Bool)) → sieve ≡ verdicts_of schema condition group → LosesNone (length schema.columns) schema condition versions sieve
  verdicts_lose_none schema None sieve is = λ i rowed at out. let no : true ≡ false = sym (ap (λ (o : Option (List Bool)). is_shown o i) is) ∙ out in absurd cc
  verdicts_lose_none schema (Some pred) sieve is = λ i rowed at out.
      let within = slice_get_within versions i rowed at in
      let here : i < length group.rows = omega (arith, within, length-versions) in
      sym (keeps_padded schema (Some pred) rowed.row)
      ∙ ap (keeps schema (Some pred)) (row_is i rowed at)
      ∙ sym (verdict_at schema (Some pred) group (verdicts schema pred group) refl i here)
      ∙ sym (ap (λ (o : Option (List Bool)). is_shown o i) is) ∙ out

  module _ (width : ℕ) (wide : All (λ (row : PackedRow). length row.cells ≡ width) group.rows) (test : Rowed → Bool) where
    abbrev flag_at : ℕ → Bool
    flag_at i = get_or (map test versions) i false

    -- the row of a version that passes, by its key
    abbrev passed : Rowed → Option (Key × List Value)
    passed rowed = cond (test rowed) (Some (shown_row width rowed)) None

    abbrev rows_passed : List Rowed → List (List Value)
    rows_passed list = values_of (filter_map passed list)

    abbrev one_passed : ℕ → List (List Value)
    one_passed n = values_of (option_to_list (option_and_then passed (slice_get versions n)))

    one_at : (n : ℕ) → n < length group.rows → map (cells_at group) (cond (flag_at n) (n ∷ []) []) ≡ one_passed n
    one_at n within =
        let none : Rowed = record { version = record { key = record { 0 = pos 0 }; begin = 0; end = None }; row = [] } in
        let there : n < length versions = omega (arith, within, length-versions) in
        let at = slice_get-get_or versions n none there in
        ap (λ b. map (cells_at group) (cond b (n ∷ []) [])) (get_or-map test versions n none false there)
        ∙ step (get_or versions n none) at (test (get_or versions n none))
        ∙ ap (λ (o : Option Rowed). values_of (option_to_list (option_and_then passed o))) (sym at)
      where
        step : (rowed : Rowed) → slice_get versions n ≡ Some rowed → (t : Bool) → map (cells_at group) (cond t (n ∷ []) []) ≡ values_of (option_to_list (cond t (Some (shown_row width rowed)) None))
        step rowed at true =
            let is = row_is n rowed at in
            ap (λ (cells : List Value). cells ∷ []) (sym is ∙ padded_itself width rowed.row (ap length is ∙ wide n (record { cells = []; begin = 0 }) within))
        step rowed at false = refl

    shown_below : (n : ℕ) → n ≤ length group.rows → rows_at group (filter flag_at (range_with_len 0 n)) ≡ rows_passed (take n versions)
    shown_below zero within = refl
    shown_below (suc n) within =
        ap (λ m. rows_at group (filter flag_at (range_with_len 0 m))) (sym (add-one n))
        ∙ rows-more (cells_at group) flag_at n
        ∙ ap (λ l. l ++ map (cells_at group) (cond (flag_at n) (n ∷ []) [])) (shown_below n (omega arith))
        ∙ ap (λ l. rows_passed (take n versions) ++ l) (one_at n (omega arith))
        ∙ sym (values_append (filter_map passed (take n versions)) (option_to_list (option_and_then passed (slice_get versions n))))
        ∙ ap values_of (sym (read_more passed versions n))
        ∙ ap (λ m. rows_passed (take m versions)) (add-one n)

    -- in as many cells as they have, the rows at the positions of versions that pass are those of these
    pub shown_passed : shown_rows group (Some (map test versions)) ≡ values_of (filter_map (λ (rowed : Rowed). cond (test rowed) (Some (shown_row width rowed)) None) versions)
    shown_passed = shown_below (length group.rows) (omega arith) ∙ ap rows_passed (take_all (length group.rows) versions (omega (arith, length-versions)))

  -- the rows at the positions that are read are those that are read
  pub shown_are : (width : ℕ) → All (λ (row : PackedRow). length row.cells ≡ width) group.rows → shown_rows group (Some (map (is_read pinned) versions)) ≡ read_in width pinned versions
  shown_are width wide = shown_passed width wide (is_read pinned)

-- ---- rows at positions

-- where each position is in a set, its rows are all rows
pub shown_every : (group : Group) (flags : List Bool) → All (λ (flag : Bool). flag ≡ true) flags → length flags ≡ length group.rows → shown_rows group None ≡ shown_rows group (Some flags)
shown_every group flags all same =
    ap (rows_at group) (same-below (λ i. true) (λ i. get_or flags i false) (length group.rows) (λ i within. sym (all i false (omega (arith, within, same)))))

-- where no position is, there is no row
pub shown_no_row : (group : Group) (flags : List Bool) → All (λ (flag : Bool). flag ≡ false) flags → length flags ≡ length group.rows → shown_rows group (Some flags) ≡ []
shown_no_row group flags all same =
    ap (rows_at group) (same-below (λ i. get_or flags i false) (λ i. false) (length group.rows) (λ i within. all i false (omega (arith, within, same))) ∙ none (range_with_len 0 (length group.rows)))
  where
    none : (at : List ℕ) → filter (λ (i : ℕ). false) at ≡ []
    none [] = refl
    none (i ∷ at) = none at

-- ---- partial answers that stand for the same query

-- verdicts that lose none for a query lose none for an equal one
pub loses_still : (width : ℕ) (schema other : Schema) (query same : Query) (versions : List Rowed) (sieve : Option (List Bool)) → other ≡ schema → same ≡ query
    → LosesNone width schema query.filter versions sieve → LosesNone width other same.filter versions sieve
loses_still width schema other query same versions sieve of_schema of_query loses = λ i rowed at out.
    ap (λ (s : Schema). keeps s same.filter (padded width rowed.row)) of_schema
    ∙ ap (λ (q : Query). keeps schema q.filter (padded width rowed.row)) of_query
    ∙ loses i rowed at out
