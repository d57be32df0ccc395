-- Rows that are chosen by their positions in a packed group.
use Rattle.std.proofs.Common.{◌≡◌, ℕ, ◌<◌, Bool, true, false, ◌&&◌, cond, List, [], ◌∷◌, ◌++◌, length, map, filter, refl, sym, ap, ◌∙◌, subst, arith}
use Rattle.std.specs.Prelude.{Option, None, Some, slice_get, slice_index_or}
use Rattle.std.specs.List.{All, AllByRecursion, filter_map}
use Rattle.std.specs.Map.{values_of}
use Rattle.std.specs.Option.{option_and_then}
use Rattle.std.proofs.lemmas.Bool.{and_parts}
use Rattle.std.proofs.lemmas.List.{append-nil, map-append}
use Rattle.std.proofs.lemmas.List.Elements.{All-append, All-cons, All-nil, recursion_from_All}
use Rattle.cs_types.specs.declared.Schema.{Schema}
use Rattle.cs_model.specs.declared.pred.Pred.{Pred}
use Rattle.cs_model.specs.Answers.{chosen}
use Rattle.cs_model.specs.Changes.{Table}
use Rattle.cs_model.specs.Queries.{keeps}
use Rattle.delete_bitmap.specs.declared.MarkedEnd.{MarkedEnd}
use Rattle.row_group.specs.Groups.{Group, row_at}
use Rattle.group_view.specs.declared.view.Pinned.{Pinned}
use Rattle.group_view.specs.declared.view.Place.{Place}
use Rattle.group_view.specs.Parts.{Rowed, packed_versions}
use Rattle.group_view.specs.Views.{version_at}
use Rattle.batch_scan.specs.Reads.{read_flags, read_row, rowed_at}
use Rattle.batch_scan.specs.Scans.{kept_positions}
use Rattle.batch_scan.proofs.Kept.{chosen_at_positions, entry_at, flag_is_read, positions_within, values_chosen, version_is}
use Rattle.batch_scan.proofs.Seen.{at_place}
use Rattle.row_work.specs.declared.choose.Chosen.{Chosen}
use Rattle.row_work.specs.Sources.{chosen_at, chosen_edit, rows_as_edits, IsShown}
use Rattle.row_work.proofs.Scanned.{picked, read_stands}

-- where no row is kept, none is chosen
pub none_chosen : (schema : Schema) (condition : Option Pred) (rows : Table) → filter (keeps schema condition) (values_of rows) ≡ [] → chosen schema condition rows ≡ []
none_chosen schema condition rows none = no_row (chosen schema condition rows) (sym (values_chosen schema condition rows) ∙ none)
  where
    no_row : (rows : Table) → values_of rows ≡ [] → rows ≡ []
    no_row [] is = refl
    no_row (entry ∷ rows) is = let one : length (values_of (entry ∷ rows)) ≡ 0 = ap length is in absurd (omega (arith, one))

module _ (schema : Schema) (condition : Option Pred) (pinned : Pinned) (place : ℕ) (group : Group) (marks : List (Option MarkedEnd)) (fits : length marks ≡ length group.rows)
    (same : rowed_at pinned.view place ≡ packed_versions group.key group.rows marks) where
  abbrev width : ℕ
  width = length schema.columns

  abbrev flags : List Bool
  flags = read_flags pinned group marks

  abbrev IsHere : ℕ → Type 0
  IsHere i = (i < length group.rows) × ((keeps schema condition (row_at group i).cells && slice_index_or flags i false) ≡ true)

  read_here : (i : ℕ) → IsHere i → option_and_then (read_row width pinned) (version_at pinned.view (record { group = place; position = i })) ≡ Some (entry_at width group i)
  read_here i here =
      let flag = (and_parts (keeps schema condition (row_at group i).cells) (slice_index_or flags i false) here.1).1 in
      ap (option_and_then (read_row width pinned))
      (at_place pinned.view place i ∙ ap (λ (versions : List Rowed). slice_get versions i) same ∙ version_is pinned schema condition group marks fits i here.0)
      ∙ ap (λ t. cond t (Some (entry_at width group i)) None) (sym (flag_is_read pinned schema condition group marks fits i here.0) ∙ flag)

  one_edit : (i : ℕ) → IsHere i → chosen_edit width pinned (chosen_at place group i) ≡ ((entry_at width group i).0, Some (entry_at width group i).1)
  one_edit i here =
      let at : Place = record { group = place; position = i } in
      ap (λ o. ((entry_at width group i).0, o)) (read_stands width pinned at (entry_at width group i) (read_here i here)).0

  one_shown : (i : ℕ) → IsHere i → IsShown pinned (chosen_at place group i)
  one_shown i here =
      let at : Place = record { group = place; position = i } in
      (read_stands width pinned at (entry_at width group i) (read_here i here)).1

  edits_at : (positions : List ℕ) → AllByRecursion IsHere positions → map (chosen_edit width pinned) (map (chosen_at place group) positions) ≡ rows_as_edits (map (entry_at width group) positions)
  edits_at [] all = refl
  edits_at (i ∷ positions) all = λ k. one_edit i all.0 k ∷ edits_at positions all.1 k

  shown_at : (positions : List ℕ) → AllByRecursion IsHere positions → All (IsShown pinned) (map (chosen_at place group) positions)
  shown_at [] all = All-nil (IsShown pinned)
  shown_at (i ∷ positions) all = All-cons (IsShown pinned) (chosen_at place group i) (map (chosen_at place group) positions) (one_shown i all.0) (shown_at positions all.1)

  abbrev positions : List ℕ
  positions = kept_positions pinned schema condition group marks

  here : AllByRecursion IsHere positions
  here = recursion_from_All IsHere positions (positions_within pinned schema condition group marks fits)

  -- the positions that are kept, chosen after others
  pub chose_positions : (chosen new : List Chosen) → new ≡ chosen ++ map (chosen_at place group) (kept_positions pinned schema condition group marks)
      → map (chosen_edit (length schema.columns) pinned) new ≡ map (chosen_edit (length schema.columns) pinned) chosen ++ picked schema condition (filter_map (read_row (length schema.columns) pinned) (rowed_at pinned.view place))
  chose_positions chosen new is =
      ap (map (chosen_edit width pinned)) is ∙ map-append (chosen_edit width pinned) chosen (map (chosen_at place group) positions)
      ∙ ap (λ l. map (chosen_edit width pinned) chosen ++ l)
      (edits_at positions here ∙ ap rows_as_edits (sym (chosen_at_positions pinned schema condition group marks fits)) ∙ ap (λ (versions : List Rowed). picked schema condition (filter_map (read_row width pinned) versions)) (sym same))

  pub chose_shown : (chosen new : List Chosen) → All (IsShown pinned) chosen → new ≡ chosen ++ map (chosen_at place group) (kept_positions pinned schema condition group marks) → All (IsShown pinned) new
  chose_shown chosen new all is = subst (All (IsShown pinned)) (sym is) (All-append (IsShown pinned) chosen (map (chosen_at place group) positions) all (shown_at positions here))

  -- they are positions of rows
  pub chose_within : All (λ i. i < length group.rows) (kept_positions pinned schema condition group marks)
  chose_within i d there = (positions_within pinned schema condition group marks fits i d there).0

-- where the condition skips the group, none comes
pub chose_nothing : (width : ℕ) (pinned : Pinned) (schema : Schema) (condition : Option Pred) (chosen : List Chosen) (rows : Table) → filter (keeps schema condition) (values_of rows) ≡ []
    → map (chosen_edit width pinned) chosen ≡ map (chosen_edit width pinned) chosen ++ picked schema condition rows
chose_nothing width pinned schema condition chosen rows none =
    sym (append-nil (map (chosen_edit width pinned) chosen)) ∙ ap (λ l. map (chosen_edit width pinned) chosen ++ rows_as_edits l) (sym (none_chosen schema condition rows none))
