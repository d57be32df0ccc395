-- Groups that a condition skips: it keeps no row that is read of them.
use Rattle.std.proofs.Common.{◌≡◌, ◌≢◌, ℕ, Bool, true, false, cond, List, [], ◌∷◌, map, filter, length, refl, sym, ap, ◌∙◌}
use Rattle.std.specs.Prelude.{Option, None, Some, unwrap_or, IfSome}
use Rattle.std.specs.Option.{option_map}
use Rattle.std.specs.List.{AllByRecursion, cons_option, filter_map}
use Rattle.std.specs.Map.{values_of}
use Rattle.std.proofs.lemmas.List.Elements.{recursion_from_All}
use Rattle.cs_types.specs.declared.Loose.{Loose}
use Rattle.cs_types.specs.declared.Schema.{Schema}
use Rattle.cs_types.specs.declared.Value.{Value}
use Rattle.cs_types.specs.Rows.{cell_at, padded}
use Rattle.cs_model.specs.declared.pred.Pred.{Pred}
use Rattle.cs_model.specs.declared.pred.Pred.TheFolds.{fold-Pred}
use Rattle.cs_model.specs.declared.truth.Truth.{Truth}
use Rattle.cs_model.specs.declared.truth.Truth.TheVariants.{True, False, Unknown}
use Rattle.cs_model.specs.Queries.{is_true, keeps}
use Rattle.cs_model.specs.Scans.{is_skipped}
use Rattle.cs_model.specs.Skips.{loose_cells, skips, skips_step}
use Rattle.delete_bitmap.specs.declared.MarkedEnd.{MarkedEnd}
use Rattle.row_group.specs.Groups.{Group}
use Rattle.row_group.specs.Rows.{PackedRow, column_of}
use Rattle.batch_filter.proofs.SkipLemmas.{loses_none}
use Rattle.group_view.specs.declared.view.Pinned.{Pinned}
use Rattle.group_view.specs.declared.parts.GroupPart.{GroupPart}
use Rattle.group_view.specs.declared.parts.GroupPart.TheVariants.{Packed, Store}
use Rattle.group_view.specs.declared.parts.GroupRef.TheVariants as lent
use Rattle.group_view.specs.Parts.{packed_version, packed_versions, rowed_in, IsBorrowed}
use Rattle.group_view.specs.Laws.{shown_row}
use Rattle.batch_scan.specs.Reads.{is_read, read_row}
use Rattle.batch_scan.proofs.Padded.{one_loose}

module _ (schema : Schema) where
  abbrev width : ℕ
  width = length schema.columns

  abbrev in_cells : PackedRow → List Value
  in_cells row = padded width row.cells

  same_loose : (rows : List PackedRow) (i : ℕ) → loose_cells schema (column_of rows) i ≡ loose_cells schema (λ c. map (λ row. cell_at row c) (map in_cells rows)) i
  same_loose [] i = refl
  same_loose (row ∷ rows) i = λ k. one_loose schema row.cells i k ∷ same_loose rows i k

  same_skips : (pred : Pred) (rows : List PackedRow) → skips schema pred (column_of rows) ≡ skips schema pred (λ c. map (λ row. cell_at row c) (map in_cells rows))
  same_skips pred rows = ap (λ (cells : ℕ → List Loose). fold-Pred Bool (skips_step cells) pred) (λ k i. same_loose rows i k)

  -- ---- the rows of a group that is skipped

  not_true : (t : Truth) → t ≢ True → is_true t ≡ false
  not_true True other = absurd (other refl)
  not_true False other = refl
  not_true Unknown other = refl

  abbrev IsLeftOut : Option Pred → List Value → Type 0
  IsLeftOut condition row = keeps schema condition row ≡ false

  left_out : (condition : Option Pred) (rows : List PackedRow) → is_skipped schema condition (column_of rows) ≡ true → AllByRecursion (IsLeftOut condition) (map in_cells rows)
  left_out None rows skipped = let no : false ≡ true = skipped in absurd cc
  left_out (Some pred) rows skipped =
      recursion_from_All (IsLeftOut (Some pred)) (map in_cells rows)
      (λ k d within. not_true _ (loses_none schema pred (map in_cells rows) (sym (same_skips pred rows) ∙ skipped) k d within))

  -- ---- those that are read

  module _ (pinned : Pinned) (key : ℕ) where
    abbrev reads : List PackedRow → List (Option MarkedEnd) → List (List Value)
    reads rows marks = values_of (filter_map (read_row width pinned) (packed_versions key rows marks))

    none_read : (condition : Option Pred) (rows : List PackedRow) (marks : List (Option MarkedEnd)) → AllByRecursion (IsLeftOut condition) (map in_cells rows) → filter (keeps schema condition) (reads rows marks) ≡ []
    none_read condition [] marks out = refl
    none_read condition (row ∷ rows) [] out = refl
    none_read condition (row ∷ rows) (mark ∷ marks) out = step (is_read pinned (packed_version key row mark)) (none_read condition rows marks out.1)
      where
        step : (read : Bool) → filter (keeps schema condition) (reads rows marks) ≡ [] → filter (keeps schema condition) (values_of (cons_option (cond read (Some (shown_row width (packed_version key row mark))) None) (filter_map (read_row width pinned) (packed_versions key rows marks)))) ≡ []
        step true rest = ap (λ t. cond t (in_cells row ∷ filter (keeps schema condition) (reads rows marks)) (filter (keeps schema condition) (reads rows marks))) out.0 ∙ rest
        step false rest = rest

  -- no row that is read of a packed group that the condition skips is kept
  pub passed_over : (pinned : Pinned) (key : ℕ) (condition : Option Pred) (rows : List PackedRow) (marks : List (Option MarkedEnd)) → is_skipped schema condition (column_of rows) ≡ true
      → filter (keeps schema condition) (reads pinned key rows marks) ≡ []
  passed_over pinned key condition rows marks skipped = none_read pinned key condition rows marks (left_out condition rows skipped)

  -- the same at its place in the view
  pub passed_at : (pinned : Pinned) (condition : Option Pred) (packed : _) (ends : _) (o : Option (ℕ × GroupPart)) → IfSome o (λ (part : ℕ × GroupPart). IsBorrowed part.1 (lent.Packed packed ends))
      → is_skipped schema condition (column_of packed.now.rows) ≡ true
      → filter (keeps schema condition) (values_of (filter_map (read_row width pinned) (unwrap_or (option_map (λ (part : ℕ × GroupPart). rowed_in part.1) o) []))) ≡ []
  passed_at pinned condition packed ends None borrowed skipped = refl
  passed_at pinned condition packed ends (Some (id, Packed group marks)) borrowed skipped =
      let whole = group.value in
      passed_over pinned whole.key condition whole.rows marks.value ((λ i. is_skipped schema condition (column_of (let g : Group = sym borrowed.0 i in g.rows))) ∙ skipped)
  passed_at pinned condition packed ends (Some (id, Store store)) borrowed skipped = absurd borrowed
