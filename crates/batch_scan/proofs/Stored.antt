-- Rows of stores and of own writes that a scan keeps.
use Rattle.std.proofs.Common.{◌≡◌, ℕ, ◌+◌, Bool, true, false, cond, List, [], ◌∷◌, ◌++◌, length, filter, take, refl, sym, ap, ◌∙◌, append_assoc}
use Rattle.std.specs.Prelude.{Option, None, Some, is_some, slice_get}
use Rattle.std.specs.List.{filter_map}
use Rattle.std.specs.Map.{values_of}
use Rattle.std.specs.Option.{option_and_then, option_map, option_to_list}
use Rattle.std.proofs.lemmas.List.Elements.{filter-append}
use Rattle.std.proofs.lemmas.Option.{same_Some, slice_get-map}
use Rattle.cs_types.specs.declared.Key.{Key}
use Rattle.cs_types.specs.declared.Schema.{Schema}
use Rattle.cs_types.specs.declared.Value.{Value}
use Rattle.cs_model.specs.declared.pred.Pred.{Pred}
use Rattle.cs_model.specs.Changes.{Table}
use Rattle.cs_model.specs.Queries.{keeps}
use Rattle.delta_store.specs.declared.version.KeyedVersion.{KeyedVersion}
use Rattle.cs_types.specs.declared.row.Version.{Version as Stored}
use Rattle.cs_types.specs.Rows.{padded}
use Rattle.write_set.specs.declared.write.Write.{Write}
use Rattle.group_view.specs.declared.view.Pinned.{Pinned}
use Rattle.group_view.specs.Parts.{Rowed, stored_version, stored_versions}
use Rattle.group_view.specs.Laws.{shown_row}
use Rattle.batch_scan.specs.Reads.{is_read, own_row, read_key, read_row}
use Rattle.batch_scan.proofs.Padded.{keeps_padded}
use Rattle.batch_scan.proofs.Walks.{read_more, values_append}

module _ (schema : Schema) (condition : Option Pred) where
  abbrev width : ℕ
  width = length schema.columns

  -- the rows of a table that are kept
  abbrev pub kept_rows : Table → List (List Value)
  kept_rows rows = filter (keeps schema condition) (values_of rows)

  pub kept_append : (xs ys : Table) → kept_rows (xs ++ ys) ≡ kept_rows xs ++ kept_rows ys
  kept_append xs ys = ap (filter (keeps schema condition)) (values_append xs ys) ∙ filter-append (keeps schema condition) (values_of xs) (values_of ys)

  -- one more that is read of a list, after those before it
  pub kept_more : {X : Type 0} (f : X → Option (Key × List Value)) (xs : List X) (n : ℕ) (initial old new : List (List Value)) → old ≡ initial ++ kept_rows (filter_map f (take n xs))
      → new ≡ old ++ kept_rows (option_to_list (option_and_then f (slice_get xs n))) → new ≡ initial ++ kept_rows (filter_map f (take (n + 1) xs))
  kept_more f xs n initial old new before here =
      let last = option_to_list (option_and_then f (slice_get xs n)) in
      here ∙ ap (λ l. l ++ kept_rows last) before ∙ append_assoc initial (kept_rows (filter_map f (take n xs))) (kept_rows last)
      ∙ ap (λ l. initial ++ l) (sym (kept_append (filter_map f (take n xs)) last) ∙ ap kept_rows (sym (read_more f xs n)))

  -- some more rows after those before them
  pub kept_behind : (front more : Table) (initial old new : List (List Value)) → old ≡ initial ++ kept_rows front → new ≡ old ++ kept_rows more → new ≡ initial ++ kept_rows (front ++ more)
  kept_behind front more initial old new before here =
      here ∙ ap (λ l. l ++ kept_rows more) before ∙ append_assoc initial (kept_rows front) (kept_rows more) ∙ ap (λ l. initial ++ l) (sym (kept_append front more))

  kept_one : (row : List Value) (b : Bool) → keeps schema condition row ≡ b → filter (keeps schema condition) (row ∷ []) ≡ cond b (row ∷ []) []
  kept_one row b is = ap (λ t. cond t (row ∷ []) []) is

  -- ---- a version of a store

  module _ (pinned : Pinned) where
    pub unread : (o : Option Rowed) → is_some (option_and_then (read_key pinned) o) ≡ false → kept_rows (option_to_list (option_and_then (read_row width pinned) o)) ≡ []
    unread None none = refl
    unread (Some rowed) none = step (is_read pinned rowed) none
      where
        step : (t : Bool) → is_some (cond t (Some rowed.version.key) None) ≡ false → kept_rows (option_to_list (cond t (Some (shown_row width rowed)) None)) ≡ []
        step true is = cc
        step false is = refl

    left_out : (stored : List Value) (rowed : Rowed) → rowed.row ≡ stored → keeps schema condition stored ≡ false → keeps schema condition (padded width rowed.row) ≡ false
    left_out stored rowed same out = ap (λ row. keeps schema condition (padded width row)) same ∙ sym (keeps_padded schema condition stored) ∙ out

    pub unkept : (stored : List Value) (o : Option Rowed) → option_map (λ (rowed : Rowed). rowed.row) o ≡ Some stored → keeps schema condition stored ≡ false → kept_rows (option_to_list (option_and_then (read_row width pinned) o)) ≡ []
    unkept stored None is out = refl
    unkept stored (Some rowed) is out = step (is_read pinned rowed)
      where
        step : (t : Bool) → kept_rows (option_to_list (cond t (Some (shown_row width rowed)) None)) ≡ []
        step true = kept_one (padded width rowed.row) false (left_out stored rowed (same_Some rowed.row stored is) out)
        step false = refl

    pub kept_stored : (stored row : List Value) (o : Option Rowed) → option_map (λ (rowed : Rowed). rowed.row) o ≡ Some stored → is_some (option_and_then (read_key pinned) o) ≡ true → keeps schema condition stored ≡ true
        → option_map (λ (rowed : Rowed). padded width rowed.row) o ≡ Some row → kept_rows (option_to_list (option_and_then (read_row width pinned) o)) ≡ row ∷ []
    kept_stored stored row None is read keep made = cc
    kept_stored stored row (Some rowed) is read keep made = step (is_read pinned rowed) read
      where
        kept : keeps schema condition (padded width rowed.row) ≡ true
        kept = ap (λ cells. keeps schema condition (padded width cells)) (same_Some rowed.row stored is) ∙ sym (keeps_padded schema condition stored) ∙ keep

        step : (t : Bool) → is_some (cond t (Some rowed.version.key) None) ≡ true → kept_rows (option_to_list (cond t (Some (shown_row width rowed)) None)) ≡ row ∷ []
        step true seen = kept_one (padded width rowed.row) true kept ∙ ap (λ r. r ∷ []) (same_Some (padded width rowed.row) row made)
        step false seen = cc

  -- ---- an own write

  pub own_none : (write : Write) → write.row ≡ None → kept_rows (option_to_list (own_row write)) ≡ []
  own_none write none = ap (λ o. kept_rows (option_to_list (option_map (λ (row : List Value). (write.key, row)) o))) none

  pub own_one : (write : Write) (row : List Value) (b : Bool) → write.row ≡ Some row → keeps schema condition row ≡ b → kept_rows (option_to_list (own_row write)) ≡ cond b (row ∷ []) []
  own_one write row b is keep = ap (λ o. kept_rows (option_to_list (option_map (λ (r : List Value). (write.key, r)) o))) is ∙ kept_one row b keep

-- the row of a stored version
pub stored_here : (versions : List KeyedVersion) (i : ℕ) (stored : Stored) → option_map (λ (keyed : KeyedVersion). keyed.version) (slice_get versions i) ≡ Some stored → option_map (λ (rowed : Rowed). rowed.row) (slice_get (stored_versions versions) i) ≡ Some stored.row
stored_here versions i stored is = ap (option_map (λ (rowed : Rowed). rowed.row)) (slice_get-map stored_version versions i) ∙ step (slice_get versions i) is
  where
    step : (o : Option KeyedVersion) → option_map (λ (keyed : KeyedVersion). keyed.version) o ≡ Some stored → option_map (λ (rowed : Rowed). rowed.row) (option_map stored_version o) ≡ Some stored.row
    step None is = cc
    step (Some keyed) is = ap (λ (version : Stored). Some version.row) (same_Some keyed.version stored is)
