-- What was begun, as what is pinned for it shows it.
use Rattle.std.proofs.Common.{◌≡◌, ℕ, List, [], ◌∷◌, length, map, refl, sym, ap, ◌∙◌, subst}
use Rattle.std.specs.List.{All, AllByRecursion}
use Rattle.std.proofs.lemmas.List.Elements.{All-map, All-nil, recursion_from_All}
use Rattle.cs_types.specs.declared.Key.{Key}
use Rattle.cs_types.specs.declared.Value.{Value}
use Rattle.cs_types.proofs.PaddedLemmas.{padded_itself}
use Rattle.cs_model.specs.Changes.{Edit, Change, Table, laid}
use Rattle.cs_model.specs.Held.{IsFit, IsFitTable, IsWhole}
use Rattle.edit_laws.specs.Edits.{edits_of}
use Rattle.edit_laws.proofs.Rows.{Holds, laid_all}
use Rattle.log_laws.specs.Started.{Begun, snapshot_table, seen_by}
use Rattle.group_view.specs.declared.view.Pinned.{Pinned}
use Rattle.group_view.specs.Views.{padded_table}
use Rattle.row_work.specs.Reads.{read_by, shown_by, MayRead}
use Rattle.statement_core.specs.Begun.{MayWork, Pins}
use Rattle.statement_core.specs.Outcomes.{width_of}

-- rows that have a cell for every column are themselves in so many cells
padded_same : (width : ℕ) (rows : Table) → AllByRecursion (λ (entry : Key × List Value). length entry.1 ≡ width) rows → padded_table width rows ≡ rows
padded_same width [] all = refl
padded_same width (entry ∷ rows) all = ap (λ (row : List Value). (entry.0, row) ∷ padded_table width rows) (sym (padded_itself width entry.1 all.0)) ∙ ap (λ (l : Table). entry ∷ l) (padded_same width rows all.1)

module _ (begun : Begun) (pinned : Pinned) (pins : Pins begun pinned) (work : MayWork begun) where
  edits_of_changes : (Q : Edit → Type 0) → All (λ (change : Change). Q change.edit) begun.changes → All (Holds Q) (snapshot_table begun)
  edits_of_changes Q all = laid_all Q [] (map (λ (change : Change). change.edit) begun.changes) (All-nil (Holds Q)) (All-map Q (λ (change : Change). change.edit) begun.changes all)

  -- the view shows the table of the snapshot
  pub shown_is : shown_by (width_of begun) pinned ≡ snapshot_table begun
  shown_is =
      pins.shows
      ∙ padded_same (width_of begun) (snapshot_table begun)
      (recursion_from_All (λ (entry : Key × List Value). length entry.1 ≡ width_of begun) (snapshot_table begun) (edits_of_changes (IsWhole begun.schema) work.whole))

  pub read_is : read_by (width_of begun) pinned ≡ seen_by begun
  read_is = ap (λ (t : Table). laid t (edits_of pinned.own)) shown_is ∙ ap (laid (snapshot_table begun)) pins.own

  snapshot_fits : IsFitTable begun.schema (snapshot_table begun)
  snapshot_fits = edits_of_changes (IsFit begun.schema) work.fit

  pub may_read : MayRead begun.schema pinned
  may_read = record {
    table = work.schema;
    snapshot = record { view = pins.view; from_floor = pins.from_floor; to_clock = pins.to_clock };
    fit = subst (IsFitTable begun.schema) (sym shown_is) snapshot_fits;
    own_fit = subst (All (IsFit begun.schema)) (sym pins.own) work.own_fit;
  }

  -- and what is read fits the table
  pub seen_fits : IsFitTable begun.schema (seen_by begun)
  seen_fits = laid_all (IsFit begun.schema) (snapshot_table begun) begun.own snapshot_fits work.own_fit
