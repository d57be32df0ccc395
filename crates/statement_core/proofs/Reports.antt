-- The report on segments: it shows the core's book, and it can be printed where the table holds what is committed.
use Rattle.std.proofs.Common.{◌≡◌, ◌<◌, ℕ, List, [], ◌∷◌, length, refl, sym, ap, subst, ◌∙◌, cond, arith, Bool, true, false, Option, None, Some, Result, Ok, Err, All}
use Rattle.std.specs.Prelude.{IfOk, fold, nat_le}
use Rattle.std.specs.List.{AllByRecursion, flat_map}
use Rattle.std.specs.Option.{option_map}
use Rattle.std.proofs.lemmas.List.Elements.{All-nil, All-cons, All-filter, recursion_from_All}
use Rattle.std.proofs.lemmas.Option.{none-some, same_Some}
use Rattle.cs_types.specs.declared.Key.{Key}
use Rattle.cs_types.specs.declared.Schema.{Schema}
use Rattle.cs_types.specs.declared.Value.{Value}
use Rattle.cs_types.specs.Keys.{same_key}
use Rattle.cs_types.specs.Rows.{key_in, padded}
use Rattle.cs_types.specs.Schemas.{IsRowOf}
use Rattle.cs_types.proofs.PaddedLemmas.{padded_fits, padded_key}
use Rattle.cs_model.specs.declared.entry.Reply.{Reply}
use Rattle.cs_model.specs.declared.entry.Reply.TheVariants as reply
use Rattle.cs_model.specs.Changes.{Change, until, last_change, made}
use Rattle.cs_model.specs.Held.{IsFit, MayStand, AreFit}
use Rattle.cs_model.specs.Text.{IsPrintableReply}
use Rattle.delete_bitmap.specs.declared.MarkedEnd.{MarkedEnd}
use Rattle.row_group.specs.Rows.{PackedRow}
use Rattle.group_book.proofs.Keys.{key_is}
use Rattle.group_book.proofs.Lists.{all-left, all-right}
use Rattle.group_log.specs.Followed.{ShowsBook}
use Rattle.group_view.specs.declared.groups.Group.{Group}
use Rattle.group_view.specs.declared.groups.GroupContent.{GroupContent}
use Rattle.group_view.specs.declared.groups.GroupContent.TheVariants.{Opened, Closed, Compressed, Invisible, Tombstone}
use Rattle.group_view.specs.declared.view.GroupView.{GroupView}
use Rattle.group_view.specs.Books.{rowed_in_content, book_of}
use Rattle.group_view.specs.Laws.{IsMadeRow}
use Rattle.group_view.specs.Lists.{IsFittingContent, packed_in}
use Rattle.group_view.specs.Parts.{Rowed, packed_version, packed_versions, rows_by_id, ArePacked}
use Rattle.group_reports.specs.Segments.{compressed, AreHeld, ArePackedParts, IsSegmentReport}
use Rattle.group_reports.proofs.Lines.{parts_packed}
use Rattle.group_directory.specs.declared.directory.Directory.{Directory}
use Rattle.group_directory.specs.Laws.{IsLookAt}
use Rattle.group_directory.specs.Stands.{Stands}
use Rattle.group_directory.proofs.GroupLaws.{listed_whole}
use Rattle.group_directory.proofs.ReportLaws.{segments_shown}
use Rattle.statement_core.specs.Fit.{AreFitting}

module _ (schema : Schema) where
  -- ---- the rows of changes

  -- what the last of a key's changes made is a row of that key
  made_from : (key : Key) (acc : Option Change) (xs : List Change) → MayStand schema key (made acc) → AllByRecursion (λ (change : Change). IsFit schema change.edit) xs
      → MayStand schema key (made (fold (λ last (change : Change). cond (same_key key change.edit.0) (Some change) last) acc xs))
  made_from key acc [] h all = h
  made_from key acc (x ∷ xs) h all = made_from key (cond (same_key key x.edit.0) (Some x) acc) xs (step (same_key key x.edit.0) refl) all.1
    where
      step : (t : Bool) → same_key key x.edit.0 ≡ t → MayStand schema key (made (cond t (Some x) acc))
      step true is = subst (λ (k : Key). MayStand schema k x.edit.1) (key_is key x.edit.0 is) all.0.1
      step false is = h

  pub made_row : (changes : List Change) (key : Key) (s : ℕ) → AreFit schema changes → MayStand schema key (made (last_change key s changes))
  made_row changes key s fit =
      let P = λ (change : Change). IsFit schema change.edit in
      made_from key None (until s changes) tt (recursion_from_All P (until s changes) (All-filter (λ (change : Change). nat_le change.commit s) P changes fit))

  -- ---- the rows of groups

  abbrev width : ℕ
  width = length schema.columns

  -- a row that is in the table's cells one of a key fits the table in these, and is of that key
  pub row_fits : (key : Key) (row : List Value) (o : Option (List Value)) → MayStand schema key o → option_map (padded width) o ≡ Some (padded width row) → IsRowOf schema (padded width row)
  row_fits key row None h is = absurd (none-some (padded width row) is)
  row_fits key row (Some other) h is = subst (IsRowOf schema) (same_Some (padded width other) (padded width row) is) (padded_fits schema other h.row)

  pub row_under : (key : Key) (row : List Value) (o : Option (List Value)) → schema.key < width → MayStand schema key o → option_map (padded width) o ≡ Some (padded width row) → key_in schema.key (padded width row) ≡ key
  row_under key row None within h is = absurd (none-some (padded width row) is)
  row_under key row (Some other) within h is =
      ap (key_in schema.key) (sym (same_Some (padded width other) (padded width row) is)) ∙ padded_key width other schema.key within ∙ h.under

  module _ (changes : List Change) (fit : AreFit schema changes) where
    abbrev IsRowHeld : PackedRow → Type 0
    IsRowHeld row = IsRowOf schema (padded width row.cells)

    rows_held : (key : ℕ) (rows : List PackedRow) (marks : List (Option MarkedEnd)) → length marks ≡ length rows → AllByRecursion (IsMadeRow width changes) (packed_versions key rows marks) → All IsRowHeld rows
    rows_held key [] marks long all = All-nil IsRowHeld
    rows_held key (row ∷ rows) [] long all = absurd (omega (arith, long))
    rows_held key (row ∷ rows) (mark ∷ marks) long all =
        let version = (packed_version key row mark).version in
        All-cons IsRowHeld row rows (row_fits version.key row.cells (made (last_change version.key version.begin changes)) (made_row changes version.key version.begin fit) all.0)
        (rows_held key rows marks (omega (arith, long)) all.1)

    abbrev IsGroupHeld : ℕ × List PackedRow → Type 0
    IsGroupHeld group = All IsRowHeld group.1

    abbrev rows_in_all : List Group → List Rowed
    rows_in_all groups = flat_map (λ (group : Group). rowed_in_content group.content) groups

    groups_held : (groups : List Group) → AllByRecursion (λ (group : Group). IsFittingContent group.content) groups → AllByRecursion (IsMadeRow width changes) (rows_in_all groups) → AreHeld schema (rows_by_id (packed_in groups))
    groups_held [] fits all = All-nil IsGroupHeld
    groups_held (group ∷ groups) fits all =
        step group.content fits.0 (all-left (IsMadeRow width changes) (rowed_in_content group.content) (rows_in_all groups) all)
        (groups_held groups fits.1 (all-right (IsMadeRow width changes) (rowed_in_content group.content) (rows_in_all groups) all))
      where
        step : (content : GroupContent) → IsFittingContent content → AllByRecursion (IsMadeRow width changes) (rowed_in_content content) → AreHeld schema (rows_by_id (packed_in groups))
            → AreHeld schema (rows_by_id (packed_in (record group { content = content } ∷ groups)))
        step (Opened store) long here rest = rest
        step (Closed store) long here rest = rest
        step (Compressed packed marks) long here rest =
            All-cons IsGroupHeld (group.id, packed.value.rows) (rows_by_id (packed_in groups)) (rows_held packed.value.key packed.value.rows marks.value long here) rest
        step Invisible long here rest = rest
        step (Tombstone total deleted) long here rest = rest

-- ---- all that is committed

pub changes_fit : (schema : Schema) (changes : List Change) → AreFitting schema changes → AreFit schema changes
changes_fit schema changes fit = λ k d lt. (fit k d lt).0

-- ---- a look at the directory

module _ (directory : Directory) (view : GroupView) (changes : List Change) (j : Stands directory changes) (look : IsLookAt directory view) where
  abbrev now : Schema
  now = directory.schema.value

  pub look_packed : ArePackedParts directory.schema.value view.groups
  look_packed = parts_packed now view.groups (subst (ArePacked now) (sym look.packed) j.packed)

  pub look_held : AreFit directory.schema.value changes → AreHeld directory.schema.value (compressed view.groups)
  look_held fit =
      let groups = directory.list.groups.items in
      let held = j.held in
      subst (λ entries. AreHeld now (rows_by_id entries)) (sym look.packed)
      (groups_held now changes fit groups (recursion_from_All (λ (group : Group). IsFittingContent group.content) groups held.fitting)
      (subst (AllByRecursion (IsMadeRow (length directory.schema.value.columns) changes)) (listed_whole groups) (recursion_from_All (IsMadeRow (length directory.schema.value.columns) changes) _ j.rows)))

  pub look_shows : (r : Reply) → IsSegmentReport directory.schema.value (compressed view.groups) r → ShowsBook directory.schema.value changes (book_of directory.list) r
  look_shows reply.Done h = absurd h
  look_shows (reply.Affected count) h = absurd h
  look_shows (reply.Rows rows segments) h = absurd h
  look_shows (reply.Groups lines buffered) h = absurd h
  look_shows (reply.Segments lines) h = segments_shown directory view changes lines j look h
  look_shows (reply.Left groups) h = absurd h
  look_shows (reply.Refused refusal) h = absurd h

-- what a report is where all fits the table
pub ok_when_fit : {E : Type 0} (directory : Directory) (r : Result Reply E)
    → ((changes : List Change) → Stands directory changes → AreFit directory.schema.value changes → IfOk r (IsPrintableReply directory.schema.value))
    → IfOk r (λ (reply : Reply). (changes : List Change) → Stands directory changes → AreFit directory.schema.value changes → IsPrintableReply directory.schema.value reply)
ok_when_fit directory (Ok reply) h = h
ok_when_fit directory (Err e) h = tt
