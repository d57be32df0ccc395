-- What a view shows, by the book that it is a view of.
use Rattle.std.proofs.Common.{◌≡◌, ℕ, ◌<◌, ◌≤◌, Bool, true, false, ◌&&◌, cond, leb, List, [], ◌∷◌, ◌++◌, map, refl, sym, ap, ◌∙◌, subst, arith}
use Rattle.std.specs.Prelude.{Option, None, Some, is_some}
use Rattle.std.specs.List.{All, AllByRecursion, list_any}
use Rattle.std.specs.List.Sorted.{IsPermutation, IsStrictlySortedBy}
use Rattle.std.specs.BTreeMap.{is_at}
use Rattle.std.specs.Option.{option_map}
use Rattle.std.proofs.lemmas.Bool.{leb-true, lt-leb}
use Rattle.std.proofs.lemmas.List.{append-nil}
use Rattle.std.proofs.lemmas.List.Elements.{All-append, All-from_recursion, filter-append, filter_passes, recursion_from_All}
use Rattle.std.proofs.lemmas.List.Sorted.{All-permutation}
use Rattle.std.proofs.lemmas.Map.Made.{keys_of-map_values, lookup-map_values}
use Rattle.cs_types.specs.declared.Key.{Key}
use Rattle.cs_types.specs.declared.Value.{Value}
use Rattle.cs_types.specs.Keys.{key_cmp, same_key}
use Rattle.cs_types.specs.Rows.{padded}
use Rattle.cs_model.specs.Changes.{Edit, Table, Change, laid, until, table, newest, last_change, made}
use Rattle.cs_model.proofs.Tables.{row_is, table_ascends}
use Rattle.edit_laws.proofs.Tables.{Ascends, at, rows_of, rows_whole}
use Rattle.group_book.specs.Book.{Version, Ending, Book, opened, frozen, how_many, is_visible, shows}
use Rattle.group_book.specs.Stocks.{AreChanges}
use Rattle.group_book.specs.Invariant.{IsBookOf, IsSeenAt}
use Rattle.cs_model.specs.Obstacles.{has_row}
use Rattle.group_book.proofs.Lists.{all-both, all-filter, how_many-append, how_many-map, how_many-none, none_pass}
use Rattle.group_book.proofs.Move.{how_many-permutation}
use Rattle.group_book.proofs.Visible.{each_shown, frozen_seen, opened_seen}
use Rattle.group_view.specs.declared.view.GroupView.{GroupView}
use Rattle.group_view.specs.Parts.{Rowed}
use Rattle.group_view.specs.Views.{buffer_of, rowed_of, is_shown, shown, shown_edit, shown_table, padded_table, IsView, ShowsTables}
use Rattle.group_view.specs.Books.{versions_of}
use Rattle.group_view.specs.Laws.{shown_row, IsMadeRow, IsViewOf}
use Rattle.group_view.proofs.Counts.{how_many-filter, recursion-map, in_versions, laid_in}

-- ---- rows of a table

-- versions with the rows that a table has at their keys, as edits of it
edits_are : (width : ℕ) (rows : Table) (versions : List Rowed) → AllByRecursion (λ (rowed : Rowed). at rowed.version.key rows ≡ Some (padded width rowed.row)) versions
    → rows_of rows (map (λ (rowed : Rowed). rowed.version.key) versions) ≡ map (shown_edit width) versions
edits_are width rows [] all = refl
edits_are width rows (x ∷ versions) all = rw all.0 (ap (λ (edits : List Edit). shown_edit width x ∷ edits) (edits_are width rows versions all.1))

-- how many versions of a key there are, and whether there is one
counted_none : (key : Key) (versions : List Rowed) → list_any (same_key key) (map (λ (rowed : Rowed). rowed.version.key) versions) ≡ false → in_versions key versions ≡ 0
counted_none key versions none =
    sym (how_many-map (same_key key) (λ (rowed : Rowed). rowed.version.key) versions)
    ∙ how_many-none (same_key key) (map (λ (rowed : Rowed). rowed.version.key) versions) (none_pass (same_key key) (map (λ (rowed : Rowed). rowed.version.key) versions) none)

pub padded_ascends : (width : ℕ) (rows : Table) → Ascends rows → Ascends (padded_table width rows)
padded_ascends width rows up = subst (IsStrictlySortedBy key_cmp) (sym (keys_of-map_values (padded width) rows)) up

-- the row of a key in so many cells
padded_at : (width : ℕ) (changes : List Change) (s : ℕ) (key : Key) → at key (padded_table width (table changes s)) ≡ option_map (padded width) (made (last_change key s changes))
padded_at width changes s key = lookup-map_values (padded width) (is_at (key_cmp key)) (table changes s) ∙ ap (option_map (padded width)) (row_is changes s key)

none_at : (width : ℕ) (changes : List Change) (s : ℕ) (key : Key) → has_row (table changes s) key ≡ false → at key (padded_table width (table changes s)) ≡ None
none_at width changes s key none = lookup-map_values (padded width) (is_at (key_cmp key)) (table changes s) ∙ step (at key (table changes s)) none
  where
    step : (o : Option (List Value)) → is_some o ≡ false → option_map (padded width) o ≡ None
    step None none = refl
    step (Some row) none = cc

-- ---- a view of a book

module _ (group_rows width : ℕ) (view : GroupView) (book : Book) (changes : List Change) (a : AreChanges changes view.clock) (j : IsBookOf group_rows book changes view.floor) (v : IsViewOf width view book changes) (s : ℕ) (reach : view.floor ≤ s) where
  abbrev versions : List Version
  versions = opened book.groups ++ frozen book.groups

  -- each key of the table shows once, and no other does
  counts : (key : Key) → how_many (λ (rowed : Rowed). shows (buffer_of view) key s rowed.version) (rowed_of view) ≡ cond (has_row (table changes s) key) 1 0
  counts key =
      sym (how_many-map (shows (buffer_of view) key s) (λ (rowed : Rowed). rowed.version) (rowed_of view))
      ∙ how_many-permutation (shows (buffer_of view) key s) versions (versions_of (rowed_of view)) v.versions
      ∙ ap (λ (buffer : List Ending). how_many (shows buffer key s) versions) v.buffer
      ∙ how_many-append (shows book.buffer key s) (opened book.groups) (frozen book.groups)
      ∙ each_shown group_rows book changes view.clock view.floor a j s reach key

  at_most_once : (key : Key) → how_many (λ (rowed : Rowed). shows (buffer_of view) key s rowed.version) (rowed_of view) ≤ 1
  at_most_once key = step (has_row (table changes s) key) (counts key)
    where
      step : (t : Bool) → how_many (λ (rowed : Rowed). shows (buffer_of view) key s rowed.version) (rowed_of view) ≡ cond t 1 0 → how_many (λ (rowed : Rowed). shows (buffer_of view) key s rowed.version) (rowed_of view) ≤ 1
      step true is = omega (arith, is)
      step false is = omega (arith, is)

  shown_of : (key : Key) → in_versions key (shown view s) ≡ how_many (λ (rowed : Rowed). shows (buffer_of view) key s rowed.version) (rowed_of view)
  shown_of key = how_many-filter (λ (rowed : Rowed). same_key key rowed.version.key) (is_shown view s) (rowed_of view)

  abbrev Seen : Version → Type 0
  Seen version = is_visible book.buffer s version ≡ true → IsSeenAt changes view.floor s version

  seen_versions : AllByRecursion (λ (rowed : Rowed). Seen rowed.version) (rowed_of view)
  seen_versions =
      recursion-map Seen (λ (rowed : Rowed). rowed.version) (rowed_of view)
      (recursion_from_All Seen (versions_of (rowed_of view)) (All-permutation Seen versions (versions_of (rowed_of view)) v.versions
      (All-append Seen (opened book.groups) (frozen book.groups) (opened_seen group_rows book changes view.clock view.floor a j s reach) (frozen_seen group_rows book changes view.clock view.floor a j s reach))))

  -- what is shown stems from its key's last change at s
  seen_shown : AllByRecursion (λ (rowed : Rowed). IsSeenAt changes view.floor s rowed.version) (shown view s)
  seen_shown =
      all-filter (λ (rowed : Rowed). Seen rowed.version) (λ (rowed : Rowed). IsSeenAt changes view.floor s rowed.version) (is_shown view s) (rowed_of view)
      (λ rowed seen is. seen (ap (λ (buffer : List Ending). is_visible buffer s rowed.version) (sym v.buffer) ∙ is)) seen_versions

  row_of_seen : (rowed : Rowed) → IsMadeRow width changes rowed → IsSeenAt changes view.floor s rowed.version → at rowed.version.key (padded_table width (table changes s)) ≡ Some (padded width rowed.row)
  row_of_seen rowed own seen =
      padded_at width changes s rowed.version.key ∙ ap (λ (o : Option Change). option_map (padded width) (made o)) (seen.is_last ∙ sym seen.stems) ∙ own

  shown_rows_are : AllByRecursion (λ (rowed : Rowed). at rowed.version.key (padded_table width (table changes s)) ≡ Some (padded width rowed.row)) (shown view s)
  shown_rows_are =
      all-both (IsMadeRow width changes) (λ (rowed : Rowed). IsSeenAt changes view.floor s rowed.version) (λ (rowed : Rowed). at rowed.version.key (padded_table width (table changes s)) ≡ Some (padded width rowed.row)) (shown view s) row_of_seen
      (all-filter (IsMadeRow width changes) (IsMadeRow width changes) (is_shown view s) (rowed_of view) (λ rowed own is. own) (recursion_from_All (IsMadeRow width changes) (rowed_of view) v.rows)) seen_shown

  others_none : (key : Key) → list_any (same_key key) (map (λ (rowed : Rowed). rowed.version.key) (shown view s)) ≡ false → at key (padded_table width (table changes s)) ≡ None
  others_none key none = step (has_row (table changes s) key) refl
    where
      step : (t : Bool) → has_row (table changes s) key ≡ t → at key (padded_table width (table changes s)) ≡ None
      step false is = none_at width changes s key is
      step true is = absurd (omega (arith, counted_none key (shown view s) none, shown_of key, counts key ∙ ap (λ (t : Bool). cond t 1 0) is))

  -- what is shown, by key, is the table
  table_shown : shown_table width view s ≡ padded_table width (table changes s)
  table_shown =
      ap (laid []) (sym (edits_are width (padded_table width (table changes s)) (shown view s) shown_rows_are))
      ∙ rows_whole (padded_table width (table changes s)) (map (λ (rowed : Rowed). rowed.version.key) (shown view s)) (padded_ascends width (table changes s) (table_ascends changes s)) others_none

module _ (group_rows width : ℕ) (view : GroupView) (book : Book) (changes : List Change) (a : AreChanges changes view.clock) (j : IsBookOf group_rows book changes view.floor) (v : IsViewOf width view book changes) where
  pub is_view : IsView view
  is_view = record {
    fitting = v.fitting;
    within = v.within;
    once = λ key s reach most. at_most_once group_rows width view book changes a j v s reach key;
  }

  pub tables_shown : ShowsTables width view changes
  tables_shown = record {
    tables = λ s reach most. table_shown group_rows width view book changes a j v s reach;
    begins = λ s reach most. All-from_recursion (λ (rowed : Rowed). IsSeenAt changes view.floor s rowed.version) (shown view s) (seen_shown group_rows width view book changes a j v s reach);
  }

-- ---- later changes

module _ (changes later : List Change) (clock : ℕ) (above : AllByRecursion (λ (change : Change). clock < change.commit) later) (s : ℕ) (within : s ≤ clock) where
  none_until : (more : List Change) → AllByRecursion (λ (change : Change). clock < change.commit) more → until s more ≡ []
  none_until [] all = refl
  none_until (change ∷ more) all = rw (lt-leb change.commit s (omega (arith, all.0, within))) (none_until more all.1)

  pub until_stays : until s (changes ++ later) ≡ until s changes
  until_stays = filter-append (λ (change : Change). leb change.commit s) changes later ∙ ap (λ (rest : List Change). until s changes ++ rest) (none_until later above) ∙ append-nil (until s changes)

  pub table_stays : table (changes ++ later) s ≡ table changes s
  table_stays = ap (λ (list : List Change). laid [] (map (λ (change : Change). change.edit) list)) until_stays

  pub last_stays : (key : Key) → last_change key s (changes ++ later) ≡ last_change key s changes
  last_stays key = ap (newest key) until_stays

module _ (width : ℕ) (view : GroupView) (changes later : List Change) (above : All (λ (change : Change). view.clock < change.commit) later) (shows : ShowsTables width view changes) where
  higher : AllByRecursion (λ (change : Change). view.clock < change.commit) later
  higher = recursion_from_All (λ (change : Change). view.clock < change.commit) later above

  seen_stays : (s : ℕ) → s ≤ view.clock → (rowed : Rowed) → IsSeenAt changes view.floor s rowed.version → is_shown view s rowed ≡ true → IsSeenAt (changes ++ later) view.floor s rowed.version
  seen_stays s most rowed seen visible =
      let begun : leb rowed.version.begin s ≡ true = begun_of (leb rowed.version.begin s) _ visible in
      let low : rowed.version.begin ≤ view.clock = omega (arith, leb-true rowed.version.begin s begun, most) in
      record {
        change = seen.change;
        is_last = last_stays changes later view.clock higher s most rowed.version.key ∙ seen.is_last;
        stems = last_stays changes later view.clock higher rowed.version.begin low rowed.version.key ∙ seen.stems;
        row = seen.row;
        begin = seen.begin;
      }
    where
      begun_of : (t u : Bool) → (t && u) ≡ true → t ≡ true
      begun_of true u h = refl
      begun_of false u h = cc

  pub still_shown : ShowsTables width view (changes ++ later)
  still_shown = record {
    tables = λ s reach most. shows.tables s reach most ∙ ap (padded_table width) (sym (table_stays changes later view.clock higher s most));
    begins = λ s reach most. All-from_recursion (λ (rowed : Rowed). IsSeenAt (changes ++ later) view.floor s rowed.version) (shown view s)
        (all-both (λ (rowed : Rowed). IsSeenAt changes view.floor s rowed.version) (λ (rowed : Rowed). is_shown view s rowed ≡ true) (λ (rowed : Rowed). IsSeenAt (changes ++ later) view.floor s rowed.version) (shown view s) (seen_stays s most)
        (recursion_from_All (λ (rowed : Rowed). IsSeenAt changes view.floor s rowed.version) (shown view s) (shows.begins s reach most))
        (recursion_from_All (λ (rowed : Rowed). is_shown view s rowed ≡ true) (shown view s) (filter_passes (is_shown view s) (rowed_of view))));
  }

-- ---- the rows that are shown

-- by key they are the view's own table, each key's row once
pub shown_permuted : (width : ℕ) (view : GroupView) (s : ℕ) → IsView view → view.floor ≤ s → s ≤ view.clock → IsPermutation (map (shown_row width) (shown view s)) (shown_table width view s)
shown_permuted width view s is reach most =
    subst (λ (rows : Table). IsPermutation rows (shown_table width view s)) (append-nil (map (shown_row width) (shown view s)))
    (laid_in width (shown view s) [] (λ key. omega (arith, how_many-filter (λ (rowed : Rowed). same_key key rowed.version.key) (is_shown view s) (rowed_of view), is.once key s reach most)))

pub rows_shown : (width : ℕ) (view : GroupView) (changes : List Change) (s : ℕ) → IsView view → ShowsTables width view changes → view.floor ≤ s → s ≤ view.clock
    → IsPermutation (map (shown_row width) (shown view s)) (padded_table width (table changes s))
rows_shown width view changes s is shows reach most =
    subst (λ (rows : Table). IsPermutation (map (shown_row width) (shown view s)) rows) (shows.tables s reach most) (shown_permuted width view s is reach most)
