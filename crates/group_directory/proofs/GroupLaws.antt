-- Rows, group by group and claim by claim.
use Rattle.std.proofs.Common.{◌≡◌, ◌⊎◌, ℕ, ◌+◌, Bool, true, false, cond, List, [], ◌∷◌, ◌++◌, map, filter, length, get_or, Some, refl, sym, ap, subst, ◌∙◌, inl, inr, arith}
use Rattle.std.specs.List.{All, AllByRecursion, Contains, flat_map}
use Rattle.std.specs.List.Sorted.{IsPermutation, IsStrictlySortedBy}
use Rattle.std.specs.declared.alloc.Global.{Global}
use Rattle.std.specs.declared.sync.Arc.{Arc}
use Rattle.std.proofs.lemmas.List.{map-append}
use Rattle.std.proofs.lemmas.List.Elements.{All-from_recursion, All-contains, All-weaker, recursion_from_All}
use Rattle.std.proofs.lemmas.List.Folds.{flat_map-map}
use Rattle.cs_types.specs.declared.Key.{Key}
use Rattle.cs_types.specs.declared.Schema.{Schema}
use Rattle.cs_types.specs.declared.Value.{Value}
use Rattle.cs_types.specs.Keys.{key_cmp}
use Rattle.cs_model.specs.declared.work.Actor.{Actor}
use Rattle.cs_model.specs.Changes.{Edit, Change}
use Rattle.cs_model.specs.Obstacles.{keys_of}
use Rattle.cs_model.specs.Steps.{numbered}
use Rattle.log_laws.proofs.Floors.{floor_one}
use Rattle.txn_table.specs.Txns.{txn_of, snapshots_in}
use Rattle.delete_bitmap.specs.declared.Marks.{Marks}
use Rattle.row_group.specs.declared.packed.Packed as packed
use Rattle.group_book.specs.Book.{Ending, opened, frozen}
use Rattle.group_book.specs.Book.Choice.{Flush}
use Rattle.group_book.specs.Turns.{entries_for}
use Rattle.group_book.specs.Turns as turns
use Rattle.group_book.specs.Stocks.{AreChanges}
use Rattle.group_book.specs.Invariant.{IsClaim, IsBookOf}
use Rattle.group_book.proofs.Lists.{all-append, all-left, all-right}
use Rattle.group_view.specs.declared.claim.Claim.{Claim}
use Rattle.group_view.specs.declared.groups.GroupContent.{GroupContent}
use Rattle.group_view.specs.declared.groups.GroupContent.TheVariants.{Opened, Closed, Compressed, Invisible, Tombstone}
use Rattle.group_view.specs.declared.groups.Group.{Group}
use Rattle.group_view.specs.declared.view.GroupView.{GroupView}
use Rattle.group_view.specs.declared.parts.GroupPart.{GroupPart}
use Rattle.group_view.specs.Parts.{Rowed, packed_parts, ArePacked, IsPackedGroup, rowed_in}
use Rattle.group_view.specs.Views.{endings_of, buffer_of, rowed_of}
use Rattle.group_view.specs.Books.{versions_of, rowed_in_content, choice_of, claim_of, book_of}
use Rattle.group_view.specs.Lists.{is_listed, listed}
use Rattle.group_view.specs.Laws.{IsMadeRow, IsViewOf}
use Rattle.group_view.specs.Claims.{lent_entries, rowed_of_packed, IsMadeOf}
use Rattle.group_directory.specs.declared.directory.Directory.{Directory}
use Rattle.group_view.specs.Seen.{Seen, seen, entry_of, packed_seen, part_entry, rooted, rooted_in}
use Rattle.group_directory.specs.Claiming.{IsShareOf}
use Rattle.group_directory.specs.Stands.{width_in, rows_in, listed_rows, IsEndedBy, IsLoanOf, Stands}
use Rattle.group_view.specs.Parcels.{IsGiven}
use Rattle.group_directory.specs.Laws.{rooted_at, width_of, IsLookAt}
use Rattle.group_directory.proofs.RowLaws.{rows_moved, rows_later, rows_committed, rows_packed}
use Rattle.group_directory.proofs.PackedLaws.{packed_picked}
use Rattle.group_directory.proofs.LoanLaws.{ends_lent, ends_later}
use Rattle.group_directory.proofs.BookLaws.{each_claim, lows, reach, listed_low, lent_low, listed_versions}
use Rattle.std.proofs.lemmas.List.Sorted.{IsPermutation-refl}

-- ---- group by group

module _ (P : Rowed → Type 0) where
  grouped : (groups : List (ℕ × List Rowed)) → AllByRecursion P (rows_in groups) → AllByRecursion (λ (group : ℕ × List Rowed). All P group.1) groups
  grouped [] all = tt
  grouped (group ∷ groups) all = (All-from_recursion P group.1 (all-left P group.1 (rows_in groups) all), grouped groups (all-right P group.1 (rows_in groups) all))

  joined : (groups : List (ℕ × List Rowed)) → AllByRecursion (λ (group : ℕ × List Rowed). All P group.1) groups → AllByRecursion P (rows_in groups)
  joined [] all = tt
  joined (group ∷ groups) all = all-append P group.1 (rows_in groups) (recursion_from_All P group.1 all.0) (joined groups all.1)

  pub by_group : (groups : List (ℕ × List Rowed)) → All P (rows_in groups) → All (λ (group : ℕ × List Rowed). All P group.1) groups
  by_group groups all = All-from_recursion (λ (group : ℕ × List Rowed). All P group.1) groups (grouped groups (recursion_from_All P (rows_in groups) all))

  pub of_groups : (groups : List (ℕ × List Rowed)) → All (λ (group : ℕ × List Rowed). All P group.1) groups → All P (rows_in groups)
  of_groups groups all = All-from_recursion P (rows_in groups) (joined groups (recursion_from_All (λ (group : ℕ × List Rowed). All P group.1) groups all))

  -- each group is an old one, or has these rows
  pub groups_made : (old groups : List (ℕ × List Rowed)) (made : List Rowed) → All (λ (group : ℕ × List Rowed). Contains old group ⊎ (group.1 ≡ made)) groups → All P (rows_in old) → All P made → All P (rows_in groups)
  groups_made old groups made each all new = of_groups groups (All-weaker (λ (group : ℕ × List Rowed). Contains old group ⊎ (group.1 ≡ made)) (λ (group : ℕ × List Rowed). All P group.1) (λ group is. elim is [
    | inl there ↦ All-contains (λ (other : ℕ × List Rowed). All P other.1) old group (by_group old all) there
    | inr same ↦ subst (All P) (sym same) new
  ]) groups each)

  -- groups that pass a test
  split : (groups : List Group) (id : ℕ) (content : GroupContent) → AllByRecursion P (rows_in (cond (is_listed content) ((id, rowed_in_content content) ∷ listed groups) (listed groups))) → AllByRecursion P (rowed_in_content content) × AllByRecursion P (rows_in (listed groups))
  split groups id (Opened store) all = (all-left P (rowed_in_content (Opened store)) (rows_in (listed groups)) all, all-right P (rowed_in_content (Opened store)) (rows_in (listed groups)) all)
  split groups id (Closed store) all = (all-left P (rowed_in_content (Closed store)) (rows_in (listed groups)) all, all-right P (rowed_in_content (Closed store)) (rows_in (listed groups)) all)
  split groups id (Compressed packed marks) all = (all-left P (rowed_in_content (Compressed packed marks)) (rows_in (listed groups)) all, all-right P (rowed_in_content (Compressed packed marks)) (rows_in (listed groups)) all)
  split groups id Invisible all = (tt, all)
  split groups id (Tombstone total deleted) all = (tt, all)

  picked : (test : Seen → Bool) (groups : List Group) → AllByRecursion P (rows_in (listed groups)) → AllByRecursion P (rows_in (map entry_of (filter test (map seen groups))))
  picked test [] all = tt
  picked test (g ∷ groups) all = let parts = split groups g.id g.content all in at (test (seen g)) parts.0 (picked test groups parts.1)
    where
      at : (t : Bool) → AllByRecursion P (rowed_in_content g.content) → AllByRecursion P (rows_in (map entry_of (filter test (map seen groups)))) → AllByRecursion P (rows_in (map entry_of (cond t (seen g ∷ filter test (map seen groups)) (filter test (map seen groups)))))
      at true here rest = all-append P (rowed_in_content g.content) (rows_in (map entry_of (filter test (map seen groups)))) here rest
      at false here rest = rest

  pub view_picked : (test : Seen → Bool) (groups : List Group) (view : GroupView) → map part_entry view.groups ≡ map entry_of (filter test (map seen groups)) → All P (rows_in (listed groups)) → All P (rowed_of view)
  view_picked test groups view same all =
      subst (All P) (ap rows_in (sym same) ∙ flat_map-map (λ (group : ℕ × List Rowed). group.1) part_entry view.groups)
      (All-from_recursion P (rows_in (map entry_of (filter test (map seen groups)))) (picked test groups (recursion_from_All P (rows_in (listed groups)) all)))

-- ---- all groups

-- a group that no view shows has no versions
pub listed_whole : (groups : List Group) → rows_in (listed groups) ≡ flat_map (λ (group : Group). rowed_in_content group.content) groups
listed_whole [] = refl
listed_whole (g ∷ groups) = step g.content (listed_whole groups)
  where
    step : (content : GroupContent) → rows_in (listed groups) ≡ flat_map (λ (group : Group). rowed_in_content group.content) groups
        → rows_in (cond (is_listed content) ((g.id, rowed_in_content content) ∷ listed groups) (listed groups)) ≡ rowed_in_content content ++ flat_map (λ (group : Group). rowed_in_content group.content) groups
    step (Opened store) rest = ap (λ (l : List Rowed). rowed_in_content (Opened store) ++ l) rest
    step (Closed store) rest = ap (λ (l : List Rowed). rowed_in_content (Closed store) ++ l) rest
    step (Compressed packed marks) rest = ap (λ (l : List Rowed). rowed_in_content (Compressed packed marks) ++ l) rest
    step Invisible rest = rest
    step (Tombstone total deleted) rest = rest

-- ---- other ends

abbrev Rooted : Type 0
Rooted = Key × ℕ × List Value

rooted_flat : (groups : List (ℕ × List Rowed)) → map rooted (rows_in groups) ≡ flat_map (λ (group : ℕ × List Rooted). group.1) (map (λ (group : ℕ × List Rowed). (group.0, map rooted group.1)) groups)
rooted_flat [] = refl
rooted_flat (group ∷ groups) = map-append rooted group.1 (rows_in groups) ∙ ap (λ (l : List Rooted). map rooted group.1 ++ l) (rooted_flat groups)

pub groups_ended : (width : ℕ) (cs : List Change) (before after : List Group) → rooted_in after ≡ rooted_in before → All (IsMadeRow width cs) (rows_in (listed before)) → All (IsMadeRow width cs) (rows_in (listed after))
groups_ended width cs before after same all =
    let roots : map rooted (rows_in (listed before)) ≡ map rooted (rows_in (listed after)) =
    rooted_flat (listed before) ∙ ap (flat_map (λ (group : ℕ × List Rooted). group.1)) (sym same) ∙ sym (rooted_flat (listed after)) in
    rows_moved width cs (rows_in (listed before)) (rows_in (listed after)) (subst (IsPermutation (map rooted (rows_in (listed before)))) roots (IsPermutation-refl (map rooted (rows_in (listed before))))) all

-- ---- events of a directory that stands for some changes

module _ (directory : Directory) (cs : List Change) (j : Stands directory cs) where
  pub committed_rows : (txn : ℕ) (own : List Edit) (rows : List Rowed) (news : List (Key × List Value)) → IsStrictlySortedBy key_cmp (keys_of own) → All (IsGiven (width_in directory) own) news
      → IsPermutation (map rooted (listed_rows directory.list) ++ map (rooted_at (directory.clock + 1)) news) (map rooted rows) → All (IsMadeRow (width_in directory) (cs ++ numbered (directory.clock + 1) txn own)) rows
  committed_rows txn own rows news sorted given moved = rows_committed (width_in directory) directory.clock txn cs own sorted (listed_rows directory.list) rows news (listed_low directory cs j) given moved j.rows

  pub committed_loans : (txn : ℕ) (own : List Edit) → All (IsLoanOf directory.schema.value (cs ++ numbered (directory.clock + 1) txn own)) directory.list.claims.items
  committed_loans txn own k d inside =
      let held = get_or directory.list.claims.items k d in
      let claim = held.1 in
      let loan = j.loans k d inside in
      record {
        of_table = loan.of_table;
        rows = rows_later (width_in directory) directory.clock txn cs own (rowed_of claim.view) (lent_low directory cs j k d inside) loan.rows;
        ends = ends_later cs directory.clock txn own (lows directory cs j) (buffer_of claim.view) (rowed_of claim.view) (lent_low directory cs j k d inside) loan.ends;
        packed = loan.packed;
        entries = loan.entries;
      }

  pub made_rows : (held : Actor × Claim) (group : Arc packed.Packed Global × Arc Marks Global) → Contains directory.list.claims.items held → IsMadeOf held.1 (Some group) → All (IsMadeRow (width_in directory) cs) (rowed_of_packed group.0.value group.1.value)
  made_rows held group there is =
      let loan = All-contains (IsLoanOf directory.schema.value cs) directory.list.claims.items held j.loans there in
      let same : width_of held.1 ≡ width_in directory = ap (λ (schema : Schema). length schema.columns) loan.of_table in
      let claim = All-contains (λ (other : Actor × Claim). IsClaim directory.sizes.group_rows (book_of directory.list) cs j.floor (claim_of other)) directory.list.claims.items held (each_claim directory cs j) there in
      subst (λ (width : ℕ). All (IsMadeRow width cs) (rowed_of_packed group.0.value group.1.value)) same
      (rows_packed (book_of directory.list) cs held.0 held.1 group claim.lent (subst (λ (width : ℕ). All (IsMadeRow width cs) (rowed_of held.1.view)) (sym same) loan.rows) is)

-- ---- views

module _ (directory : Directory) (view : GroupView) (cs : List Change) (j : Stands directory cs) (look : IsLookAt directory view) where
  same_floor : j.floor ≡ view.floor
  same_floor = floor_one (snapshots_in (txn_of directory.txns)) directory.clock j.floor view.floor j.is_floor look.floor

  same_rows : rowed_of view ≡ listed_rows directory.list
  same_rows = sym (flat_map-map (λ (group : ℕ × List Rowed). group.1) part_entry view.groups) ∙ ap rows_in look.groups

  pub look_changes : AreChanges cs view.clock
  look_changes = subst (AreChanges cs) (sym look.clock) j.numbered

  pub look_book : IsBookOf directory.sizes.group_rows (book_of directory.list) cs view.floor
  look_book = subst (IsBookOf directory.sizes.group_rows (book_of directory.list) cs) same_floor j.book

  pub look_view : IsViewOf (width_in directory) view (book_of directory.list) cs
  look_view = record {
    fitting = look.fitting;
    within = let low = reach directory cs j in let floors = same_floor in let clocks = look.clock in omega (arith, low, floors, clocks);
    versions = subst (λ (rows : List Rowed). IsPermutation (opened (book_of directory.list).groups ++ frozen (book_of directory.list).groups) (versions_of rows)) (sym same_rows) (listed_versions directory.list.groups.items);
    buffer = ap endings_of look.buffer;
    rows = subst (All (IsMadeRow (width_in directory) cs)) (sym same_rows) j.rows;
  }

-- ---- a new claim

pub same_lent : (claim other : Claim) → IsShareOf claim other → rowed_of other.view ≡ rowed_of claim.view
same_lent claim other share = ap (flat_map (λ (part : ℕ × GroupPart). rowed_in part.1)) share.groups

-- a share of a claim keeps what the claim keeps
pub loan_shared : (schema : Schema) (cs : List Change) (by : Actor) (claim other : Claim) → IsShareOf claim other → IsLoanOf schema cs (by, claim) → IsLoanOf schema cs (by, other)
loan_shared schema cs by claim other share loan = record {
  of_table = share.schema ∙ loan.of_table;
  rows = subst (All (IsMadeRow (length schema.columns) cs)) (sym rows) loan.rows;
  ends = subst (λ (entries : List Ending). All (IsEndedBy cs entries) (versions_of (rowed_of other.view))) (sym buffer)
      (subst (λ (l : List Rowed). All (IsEndedBy cs (buffer_of claim.view)) (versions_of l)) (sym rows) loan.ends);
  packed = subst (λ (parts : List (ℕ × GroupPart)). ArePacked schema (packed_parts parts)) (sym share.groups) loan.packed;
  entries = λ flush. ap endings_of share.entries ∙ loan.entries (sym (ap choice_of share.choice) ∙ flush)
      ∙ sym (ap (λ (entries : List Ending). entries_for entries (versions_of (rowed_of other.view))) buffer ∙ ap (λ (l : List Rowed). entries_for (buffer_of claim.view) (versions_of l)) rows);
}
  where
    rows : rowed_of other.view ≡ rowed_of claim.view
    rows = same_lent claim other share

    buffer : buffer_of other.view ≡ buffer_of claim.view
    buffer = ap endings_of share.buffer

-- a claim of some groups of a directory, with its buffer
pub loan_made : (directory : Directory) (cs : List Change) (j : Stands directory cs) (by : Actor) (claim : Claim) (test : Seen → Bool) (sources : List ℕ) → claim.schema.value ≡ directory.schema.value
    → map part_entry claim.view.groups ≡ map entry_of (filter test (map seen directory.list.groups.items)) → packed_parts claim.view.groups ≡ packed_seen (filter test (map seen directory.list.groups.items))
    → claim.view.buffer.value ≡ directory.list.buffer.entries
    → versions_of (rowed_of claim.view) ≡ turns.versions_of sources (book_of directory.list).groups → (choice_of claim.choice ≡ Flush → endings_of claim.entries ≡ lent_entries claim)
    → IsLoanOf directory.schema.value cs (by, claim)
loan_made directory cs j by claim test sources schema groups shared buffer lent entries = record {
  of_table = schema;
  rows = view_picked (IsMadeRow (width_in directory) cs) test directory.list.groups.items claim.view groups j.rows;
  packed = subst (ArePacked directory.schema.value) (sym shared)
      (packed_picked (λ (entry : ℕ × packed.Packed). IsPackedGroup directory.schema.value entry.1) test directory.list.groups.items j.packed);
  ends = ends_lent directory.sizes.group_rows j.floor (book_of directory.list) cs sources claim.view j.book (ap endings_of buffer) lent;
  entries = entries;
}
