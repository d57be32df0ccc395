-- The versions of a list of groups, by those of its book.
use Rattle.std.proofs.Common.{◌≡◌, ℕ, ◌≤◌, Bool, true, false, ◌||◌, cond, List, [], ◌∷◌, ◌++◌, map, filter, not, is_none, is_some, Option, Some, None, refl, sym, ap, subst, ◌∙◌}
use Rattle.std.specs.List.{All, AllByRecursion}
use Rattle.std.specs.List.Sorted.{IsPermutation}
use Rattle.std.specs.Option.{option_map}
use Rattle.std.proofs.lemmas.List.{append_assoc, map-append}
use Rattle.std.proofs.lemmas.List.Elements.{All-from_recursion, All-weaker, recursion_from_All}
use Rattle.std.proofs.lemmas.List.Sorted.{IsPermutation-refl, IsPermutation-trans, IsPermutation-append_right, All-permutation}
use Rattle.cs_types.specs.declared.Key.{Key}
use Rattle.cs_types.specs.Keys.{same_key}
use Rattle.cs_model.specs.declared.work.Actor.{Actor}
use Rattle.cs_model.specs.Changes.{Edit, Change, made}
use Rattle.txn_table.specs.Txns.{txn_of}
use Rattle.group_book.specs.Book.{Version, Ending, Claim, Book, opened, opened_in, frozen, frozen_in}
use Rattle.group_book.specs.Book as book
use Rattle.group_book.specs.Book.End.{At}
use Rattle.group_book.specs.Commits.{is_in_table, replaced_by, inserted_by, is_one_of, is_live, has_live}
use Rattle.group_book.specs.Turns.{is_id_of}
use Rattle.group_book.specs.Stocks.{next_change, stock_of, Stems}
use Rattle.group_book.specs.Invariant.{IsClaim}
use Rattle.group_book.proofs.Keys.{key_is, key_itself}
use Rattle.group_book.proofs.Lists.{both_true, all-append, all-left, all-right, all-both, weaker, list_any-found}
use Rattle.group_book.proofs.Changes.{AreAscending, AreBelow, last-later}
use Rattle.group_book.proofs.Visible.{ascending_of, below_of}
use Rattle.group_book.proofs.Made.{is_written, replaced-written}
use Rattle.group_book.proofs.Commit.{low, entries_low}
use Rattle.group_book.proofs.Groups.{behind, frozen-split}
use Rattle.group_view.specs.declared.claim.Claim as view
use Rattle.group_view.specs.declared.groups.GroupContent.{GroupContent}
use Rattle.group_view.specs.declared.groups.GroupContent.TheVariants.{Opened, Closed, Compressed, Invisible, Tombstone}
use Rattle.group_view.specs.declared.groups.Group.{Group}
use Rattle.group_view.specs.Parts.{Rowed}
use Rattle.group_view.specs.Views.{rowed_of}
use Rattle.group_view.specs.Books.{versions_of, rowed_in_content, content_of, group_of, claim_of, book_of}
use Rattle.group_view.specs.Lists.{is_listed, listed}
use Rattle.group_directory.specs.declared.directory.Directory.{Directory}
use Rattle.group_directory.specs.Stands.{rows_in, listed_rows, Stands}
use Rattle.group_directory.specs.Laws.{BeginsBy}
use Rattle.group_directory.proofs.RowLaws.{all-unmapped, All-unmapped}
use Rattle.group_directory.proofs.FloorLaws.{floor_low}

-- ---- the groups that a view shows have the versions of the book

module _ (P : Version → Type 0) where
  abbrev Q : Rowed → Type 0
  Q rowed = P rowed.version

  -- a part of the versions comes first
  first_rows : (rows : List Rowed) (others : List Version) (more : List Rowed) → AllByRecursion P (versions_of rows ++ others) → (AllByRecursion P others → AllByRecursion Q more) → AllByRecursion Q (rows ++ more)
  first_rows rows others more all rest = all-append Q rows more (all-unmapped P (λ (rowed : Rowed). rowed.version) rows (all-left P (versions_of rows) others all)) (rest (all-right P (versions_of rows) others all))

  pub listed_all : (groups : List Group) → AllByRecursion P (opened (map group_of groups)) → AllByRecursion P (frozen (map group_of groups)) → AllByRecursion Q (rows_in (listed groups))
  listed_all [] o f = tt
  listed_all (g ∷ groups) o f = step g.content o f (λ p q. listed_all groups p q)
    where
      step : (content : GroupContent) → AllByRecursion P (opened_in (content_of content) ++ opened (map group_of groups)) → AllByRecursion P (frozen_in (content_of content) ++ frozen (map group_of groups))
          → (AllByRecursion P (opened (map group_of groups)) → AllByRecursion P (frozen (map group_of groups)) → AllByRecursion Q (rows_in (listed groups)))
          → AllByRecursion Q (rows_in (cond (is_listed content) ((g.id, rowed_in_content content) ∷ listed groups) (listed groups)))
      step (Opened store) p q rest = first_rows (rowed_in_content (Opened store)) (opened (map group_of groups)) (rows_in (listed groups)) p (λ r. rest r q)
      step (Closed store) p q rest = first_rows (rowed_in_content (Closed store)) (frozen (map group_of groups)) (rows_in (listed groups)) q (λ r. rest p r)
      step (Compressed packed marks) p q rest = first_rows (rowed_in_content (Compressed packed marks)) (frozen (map group_of groups)) (rows_in (listed groups)) q (λ r. rest p r)
      step Invisible p q rest = rest p q
      step (Tombstone total deleted) p q rest = rest p q

  -- what claims lent stands among them
  pub some_frozen : (sources : List ℕ) (groups : List book.Group) → AllByRecursion P (frozen groups) → AllByRecursion P (frozen (filter (is_id_of sources) groups))
  some_frozen sources groups all = all-left P (frozen (filter (is_id_of sources) groups)) (frozen (filter (λ g. not (is_id_of sources g)) groups))
      (recursion_from_All P (frozen (filter (is_id_of sources) groups) ++ frozen (filter (λ g. not (is_id_of sources g)) groups))
      (All-permutation P (frozen groups) (frozen (filter (is_id_of sources) groups) ++ frozen (filter (λ g. not (is_id_of sources g)) groups)) (frozen-split (is_id_of sources) groups) (All-from_recursion P (frozen groups) all)))

  pub lent_versions : (group_rows : ℕ) (whole : Book) (cs : List Change) (floor : ℕ) (held : Actor × view.Claim) → AllByRecursion P (frozen whole.groups) → IsClaim group_rows whole cs floor (claim_of held) → AllByRecursion P (versions_of (rowed_of held.1.view))
  lent_versions group_rows whole cs floor held all is = subst (AllByRecursion P) is.lent.versions (some_frozen (claim_of held).sources whole.groups all)

  pub lent_all : (group_rows : ℕ) (whole : Book) (cs : List Change) (floor : ℕ) (held : Actor × view.Claim) → AllByRecursion P (frozen whole.groups) → IsClaim group_rows whole cs floor (claim_of held) → All Q (rowed_of held.1.view)
  lent_all group_rows whole cs floor held all is =
      All-from_recursion Q (rowed_of held.1.view) (all-unmapped P (λ (rowed : Rowed). rowed.version) (rowed_of held.1.view) (lent_versions group_rows whole cs floor held all is))

-- in some order they are the same
first_shown : (rows more : List Rowed) (others : List Version) → IsPermutation others (versions_of more) → IsPermutation (versions_of rows ++ others) (versions_of (rows ++ more))
first_shown rows more others same = subst (IsPermutation (versions_of rows ++ others)) (sym (map-append (λ (rowed : Rowed). rowed.version) rows more)) (IsPermutation-append_right (versions_of rows) others (versions_of more) same)

abbrev Open : List Group → List Version
Open groups = opened (map group_of groups)

abbrev Shut : List Group → List Version
Shut groups = frozen (map group_of groups)

abbrev More : List Group → List Rowed
More groups = rows_in (listed groups)

-- versions outside the open store
shut_shown : (groups : List Group) (rows : List Rowed) → IsPermutation (Open groups ++ Shut groups) (versions_of (More groups)) → IsPermutation (Open groups ++ (versions_of rows ++ Shut groups)) (versions_of (rows ++ More groups))
shut_shown groups rows rest =
    IsPermutation-trans (Open groups ++ (versions_of rows ++ Shut groups)) (versions_of rows ++ (Open groups ++ Shut groups)) (versions_of (rows ++ More groups))
    (behind (Open groups) (versions_of rows) (Shut groups)) (first_shown rows (More groups) (Open groups ++ Shut groups) rest)

pub listed_versions : (groups : List Group) → IsPermutation (opened (map group_of groups) ++ frozen (map group_of groups)) (versions_of (rows_in (listed groups)))
listed_versions [] = IsPermutation-refl []
listed_versions (g ∷ groups) = step g.content (listed_versions groups)
  where
    step : (content : GroupContent) → IsPermutation (Open groups ++ Shut groups) (versions_of (More groups))
        → IsPermutation ((opened_in (content_of content) ++ Open groups) ++ (frozen_in (content_of content) ++ Shut groups)) (versions_of (rows_in (cond (is_listed content) ((g.id, rowed_in_content content) ∷ listed groups) (listed groups))))
    step (Opened store) rest =
        subst (λ (l : List Version). IsPermutation l (versions_of (rowed_in_content (Opened store) ++ More groups))) (sym (append_assoc (versions_of (rowed_in_content (Opened store))) (Open groups) (Shut groups)))
        (first_shown (rowed_in_content (Opened store)) (More groups) (Open groups ++ Shut groups) rest)
    step (Closed store) rest = shut_shown groups (rowed_in_content (Closed store)) rest
    step (Compressed packed marks) rest = shut_shown groups (rowed_in_content (Compressed packed marks)) rest
    step Invisible rest = rest
    step (Tombstone total deleted) rest = rest

-- ---- what a commit rests on

written_each : (own : List Edit) → AllByRecursion (λ (key : Key). is_written own key ≡ true) (inserted_by own)
written_each [] = tt
written_each (w ∷ own) = step (is_some w.1) (weaker (λ (key : Key). is_written own key ≡ true) (λ (key : Key). is_written (w ∷ own) key ≡ true) (inserted_by own) (λ key is. rw is (either (same_key key w.0))) (written_each own))
  where
    either : (p : Bool) → (p || true) ≡ true
    either true = refl
    either false = refl

    step : (t : Bool) → AllByRecursion (λ (key : Key). is_written (w ∷ own) key ≡ true) (inserted_by own)
        → AllByRecursion (λ (key : Key). is_written (w ∷ own) key ≡ true) (map (λ (edit : Edit). edit.0) (cond t (w ∷ filter (λ (edit : Edit). is_some edit.1) own) (filter (λ (edit : Edit). is_some edit.1) own)))
    step true rest = (rw (key_itself w.0) refl, rest)
    step false rest = rest

module _ (directory : Directory) (cs : List Change) (j : Stands directory cs) where
  abbrev whole : Book
  whole = book_of directory.list

  ups : AreAscending cs
  ups = ascending_of cs j.numbered.ascend

  pub lows : AreBelow directory.clock cs
  lows = below_of cs directory.clock j.numbered

  pub reach : j.floor ≤ directory.clock
  reach = floor_low (txn_of directory.txns) directory.clock j.floor 0 j.txns.snapshots j.is_floor

  abbrev IsLow : Version → Type 0
  IsLow v = v.begin ≤ directory.clock

  stem_low : (v : Version) → Stems cs j.floor v → IsLow v
  stem_low v s = low (stock_of whole) cs directory.clock j.floor 0 [] lows ups reach tt j.book.stock v s

  frozen_low : AllByRecursion IsLow (frozen whole.groups)
  frozen_low = weaker (Stems cs j.floor) IsLow (frozen whole.groups) stem_low (recursion_from_All (Stems cs j.floor) (frozen whole.groups) j.book.stock.versions.frozen)

  opened_low : AllByRecursion IsLow (opened whole.groups)
  opened_low = weaker (Stems cs j.floor) IsLow (opened whole.groups) stem_low (recursion_from_All (Stems cs j.floor) (opened whole.groups) j.book.stock.versions.opened)

  pub listed_low : All (BeginsBy directory.clock) (listed_rows directory.list)
  listed_low = All-from_recursion (BeginsBy directory.clock) (listed_rows directory.list) (listed_all IsLow directory.list.groups.items opened_low frozen_low)

  pub each_claim : All (λ (held : Actor × view.Claim). IsClaim directory.sizes.group_rows whole cs j.floor (claim_of held)) directory.list.claims.items
  each_claim = All-unmapped (IsClaim directory.sizes.group_rows whole cs j.floor) claim_of directory.list.claims.items j.book.claims.each

  pub lent_low : All (λ (held : Actor × view.Claim). All (BeginsBy directory.clock) (rowed_of held.1.view)) directory.list.claims.items
  lent_low = All-weaker (λ (held : Actor × view.Claim). IsClaim directory.sizes.group_rows whole cs j.floor (claim_of held)) (λ (held : Actor × view.Claim). All (BeginsBy directory.clock) (rowed_of held.1.view)) (λ held is. lent_all IsLow directory.sizes.group_rows whole cs j.floor held frozen_low is)
      directory.list.claims.items each_claim

  pub buffer_low : All (λ (entry : Key × ℕ). entry.1 ≤ directory.clock) directory.list.buffer.entries
  buffer_low = All-unmapped (λ (entry : Ending). entry.end ≤ directory.clock) (λ (entry : Key × ℕ). record { key = entry.0; end = entry.1 }) directory.list.buffer.entries
      (All-from_recursion (λ (entry : Ending). entry.end ≤ directory.clock) whole.buffer (entries_low (stock_of whole) cs directory.clock j.floor 0 [] lows ups reach tt j.book.stock))

  -- a version without an end has the row of its key at the clock
  record IsStored (v : Version) : Type 0 where
    stems : Stems cs j.floor v
    ends : v.end ≡ option_map At (next_change cs v.key v.begin)

  no_next : (v : Version) (n : Option ℕ) → is_none v.end ≡ true → v.end ≡ option_map At n → n ≡ None
  no_next v None live is = refl
  no_next v (Some e) live is = let contrary : is_none (Some (At e)) ≡ true = ap is_none (sym is) ∙ live in cc

  stored_live : (key : Key) (v : Version) → IsStored v → is_live key v ≡ true → is_in_table cs directory.clock key ≡ true
  stored_live key v s live =
      let tests = both_true (same_key key v.key) (is_none v.end) live in
      let next = no_next v (next_change cs v.key v.begin) tests.1 s.ends in
      ap (λ (q : Key). is_in_table cs directory.clock q) (sym (key_is key v.key tests.0))
      ∙ ap (λ (o : Option Change). is_some (made o)) (last-later cs v.key v.begin directory.clock next (stem_low v s.stems) ∙ s.stems.is_origin) ∙ s.stems.row

  pub live_row : (key : Key) → has_live key (opened whole.groups) ≡ true → is_in_table cs directory.clock key ≡ true
  live_row key live =
      let found = list_any-found (is_live key) IsStored (opened whole.groups)
      (all-both (Stems cs j.floor) (λ (v : Version). v.end ≡ option_map At (next_change cs v.key v.begin)) IsStored (opened whole.groups) (λ v s e. record { stems = s; ends = e })
      (recursion_from_All (Stems cs j.floor) (opened whole.groups) j.book.stock.versions.opened)
      (recursion_from_All (λ (v : Version). v.end ≡ option_map At (next_change cs v.key v.begin)) (opened whole.groups) j.book.stock.ends.opened)) live in
      stored_live key found.0 found.2 found.1

  -- so a key that is inserted and has a live version in the open store is among the replaced ones
  pub live_replaced : (own : List Edit) → All (λ (key : Key). has_live key (opened whole.groups) ≡ true → is_one_of (replaced_by cs directory.clock own) key ≡ true) (inserted_by own)
  live_replaced own = All-from_recursion (λ (key : Key). has_live key (opened whole.groups) ≡ true → is_one_of (replaced_by cs directory.clock own) key ≡ true) (inserted_by own)
      (weaker (λ (key : Key). is_written own key ≡ true) (λ (key : Key). has_live key (opened whole.groups) ≡ true → is_one_of (replaced_by cs directory.clock own) key ≡ true) (inserted_by own)
      (λ key written live. replaced-written cs directory.clock own key ∙ rw (written, live_row key live) refl) (written_each own))
