-- Rows stay those of the changes that their versions stem from.
use Rattle.std.proofs.Common.{◌≡◌, ℕ, ◌+◌, Bool, true, false, ◌&&◌, cond, leb, ltb, List, [], ◌∷◌, ◌++◌, map, filter, get_or, not, Option, Some, None, refl, sym, ap, ◌∙◌, arith}
use Rattle.std.specs.List.{All, AllByRecursion, Contains}
use Rattle.std.specs.List.Sorted.{IsPermutation, IsStrictlySortedBy}
use Rattle.std.specs.Option.{option_map}
use Rattle.std.proofs.lemmas.Bool.Decides.{nat_tests}
use Rattle.std.proofs.lemmas.List.Elements.{All-map, All-append, All-weaker, All-contains, All-from_recursion, recursion_from_All}
use Rattle.std.proofs.lemmas.List.Sorted.{All-permutation}
use Rattle.std.specs.declared.alloc.Global.{Global}
use Rattle.std.specs.declared.sync.Arc.{Arc}
use Rattle.cs_types.specs.declared.Key.{Key}
use Rattle.cs_types.specs.declared.Value.{Value}
use Rattle.cs_types.specs.Keys.{key_cmp, same_key}
use Rattle.cs_types.specs.Rows.{padded}
use Rattle.cs_types.proofs.PaddedLemmas.{padded_again}
use Rattle.cs_model.specs.declared.work.Actor.{Actor}
use Rattle.cs_model.specs.Changes.{Edit, Change, last_change, made}
use Rattle.cs_model.specs.Obstacles.{keys_of}
use Rattle.cs_model.specs.Steps.{numbered}
use Rattle.delete_bitmap.specs.declared.Marks.{Marks}
use Rattle.row_group.specs.declared.packed.Packed.{Packed}
use Rattle.group_book.specs.Book.{Version, Ending, Book}
use Rattle.group_book.specs.Turns.{is_gone, raised}
use Rattle.group_book.specs.Stocks.{next_change, is_after}
use Rattle.group_book.specs.Invariant.{IsLent}
use Rattle.group_book.proofs.Keys.{key_itself}
use Rattle.group_book.proofs.Lists.{all-kept, all-both, weaker}
use Rattle.group_book.proofs.Changes.{last_at, later, last_step, last-append, last-later, last-max}
use Rattle.group_book.proofs.Made.{is_written, HasEachKeyOnce, next-made, last-commit, once_sorted}
use Rattle.group_view.specs.declared.claim.Claim.{Claim}
use Rattle.group_view.specs.Parts.{Rowed}
use Rattle.group_view.specs.Views.{rowed_of}
use Rattle.group_view.specs.Books.{claim_of}
use Rattle.group_view.specs.Claims.{padded_rowed, lent_entries, kept_rowed, rowed_of_packed, IsMadeOf}
use Rattle.group_view.specs.Laws.{IsMadeRow}
use Rattle.group_view.specs.Seen.{rooted}
use Rattle.group_view.specs.Parcels.{IsGiven}
use Rattle.group_directory.specs.Laws.{rooted_at, AreAmong, BeginsBy, width_of}

-- ---- lists

pub all-unmapped : {X Y : Type 0} (P : Y → Type 0) (f : X → Y) (xs : List X) → AllByRecursion P (map f xs) → AllByRecursion (λ x. P (f x)) xs
all-unmapped P f [] all = tt
all-unmapped P f (x ∷ xs) all = (all.0, all-unmapped P f xs all.1)

pub All-unmapped : {X Y : Type 0} (P : Y → Type 0) (f : X → Y) (xs : List X) → All P (map f xs) → All (λ x. P (f x)) xs
All-unmapped P f xs all = All-from_recursion (λ x. P (f x)) xs (all-unmapped P f xs (recursion_from_All P (map f xs) all))

-- ---- rows by key and begin

-- in so many cells the row is that of its key's last change at the begin
abbrev IsRootOf : ℕ → List Change → Key × ℕ × List Value → Type 0
IsRootOf width cs root = option_map (padded width) (made (last_change root.0 root.1 cs)) ≡ Some (padded width root.2)

roots : (width : ℕ) (cs : List Change) (rows : List Rowed) → All (IsMadeRow width cs) rows → All (IsRootOf width cs) (map rooted rows)
roots width cs rows all = All-map (IsRootOf width cs) rooted rows all

rows_of : (width : ℕ) (cs : List Change) (rows : List Rowed) → All (IsRootOf width cs) (map rooted rows) → All (IsMadeRow width cs) rows
rows_of width cs rows all = All-unmapped (IsRootOf width cs) rooted rows all

pub rows_among : (width : ℕ) (cs : List Change) (old rows : List Rowed) → AreAmong old rows → All (IsMadeRow width cs) old → All (IsMadeRow width cs) rows
rows_among width cs old rows among all =
    rows_of width cs rows (All-weaker (Contains (map rooted old)) (IsRootOf width cs) (λ root there. All-contains (IsRootOf width cs) (map rooted old) root (roots width cs old all) there) (map rooted rows) among)

pub rows_moved : (width : ℕ) (cs : List Change) (old rows : List Rowed) → IsPermutation (map rooted old) (map rooted rows) → All (IsMadeRow width cs) old → All (IsMadeRow width cs) rows
rows_moved width cs old rows moved all = rows_of width cs rows (All-permutation (IsRootOf width cs) (map rooted old) (map rooted rows) moved (roots width cs old all))

-- ---- a commit

module _ (width clock txn : ℕ) (cs : List Change) (own : List Edit) where
  abbrev c : ℕ
  c = clock + 1

  abbrev now : List Change
  now = cs ++ numbered (clock + 1) txn own

  pub rows_later : (rows : List Rowed) → All (BeginsBy clock) rows → All (IsMadeRow width cs) rows → All (IsMadeRow width now) rows
  rows_later rows low all k d inside =
      let rowed = get_or rows k d in
      ap (λ (o : Option Change). option_map (padded width) (made o)) (last-commit cs clock txn own rowed.version.key rowed.version.begin (low k d inside)) ∙ all k d inside

abbrev change_of : ℕ → ℕ → Edit → Change
change_of c txn edit = record { commit = c; txn = txn; edit = edit }

-- a key that is not written has no change of the commit
pub none_made : (own : List Edit) (clock txn : ℕ) (k : Key) → is_written own k ≡ false → last_at (numbered (clock + 1) txn own) k (clock + 1) ≡ None
none_made own clock txn k none =
    last-later (numbered (clock + 1) txn own) k 0 (clock + 1) (next-made own (clock + 1) txn k 0 ∙ ap (λ (t : Bool). cond (t && ltb 0 (clock + 1)) (Some (clock + 1)) None) none) (omega arith)
    ∙ last-commit [] clock txn own k 0 (omega arith)

-- each edit is its key's change of the commit
each_made : (own : List Edit) (clock txn : ℕ) → HasEachKeyOnce own → AllByRecursion (λ (edit : Edit). last_at (numbered (clock + 1) txn own) edit.0 (clock + 1) ≡ Some (change_of (clock + 1) txn edit)) own
each_made [] clock txn once = tt
each_made (w ∷ own) clock txn once = (
  let reached : leb (clock + 1) (clock + 1) ≡ true = grind (arith, nat_tests) in
      last_step (numbered (clock + 1) txn own) w.0 (clock + 1) (change_of (clock + 1) txn w) ∙ rw (none_made own clock txn w.0 once.0, key_itself w.0, reached) refl,
  weaker (λ (edit : Edit). last_at (numbered (clock + 1) txn own) edit.0 (clock + 1) ≡ Some (change_of (clock + 1) txn edit)) (λ (edit : Edit). last_at (numbered (clock + 1) txn (w ∷ own)) edit.0 (clock + 1) ≡ Some (change_of (clock + 1) txn edit)) own
      (λ edit is. last_step (numbered (clock + 1) txn own) edit.0 (clock + 1) (change_of (clock + 1) txn w)
      ∙ ap (λ (o : Option Change). later o (cond (same_key edit.0 w.0 && leb (clock + 1) (clock + 1)) (Some (change_of (clock + 1) txn w)) None)) is)
      (each_made own clock txn once.1),
)

module _ (width clock txn : ℕ) (cs : List Change) (own : List Edit) (sorted : IsStrictlySortedBy key_cmp (keys_of own)) where
  abbrev after : List Change
  after = cs ++ numbered (clock + 1) txn own

  given_root : (entry : Key × List Value) → IsGiven width own entry → IsRootOf width after (rooted_at (clock + 1) entry)
  given_root entry (k, edit, within, at, is) =
      let change = All-contains (λ (w : Edit). last_at (numbered (clock + 1) txn own) w.0 (clock + 1) ≡ Some (change_of (clock + 1) txn w)) own edit
      (All-from_recursion (λ (w : Edit). last_at (numbered (clock + 1) txn own) w.0 (clock + 1) ≡ Some (change_of (clock + 1) txn w)) own (each_made own clock txn (once_sorted own sorted))) (k, within, at) in
      ap (λ (o : Option Change). option_map (padded width) (made o))
      (last-append cs (numbered (clock + 1) txn own) entry.0 (clock + 1)
      ∙ ap (λ (o : Option Change). later o (last_at cs entry.0 (clock + 1))) (ap (λ (q : Key). last_at (numbered (clock + 1) txn own) q (clock + 1)) (sym is.0) ∙ change))
      ∙ is.1

  pub rows_committed : (old rows : List Rowed) (news : List (Key × List Value)) → All (BeginsBy clock) old → All (IsGiven width own) news → IsPermutation (map rooted old ++ map (rooted_at (clock + 1)) news) (map rooted rows)
      → All (IsMadeRow width cs) old → All (IsMadeRow width after) rows
  rows_committed old rows news low given moved all =
      rows_of width after rows (All-permutation (IsRootOf width after) (map rooted old ++ map (rooted_at (clock + 1)) news) (map rooted rows) moved
      (All-append (IsRootOf width after) (map rooted old) (map (rooted_at (clock + 1)) news)
      (roots width after old (rows_later width clock txn cs own old low all))
      (All-map (IsRootOf width after) (rooted_at (clock + 1)) news (All-weaker (IsGiven width own) (λ entry. IsRootOf width after (rooted_at (clock + 1) entry)) given_root news given))))

-- ---- an install

not_not : (t : Bool) → not (not t) ≡ true → t ≡ true
not_not true h = refl
not_not false h = h

-- the version has ended by the number where its next change says so
abbrev IsGoneBy : ℕ → List Change → List Ending → Rowed → Type 0
IsGoneBy f cs entries rowed = is_gone f entries rowed.version ≡ not (is_after f (next_change cs rowed.version.key rowed.version.begin))

-- where nothing of the key changes up to the number, a begin raised to it has the same last change
rows_raised : (width f : ℕ) (cs : List Change) (entries : List Ending) (rows : List Rowed)
    → AllByRecursion (IsGoneBy f cs entries) rows → AllByRecursion (IsMadeRow width cs) rows
    → AllByRecursion (IsMadeRow width cs) (map (λ (rowed : Rowed). record rowed { version = raised f rowed.version }) (filter (λ (rowed : Rowed). not (is_gone f entries rowed.version)) rows))
rows_raised width f cs entries rows gone all =
    all-kept (λ (rowed : Rowed). IsGoneBy f cs entries rowed × IsMadeRow width cs rowed) (IsMadeRow width cs) (λ (rowed : Rowed). not (is_gone f entries rowed.version)) (λ (rowed : Rowed). record rowed { version = raised f rowed.version }) rows
    (λ rowed both stays.
    ap (λ (o : Option Change). option_map (padded width) (made o)) (last-max cs rowed.version.key rowed.version.begin f (not_not (is_after f (next_change cs rowed.version.key rowed.version.begin)) (ap not (sym both.0) ∙ stays))) ∙ both.1)
    (all-both (IsGoneBy f cs entries) (IsMadeRow width cs) (λ (rowed : Rowed). IsGoneBy f cs entries rowed × IsMadeRow width cs rowed) rows (λ rowed g r. (g, r)) gone all)

-- ---- what a claim keeps

module _ (width : ℕ) (book : Book) (cs : List Change) (by : Actor) (claim : Claim) (lent : IsLent book cs (claim_of (by, claim))) (all : All (IsMadeRow width cs) (rowed_of claim.view)) where
  pub rows_kept : All (IsMadeRow width cs) (kept_rowed claim)
  rows_kept = All-from_recursion (IsMadeRow width cs) (kept_rowed claim) (rows_raised width claim.floor cs (lent_entries claim) (rowed_of claim.view)
      (recursion_from_All (IsGoneBy claim.floor cs (lent_entries claim)) (rowed_of claim.view)
      (All-unmapped (λ (version : Version). is_gone claim.floor (lent_entries claim) version ≡ not (is_after claim.floor (next_change cs version.key version.begin))) (λ (rowed : Rowed). rowed.version) (rowed_of claim.view) lent.gone))
      (recursion_from_All (IsMadeRow width cs) (rowed_of claim.view) all))

  pub rows_padded : All (IsMadeRow width cs) (map (padded_rowed width) (kept_rowed claim))
  rows_padded = All-map (IsMadeRow width cs) (padded_rowed width) (kept_rowed claim) (All-weaker (IsMadeRow width cs) (λ rowed. IsMadeRow width cs (padded_rowed width rowed)) (λ rowed is. is ∙ ap Some (sym (padded_again width rowed.row))) (kept_rowed claim) rows_kept)

-- the new group has the kept versions
pub rows_packed : (book : Book) (cs : List Change) (by : Actor) (claim : Claim) (group : Arc Packed Global × Arc Marks Global) → IsLent book cs (claim_of (by, claim)) → All (IsMadeRow (width_of claim) cs) (rowed_of claim.view)
    → IsMadeOf claim (Some group) → All (IsMadeRow (width_of claim) cs) (rowed_of_packed group.0.value group.1.value)
rows_packed book cs by claim group lent all is =
    All-permutation (IsMadeRow (width_of claim) cs) (map (padded_rowed (width_of claim)) (kept_rowed claim)) (rowed_of_packed group.0.value group.1.value) is.0 (rows_padded (width_of claim) book cs by claim lent all)
