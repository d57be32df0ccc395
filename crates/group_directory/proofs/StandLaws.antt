-- A directory stands for the changes after each event.
use Rattle.std.proofs.Common.{◌≡◌, ℕ, ◌≤◌, ◌+◌, ◌-◌, List, [], ◌∷◌, ◌++◌, length, Option, Some, None, refl, sym, ap, subst, ◌∙◌, inr, arith}
use Rattle.std.specs.List.{All}
use Rattle.std.specs.FinMap as finite
use Rattle.std.specs.Prelude.{Result, Ok, Err, OnOk, OnErr}
use Rattle.std.specs.List.Sorted.{IsNonDecreasingBy}
use Rattle.std.proofs.lemmas.List.{append-nil, append_assoc}
use Rattle.std.proofs.lemmas.List.Elements.{All-nil, All-push, All-weaker}
use Rattle.std.proofs.lemmas.List.Sorted.{IsNonDecreasingBy-push, IsNonDecreasingBy-short}
use Rattle.cs_model.specs.Changes.{Edit, Change}
use Rattle.cs_model.specs.Floors.{IsFloor}
use Rattle.cs_model.specs.Obstacles.{keys_of}
use Rattle.cs_model.specs.Steps.{numbered}
use Rattle.log_laws.proofs.Floors.{floor_one}
use Rattle.edit_laws.specs.Edits.{edits_of}
use Rattle.write_set.specs.declared.write.Write.{Write}
use Rattle.txn_table.specs.declared.txn.Txn.{Txn}
use Rattle.txn_table.specs.Txns.{Table, txn_of, with, opened, deepened, fixed, widened, snapshot_of, snapshots_in}
use Rattle.version_store.specs.Newest.{Newest, Changes, KeepsAbove}
use Rattle.row_group.specs.declared.packed.Packed.{Packed}
use Rattle.group_book.specs.Book.{Book}
use Rattle.group_book.specs.Stocks.{AreChanges}
use Rattle.group_book.specs.Invariant.{IsBookOf}
use Rattle.group_book.proofs.Rise.{book_rise, empty_is}
use Rattle.group_view.specs.declared.groups.Group.{Group}
use Rattle.group_view.specs.declared.groups.GroupList.{GroupList}
use Rattle.group_view.specs.Books.{book_of, StandsAsLent}
use Rattle.group_view.specs.Parts.{ArePacked, IsPackedGroup}
use Rattle.group_view.specs.Lists.{listed, packed_in}
use Rattle.group_view.specs.Laws.{IsMadeRow}
use Rattle.group_directory.specs.declared.directory.Directory.{Directory}
use Rattle.group_directory.specs.Stands.{width_in, rows_in, IsLoanOf, IsRecent, AreTxns, Stands}
use Rattle.group_directory.specs.Laws.{noted_by, MayStage, MayCommit, MayBeList, IsNew}
use Rattle.group_directory.proofs.RecentLaws.{recent_none, recent_new, recent_pruned, recent_clear}
use Rattle.group_directory.proofs.FloorLaws.{floor_there, floor_risen, floor_same, snapshots_same, snapshot-deepened, snapshot-widened, floor_fixed, floor_ended}
use Rattle.group_directory.proofs.TxnLaws.{txns_none, txns_opened, txns_deepened, txns_fixed, txns_removed, txns_staged, txns_written, txns_risen}

-- ---- the changes after a commit

numbered_up : (clock txn : ℕ) (own : List Edit) (xs : List Change) → All (λ (change : Change). change.commit ≤ clock + 1) xs → IsNonDecreasingBy (λ (change : Change). change.commit) xs → AreChanges (xs ++ numbered (clock + 1) txn own) (clock + 1)
numbered_up clock txn [] xs low up = subst (λ (l : List Change). AreChanges l (clock + 1)) (sym (append-nil xs)) (record { below = low; ascend = up })
numbered_up clock txn (w ∷ own) xs low up =
    subst (λ (l : List Change). AreChanges l (clock + 1)) (append_assoc xs (record { commit = clock + 1; txn = txn; edit = w } ∷ []) (numbered (clock + 1) txn own))
    (numbered_up clock txn own (xs ++ record { commit = clock + 1; txn = txn; edit = w } ∷ [])
    (All-push (λ (change : Change). change.commit ≤ clock + 1) xs (record { commit = clock + 1; txn = txn; edit = w }) low (omega arith))
    (IsNonDecreasingBy-push (λ (change : Change). change.commit) xs (record { commit = clock + 1; txn = txn; edit = w }) up (λ d some. low (length xs - 1) d (omega (arith, some)))))

pub changes_more : (clock txn : ℕ) (own : List Edit) (cs : List Change) → AreChanges cs clock → AreChanges (cs ++ numbered (clock + 1) txn own) (clock + 1)
changes_more clock txn own cs a = numbered_up clock txn own cs (All-weaker (λ (change : Change). change.commit ≤ clock) (λ (change : Change). change.commit ≤ clock + 1) (λ change le. omega (arith, le)) cs a.below) a.ascend

module _ (directory : Directory) (cs : List Change) (j : Stands directory cs) where
  abbrev was : ℕ → Option Txn
  was = txn_of directory.txns

  -- ---- transactions

  module _ (txns : Table) where
    with_txns : (floor : ℕ) → j.floor ≤ floor → IsFloor (snapshots_in (txn_of txns)) directory.clock floor → AreTxns (txn_of txns) cs directory.clock → Stands (record directory { txns = txns }) cs
    with_txns floor le is are = record {
      sizes = j.sizes;
      held = j.held;
      numbered = j.numbered;
      floor = floor;
      is_floor = is;
      book = book_rise directory.sizes.group_rows (book_of directory.list) cs j.floor floor le j.book;
      rows = j.rows;
      packed = j.packed;
      loans = j.loans;
      lent = j.lent;
      recent = j.recent;
      pruned = let low = j.pruned in omega (arith, low, le);
      txns = are;
    }

    -- one transaction is another
    module _ (session : ℕ) (o : Option Txn) (is : txn_of txns ≡ with was session o) where
      floor_to : (floor : ℕ) → IsFloor (snapshots_in (with was session o)) directory.clock floor → IsFloor (snapshots_in (txn_of txns)) directory.clock floor
      floor_to floor f = subst (λ (g : ℕ → Option Txn). IsFloor (snapshots_in g) directory.clock floor) (sym is) f

      txns_to : AreTxns (with was session o) cs directory.clock → AreTxns (txn_of txns) cs directory.clock
      txns_to are = subst (λ (g : ℕ → Option Txn). AreTxns g cs directory.clock) (sym is) are

      same_snapshot : snapshot_of o ≡ snapshot_of (was session) → AreTxns (with was session o) cs directory.clock → Stands (record directory { txns = txns }) cs
      same_snapshot same are =
          with_txns j.floor (omega arith) (floor_to j.floor (floor_same (snapshots_in was) (snapshots_in (with was session o)) directory.clock j.floor (snapshots_same was session o same) j.is_floor)) (txns_to are)

    pub stands_opened : (session number depth : ℕ) → snapshots_in was session ≡ None → txn_of txns ≡ with was session (Some (opened number depth)) → Stands (record directory { txns = txns }) cs
    stands_opened session number depth none is = same_snapshot session (Some (opened number depth)) is (sym none) (txns_opened was cs directory.clock session j.txns number depth)

    pub stands_deepened : (session depth : ℕ) → txn_of txns ≡ with was session (deepened depth (was session)) → Stands (record directory { txns = txns }) cs
    stands_deepened session depth is = same_snapshot session (deepened depth (was session)) is (snapshot-deepened depth (was session)) (txns_deepened was cs directory.clock session j.txns depth)

    pub stands_staged : (session s : ℕ) (writes : List Write) → MayStage was cs session s writes → txn_of txns ≡ with was session (widened writes (was session)) → Stands (record directory { txns = txns }) cs
    stands_staged session s writes may is = same_snapshot session (widened writes (was session)) is (snapshot-widened writes (was session)) (txns_staged was cs directory.clock session s writes j.numbered j.txns may)

    -- they are the same
    pub stands_same : txn_of txns ≡ was → Stands (record directory { txns = txns }) cs
    stands_same is =
        with_txns j.floor (omega arith) (subst (λ (g : ℕ → Option Txn). IsFloor (snapshots_in g) directory.clock j.floor) (sym is) j.is_floor)
        (subst (λ (g : ℕ → Option Txn). AreTxns g cs directory.clock) (sym is) j.txns)

    pub staged_or_same : {X Y : Type 0} (session s : ℕ) (writes : List Write) → MayStage was cs session s writes → (result : Result X Y) → OnOk result (txn_of txns ≡ with was session (widened writes (was session)))
        → OnErr result (txn_of txns ≡ was) → Stands (record directory { txns = txns }) cs
    staged_or_same session s writes may (Ok x) ok err = stands_staged session s writes may ok
    staged_or_same session s writes may (Err e) ok err = stands_same err

    pub stands_fixed : (session : ℕ) → txn_of txns ≡ with was session (fixed directory.clock (was session)) → Stands (record directory { txns = txns }) cs
    stands_fixed session is =
        with_txns j.floor (omega arith) (floor_to session (fixed directory.clock (was session)) is j.floor (floor_fixed was directory.clock j.floor session j.txns.snapshots j.is_floor))
        (txns_to session (fixed directory.clock (was session)) is (txns_fixed was cs directory.clock session j.txns))

    later : (session now : ℕ) → txn_of txns ≡ with was session None → directory.clock ≤ now → (floor : ℕ) × (j.floor ≤ floor) × IsFloor (snapshots_in (txn_of txns)) now floor
    later session now is rises =
        let found = floor_there txns now in
        (found.0, floor_ended was directory.clock j.floor session j.txns.snapshots j.is_floor now found.0 rises (subst (λ (g : ℕ → Option Txn). IsFloor (snapshots_in g) now found.0) is found.1), found.1)

    pub stands_removed : (session : ℕ) → txn_of txns ≡ with was session None → Stands (record directory { txns = txns }) cs
    stands_removed session is =
        let found = later session directory.clock is (omega arith) in
        with_txns found.0 found.1 found.2 (txns_to session None is (txns_removed was cs directory.clock session j.txns))

    -- ---- a commit

    pub stands_committed : (session number : ℕ) (own : List Write) (list : GroupList) (recent : Newest) → MayCommit was cs directory.clock session own → MayBeList directory list (cs ++ numbered (directory.clock + 1) number (edits_of own))
        → IsBookOf directory.sizes.group_rows (book_of list) (cs ++ numbered (directory.clock + 1) number (edits_of own)) j.floor
        → txn_of txns ≡ with was session None → recent.changes ≡ noted_by (record { commit = directory.clock + 1; txn = number }) directory.recent.changes (keys_of (edits_of own))
        → Stands (record directory { list = list; txns = txns; recent = recent; clock = directory.clock + 1 }) (cs ++ numbered (directory.clock + 1) number (edits_of own))
    stands_committed session number own list recent commits may book is noted =
        let found = later session (directory.clock + 1) is (omega arith) in
        record {
          sizes = j.sizes;
          held = may.held;
          numbered = changes_more directory.clock number (edits_of own) cs j.numbered;
          floor = found.0;
          is_floor = found.2;
          book = book_rise directory.sizes.group_rows (book_of list) (cs ++ numbered (directory.clock + 1) number (edits_of own)) j.floor found.0 found.1 book;
          rows = may.rows;
          packed = may.packed;
          loans = may.loans;
          lent = may.lent;
          recent = subst (λ (m : Changes). IsRecent directory.pruned m (cs ++ numbered (directory.clock + 1) number (edits_of own))) (sym noted)
              (recent_new directory.pruned directory.recent.changes cs j.recent directory.clock number (edits_of own));
          pruned = let low = j.pruned in let le = found.1 in omega (arith, low, le);
          txns = subst (λ (g : ℕ → Option Txn). AreTxns g (cs ++ numbered (directory.clock + 1) number (edits_of own)) (directory.clock + 1)) (sym is) (txns_written was cs directory.clock session number own j.numbered j.txns commits);
        }

  -- ---- the groups

  pub stands_moved : (list : GroupList) → MayBeList directory list cs → IsBookOf directory.sizes.group_rows (book_of list) cs j.floor → Stands (record directory { list = list }) cs
  stands_moved list may book = record {
    sizes = j.sizes;
    held = may.held;
    numbered = j.numbered;
    floor = j.floor;
    is_floor = j.is_floor;
    book = book;
    rows = may.rows;
    packed = may.packed;
    loans = may.loans;
    lent = may.lent;
    recent = j.recent;
    pruned = j.pruned;
    txns = j.txns;
  }

  -- its floor is what the transactions give
  pub floor_given : (floor : ℕ) → IsFloor (snapshots_in was) directory.clock floor → floor ≡ j.floor
  floor_given floor is = floor_one (snapshots_in was) directory.clock floor j.floor is j.is_floor

  pub stands_pruned : (recent : Newest) (floor kept : ℕ) → IsFloor (snapshots_in was) directory.clock floor → KeepsAbove floor directory.recent.changes recent.changes → Stands (record directory { recent = recent; pruned = floor; kept = kept }) cs
  stands_pruned recent floor kept is keeps = record {
    sizes = j.sizes;
    held = j.held;
    numbered = j.numbered;
    floor = j.floor;
    is_floor = j.is_floor;
    book = j.book;
    rows = j.rows;
    packed = j.packed;
    loans = j.loans;
    lent = j.lent;
    recent = recent_pruned directory.pruned directory.recent.changes cs j.recent floor recent.changes (let low = j.pruned in let same = floor_given floor is in omega (arith, low, same)) keeps;
    pruned = let same = floor_given floor is in omega (arith, same);
    txns = j.txns;
  }

  -- where no snapshot lies below the clock, nothing has to be noted
  pub stands_clear : (recent : Newest) (floor kept : ℕ) → IsFloor (snapshots_in was) directory.clock floor → floor ≡ directory.clock → recent.changes ≡ finite.empty
      → Stands (record directory { recent = recent; pruned = floor; kept = kept }) cs
  stands_clear recent floor kept is at none = record {
    sizes = j.sizes;
    held = j.held;
    numbered = j.numbered;
    floor = j.floor;
    is_floor = j.is_floor;
    book = j.book;
    rows = j.rows;
    packed = j.packed;
    loans = j.loans;
    lent = j.lent;
    recent = subst (λ (m : Changes). IsRecent floor m cs) (sym none) (subst (λ (n : ℕ). IsRecent n finite.empty cs) (sym at) (recent_clear directory.clock cs j.numbered));
    pruned = let same = floor_given floor is in omega (arith, same);
    txns = j.txns;
  }

-- ---- the clock

-- it may rise past numbers that no commit has
pub stands_risen : (directory : Directory) (cs : List Change) → Stands directory cs → (now : ℕ) → directory.clock ≤ now → Stands (record directory { clock = now }) cs
stands_risen directory cs j now rises =
    let found = floor_there directory.txns now in
    let le = floor_risen (snapshots_in (txn_of directory.txns)) directory.clock now j.floor found.0 rises j.is_floor found.1 in
    let numbers = j.numbered in
    record {
      sizes = j.sizes;
      held = j.held;
      numbered = record {
        below = All-weaker (λ (change : Change). change.commit ≤ directory.clock) (λ (change : Change). change.commit ≤ now) (λ change low. omega (arith, low, rises)) cs numbers.below;
        ascend = numbers.ascend;
      };
      floor = found.0;
      is_floor = found.1;
      book = book_rise directory.sizes.group_rows (book_of directory.list) cs j.floor found.0 le j.book;
      rows = j.rows;
      packed = j.packed;
      loans = j.loans;
      lent = j.lent;
      recent = j.recent;
      pruned = let low = j.pruned in omega (arith, low, le);
      txns = txns_risen (txn_of directory.txns) cs directory.clock now numbers j.txns rises;
    }

-- ---- a new directory

pub stands_new : (directory : Directory) → IsNew directory → Stands directory []
stands_new directory n = record {
  sizes = n.sizes;
  held = n.held;
  numbered = record { below = All-nil (λ (change : Change). change.commit ≤ directory.clock); ascend = IsNonDecreasingBy-short (λ (change : Change). change.commit) [] (omega arith) };
  floor = directory.clock;
  is_floor = record { least = λ session s is. absurd (none_some s (sym (none session) ∙ is)); one_of = inr (refl, none) };
  book = subst (λ (b : Book). IsBookOf directory.sizes.group_rows b [] directory.clock) (sym n.book) (empty_is directory.sizes.group_rows directory.clock);
  rows = subst (λ (groups : List Group). All (IsMadeRow (width_in directory) []) (rows_in (listed groups))) (sym n.groups) (All-nil (IsMadeRow (width_in directory) []));
  packed = subst (λ (groups : List Group). ArePacked directory.schema.value (packed_in groups)) (sym n.groups) (All-nil (λ (entry : ℕ × Packed). IsPackedGroup directory.schema.value entry.1));
  loans = subst (All (IsLoanOf directory.schema.value [])) (sym n.claims) (All-nil (IsLoanOf directory.schema.value []));
  lent = subst (All (StandsAsLent (book_of directory.list))) (sym n.claims) (All-nil (StandsAsLent (book_of directory.list)));
  recent = subst (λ (m : Changes). IsRecent directory.pruned m []) (sym n.recent) (recent_none directory.pruned);
  pruned = let zero = n.pruned in omega (arith, zero);
  txns = txns_none (txn_of directory.txns) [] directory.clock n.txns;
}
  where
    none : (session : ℕ) → snapshots_in (txn_of directory.txns) session ≡ None
    none session = ap snapshot_of (n.txns session)

    none_some : (s : ℕ) → None ≡ Some s → ⊥
    none_some s is = cc
