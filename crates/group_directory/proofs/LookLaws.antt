-- What is seen of a directory.
use Rattle.std.proofs.Common.{◌≡◌, ℕ, List, map, Bool, true, ◌==◌, Option, Some, None, refl, sym, ap, subst, ◌∙◌, cond, arith}
use Rattle.std.specs.Prelude.{IfOk, IsSome, Result, Ok, Err}
use Rattle.std.specs.List.{All}
use Rattle.std.proofs.lemmas.Bool.Decides.{nat_tests}
use Rattle.cs_model.specs.Changes.{Change}
use Rattle.cs_model.specs.Floors.{IsFloor}
use Rattle.txn_table.specs.declared.txn.Txn.{Txn}
use Rattle.txn_table.specs.Txns.{Table, txn_of, with, fixed, snapshot_of, snapshots_in}
use Rattle.group_book.specs.Turns.{after_close}
use Rattle.group_book.specs.Invariant.{IsBookOf}
use Rattle.group_book.proofs.Closed.{close_is}
use Rattle.group_view.specs.declared.groups.GroupList.{GroupList}
use Rattle.group_view.specs.declared.view.GroupView.{GroupView}
use Rattle.group_view.specs.Parts.{Rowed, ArePacked}
use Rattle.group_view.specs.Books.{book_of, StandsAsLent}
use Rattle.group_view.specs.Lists.{listed, packed_in, IsHeld}
use Rattle.group_view.specs.Laws.{IsMadeRow}
use Rattle.group_view.specs.Views.{IsView, ShowsTables}
use Rattle.group_view.proofs.Tables.{is_view, tables_shown}
use Rattle.group_directory.specs.declared.directory.Directory.{Directory}
use Rattle.group_view.specs.Seen.{part_entry, shows}
use Rattle.group_directory.specs.Sharing.{IsViewOf}
use Rattle.group_directory.specs.Stands.{width_in, rows_in, IsLoanOf, Stands}
use Rattle.group_directory.specs.Laws.{IsLookAt}
use Rattle.group_directory.proofs.GroupLaws.{look_changes, look_book, look_view}
use Rattle.group_directory.proofs.LentLaws.{stay_closed, lent_moved}
use Rattle.group_directory.proofs.PackedLaws.{packed_listed}
use Rattle.group_directory.proofs.StandLaws.{stands_moved}

-- a view of all groups at the floor and the clock is a look
looks_at : (d : Directory) (floor : ℕ) (view : GroupView) → IsFloor (snapshots_in (txn_of d.txns)) d.clock floor → IsViewOf shows d.list floor d.clock view → map part_entry view.groups ≡ listed d.list.groups.items → IsLookAt d view
looks_at d floor view is v all = record {
  groups = all;
  packed = v.packed ∙ packed_listed d.list.groups.items;
  fitting = v.fitting;
  buffer = v.buffer;
  floor = subst (IsFloor (snapshots_in (txn_of d.txns)) d.clock) (sym v.floor) is;
  clock = v.clock;
}

module _ {E : Type 0} (d : Directory) (floor : ℕ) (is : IsFloor (snapshots_in (txn_of d.txns)) d.clock floor) where
  pub look_views : (result : Result GroupView E) → IfOk result (IsViewOf shows d.list floor d.clock) → IfOk result (λ view. map part_entry view.groups ≡ listed d.list.groups.items)
      → IfOk result (λ view. (cs : List Change) → Stands d cs → IsView view)
  look_views (Ok view) v all = λ cs j.
      let look = looks_at d floor view is v all in
      is_view d.sizes.group_rows (width_in d) view (book_of d.list) cs (look_changes d view cs j look) (look_book d view cs j look) (look_view d view cs j look)
  look_views (Err e) v all = tt

  pub look_shows : (result : Result GroupView E) → IfOk result (IsViewOf shows d.list floor d.clock) → IfOk result (λ view. map part_entry view.groups ≡ listed d.list.groups.items)
      → IfOk result (λ view. (cs : List Change) → Stands d cs → ShowsTables (width_in d) view cs)
  look_shows (Ok view) v all = λ cs j.
      let look = looks_at d floor view is v all in
      tables_shown d.sizes.group_rows (width_in d) view (book_of d.list) cs (look_changes d view cs j look) (look_book d view cs j look) (look_view d view cs j look)
  look_shows (Err e) v all = tt

-- a list with the same rows and claims, which stand as they were lent, and whose book is one of the changes, may stand in the
-- directory's place
pub stands_listed : (d : Directory) (cs : List Change) → (j : Stands d cs) → (list : GroupList) → IsHeld list → listed list.groups.items ≡ listed d.list.groups.items
    → packed_in list.groups.items ≡ packed_in d.list.groups.items → list.claims.items ≡ d.list.claims.items → All (StandsAsLent (book_of list)) list.claims.items → IsBookOf d.sizes.group_rows (book_of list) cs j.floor → Stands (record d { list = list }) cs
stands_listed d cs j list held rows packed claims lent book =
    stands_moved d cs j list
    (record {
      held = held;
      rows = subst (λ (groups : List (ℕ × List Rowed)). All (IsMadeRow (width_in d) cs) (rows_in groups)) (sym rows) j.rows;
      packed = subst (ArePacked d.schema.value) (sym packed) j.packed;
      loans = subst (All (IsLoanOf d.schema.value cs)) (sym claims) j.loans;
      lent = lent;
    })
    book

-- one that differs in what it shares alone; and one whose open store is closed
pub stands_looked : (d : Directory) (cs : List Change) → Stands d cs → (list : GroupList) → IsHeld list → book_of list ≡ book_of d.list → listed list.groups.items ≡ listed d.list.groups.items
    → packed_in list.groups.items ≡ packed_in d.list.groups.items → list.claims.items ≡ d.list.claims.items → Stands (record d { list = list }) cs
stands_looked d cs j list held same rows packed claims =
    stands_listed d cs j list held rows packed claims (lent_moved d.list list (book_of d.list) same claims (λ claim in_list. refl) j.lent)
    (subst (λ b. IsBookOf d.sizes.group_rows b cs j.floor) (sym same) j.book)

pub stands_closed : (d : Directory) (cs : List Change) → Stands d cs → (list : GroupList) → IsHeld list → book_of list ≡ after_close (book_of d.list) → listed list.groups.items ≡ listed d.list.groups.items
    → packed_in list.groups.items ≡ packed_in d.list.groups.items → list.claims.items ≡ d.list.claims.items → Stands (record d { list = list }) cs
stands_closed d cs j list held is rows packed claims =
    stands_listed d cs j list held rows packed claims
    (lent_moved d.list list (after_close (book_of d.list)) is claims (λ claim in_list. stay_closed d.sizes.group_rows (book_of d.list) cs j.floor j.book claim in_list) j.lent)
    (subst (λ b. IsBookOf d.sizes.group_rows b cs j.floor) (sym is) (close_is d.sizes.group_rows (book_of d.list) cs j.floor j.book))

-- a transaction that is there has a snapshot once it is fixed
pub fixed_there : (clock : ℕ) (o : Option Txn) → IsSome o → IsSome (fixed clock o)
fixed_there clock None there = there
fixed_there clock (Some txn) there = there

pub fixed_taken : (clock : ℕ) (o : Option Txn) → IsSome o → snapshot_of (fixed clock o) ≡ None → ⊥
fixed_taken clock None there none = absurd (cc there)
fixed_taken clock (Some txn) there none = absurd (cc none)

pub with_same : (txns : ℕ → Option Txn) (session : ℕ) (o : Option Txn) → with txns session o session ≡ o
with_same txns session o = let same : (session == session) ≡ true = grind (arith, nat_tests) in ap (λ (t : Bool). cond t o (txns session)) same

-- after a look and a fix the session has a transaction with a snapshot
module _ (old look : Directory) (txns : Table) (session : ℕ) (rest : look ≡ record old { list = look.list }) (there : IsSome (txn_of old.txns session))
    (is : txn_of txns ≡ with (txn_of look.txns) session (fixed look.clock (txn_of look.txns session))) where
  now : txn_of txns session ≡ fixed look.clock (txn_of look.txns session)
  now = ap (λ (f : ℕ → Option Txn). f session) is ∙ with_same (txn_of look.txns) session (fixed look.clock (txn_of look.txns session))

  still : IsSome (txn_of look.txns session)
  still = subst (λ (d : Directory). IsSome (txn_of d.txns session)) (sym rest) there

  pub pinned_there : IsSome (txn_of txns session)
  pinned_there = subst IsSome (sym now) (fixed_there look.clock (txn_of look.txns session) still)

  pub pinned_taken : (snapshot : Option ℕ) → snapshot ≡ snapshot_of (txn_of txns session) → snapshot ≡ None → ⊥
  pinned_taken snapshot taken none = fixed_taken look.clock (txn_of look.txns session) still (sym (ap snapshot_of now) ∙ sym taken ∙ none)
