-- A directory stands for the same changes after the events of movers.
use Rattle.std.proofs.Common.{◌≡◌, ℕ, suc, Bool, true, false, cond, not, List, Vec, [], ◌∷◌, filter, Option, Some, None, refl, sym, ap, subst, arith}
use Rattle.std.specs.List.{All, Contains}
use Rattle.std.specs.declared.alloc.Global.{Global}
use Rattle.std.proofs.lemmas.List.Elements.{All-contains, All-filter, All-weaker}
use Rattle.cs_model.specs.declared.work.Actor.{Actor}
use Rattle.cs_model.specs.Changes.{Change}
use Rattle.cs_model.specs.Floors.{IsFloor}
use Rattle.txn_table.specs.Txns.{txn_of, snapshots_in}
use Rattle.group_book.specs.Book.{Claim, Book}
use Rattle.group_book.specs.Turns.{is_by, same_actor, first_claim, claim_by, released, after_clear, after_settle}
use Rattle.group_book.specs.Invariant.{IsClaim, IsBookOf}
use Rattle.group_book.proofs.Released.{release_is}
use Rattle.group_book.proofs.Sized.{clear_is}
use Rattle.group_book.proofs.Steady.{settle_is}
use Rattle.group_view.specs.declared.claim.Claim as view
use Rattle.group_view.specs.declared.groups.GroupList.{GroupList}
use Rattle.group_view.specs.Parts.{Rowed, ArePacked}
use Rattle.group_view.specs.Books.{book_of, claim_of, StandsAsLent}
use Rattle.group_view.specs.Lists.{listed, packed_in, IsHeld}
use Rattle.group_view.specs.Laws.{IsMadeRow}
use Rattle.group_directory.specs.declared.directory.Directory.{Directory}
use Rattle.group_directory.specs.Events.{IsHiddenBy, MakesHidden}
use Rattle.group_directory.specs.Lent.{GroupsStay}
use Rattle.group_view.specs.Seen.{rooted_in}
use Rattle.group_directory.specs.Stands.{width_in, rows_in, IsLoanOf, Stands}
use Rattle.group_directory.proofs.LentLaws.{each_held, others_lent, lent_moved, stay_released, stay_cleared, stay_settled}
use Rattle.group_directory.proofs.GroupLaws.{groups_ended}
use Rattle.group_directory.proofs.LookLaws.{stands_listed}
use Rattle.group_directory.proofs.StandLaws.{stands_moved, floor_given}

-- ---- the claim that an actor holds

first_there : (p : Claim → Bool) (claims : List Claim) (claim : Claim) → first_claim (filter p claims) ≡ Some claim → Contains claims claim
first_there p [] claim is = cc
first_there p (other ∷ claims) claim is = step (p other) is (first_there p claims claim)
  where
    step : (t : Bool) → first_claim (cond t (other ∷ filter p claims) (filter p claims)) ≡ Some claim → (first_claim (filter p claims) ≡ Some claim → Contains claims claim) → Contains (other ∷ claims) claim
    step true is rest = let same : other ≡ claim = cc in (0, omega arith, same)
    step false is rest = let found = rest is in (suc found.0, (let within = found.1 in omega (arith, within)), found.2)

module _ (directory : Directory) (cs : List Change) (j : Stands directory cs) (actor : Actor) where
  abbrev whole : Book
  whole = book_of directory.list

  abbrev held_by : Option Claim
  held_by = claim_by actor whole

  there : (claim : Claim) → held_by ≡ Some claim → Contains whole.claims claim
  there claim is = first_there (is_by actor) whole.claims claim is

  -- the group that it makes is invisible
  pub hidden : MakesHidden actor (book_of directory.list)
  hidden = step held_by refl
    where
      step : (o : Option Claim) → held_by ≡ o → IsHiddenBy whole.groups o
      step None is = tt
      step (Some claim) is = (All-contains (IsClaim directory.sizes.group_rows whole cs j.floor) whole.claims claim j.book.claims.each (there claim is)).fresh

  -- ---- a release

  book_released : IsBookOf directory.sizes.group_rows (released held_by whole) cs j.floor
  book_released = step held_by refl
    where
      step : (o : Option Claim) → held_by ≡ o → IsBookOf directory.sizes.group_rows (released o whole) cs j.floor
      step None is = j.book
      step (Some claim) is = release_is directory.sizes.group_rows whole cs j.floor claim j.book (there claim is)

  stay_after : (other : Claim) → Contains whole.claims other → GroupsStay other.sources whole (released held_by whole)
  stay_after other in_other = step held_by refl
    where
      step : (o : Option Claim) → held_by ≡ o → GroupsStay other.sources whole (released o whole)
      step None is = refl
      step (Some claim) is = stay_released directory.sizes.group_rows whole cs j.floor j.book claim other (there claim is) in_other

  pub stands_released : (list : GroupList) → IsHeld list → book_of list ≡ released (claim_by actor (book_of directory.list)) (book_of directory.list) → list.claims.items ≡ filter (λ (held : Actor × view.Claim). not (same_actor held.0 actor)) directory.list.claims.items
      → listed list.groups.items ≡ listed directory.list.groups.items → packed_in list.groups.items ≡ packed_in directory.list.groups.items → Stands (record directory { list = list }) cs
  stands_released list held is claims rows packed =
      stands_moved directory cs j list
      (record {
        held = held;
        rows = subst (λ (groups : List (ℕ × List Rowed)). All (IsMadeRow (width_in directory) cs) (rows_in groups)) (sym rows) j.rows;
        packed = subst (ArePacked directory.schema.value) (sym packed) j.packed;
        loans = subst (All (IsLoanOf directory.schema.value cs)) (sym claims) (All-filter (λ (one : Actor × view.Claim). not (same_actor one.0 actor)) (IsLoanOf directory.schema.value cs) directory.list.claims.items j.loans);
        lent = subst (All (StandsAsLent (book_of list))) (sym claims)
            (subst (λ (book : Book). All (StandsAsLent book) (filter (λ (one : Actor × view.Claim). not (same_actor one.0 actor)) directory.list.claims.items)) (sym is)
            (others_lent whole (released held_by whole) directory.list.claims.items actor
            (All-weaker (λ (one : Actor × view.Claim). GroupsStay (claim_of one).sources whole (released held_by whole)) (λ (one : Actor × view.Claim). same_actor one.0 actor ≡ false → GroupsStay (claim_of one).sources whole (released held_by whole)) (λ one stays _. stays) directory.list.claims.items
            (each_held directory.list (λ (other : Claim). GroupsStay other.sources whole (released held_by whole)) stay_after)) j.lent));
      })
      (subst (λ (book : Book). IsBookOf directory.sizes.group_rows book cs j.floor) (sym is) book_released)

-- ---- a clear and a settle

module _ (directory : Directory) (cs : List Change) (j : Stands directory cs) (list : GroupList) (held : IsHeld list) (claims : list.claims ≡ directory.list.claims) where
  same_claims : list.claims.items ≡ directory.list.claims.items
  same_claims = ap (λ (all : Vec (Actor × view.Claim) Global). all.items) claims

  pub stands_cleared : book_of list ≡ after_clear (book_of directory.list) → listed list.groups.items ≡ listed directory.list.groups.items
      → packed_in list.groups.items ≡ packed_in directory.list.groups.items → Stands (record directory { list = list }) cs
  stands_cleared is rows packed =
      stands_listed directory cs j list held rows packed same_claims
      (lent_moved directory.list list (after_clear (book_of directory.list)) is same_claims (λ claim in_list. stay_cleared directory.sizes.group_rows (book_of directory.list) cs j.floor j.book claim in_list) j.lent)
      (subst (λ (book : Book). IsBookOf directory.sizes.group_rows book cs j.floor) (sym is) (clear_is directory.sizes.group_rows (book_of directory.list) cs j.floor j.book))

  pub stands_settled : (at : ℕ) → IsFloor (snapshots_in (txn_of directory.txns)) directory.clock at → book_of list ≡ after_settle at (book_of directory.list) → rooted_in list.groups.items ≡ rooted_in directory.list.groups.items
      → packed_in list.groups.items ≡ packed_in directory.list.groups.items → Stands (record directory { list = list }) cs
  stands_settled at is_floor is rows packed =
      stands_moved directory cs j list
      (record {
        held = held;
        rows = groups_ended (width_in directory) cs directory.list.groups.items list.groups.items rows j.rows;
        packed = subst (ArePacked directory.schema.value) (sym packed) j.packed;
        loans = subst (All (IsLoanOf directory.schema.value cs)) (sym same_claims) j.loans;
        lent = lent_moved directory.list list (after_settle at (book_of directory.list)) is same_claims (λ claim in_list. stay_settled (book_of directory.list) at claim in_list) j.lent;
      })
      (subst (λ (book : Book). IsBookOf directory.sizes.group_rows book cs j.floor) (sym is)
      (settle_is directory.sizes.group_rows (book_of directory.list) cs j.floor at (let same = floor_given directory cs j at is_floor in omega (arith, same)) j.book))
