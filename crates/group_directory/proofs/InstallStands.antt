-- A directory stands for the same changes after an install.
use Rattle.std.proofs.Common.{◌≡◌, ◌⊎◌, ℕ, Bool, true, false, cond, List, [], ◌∷◌, map, filter, get_or, not, Option, Some, None, refl, sym, ap, subst, ◌∙◌, inl, inr, arith}
use Rattle.std.specs.Prelude.{IfSome, IsSome}
use Rattle.std.specs.Option.{option_map}
use Rattle.std.specs.List.{All, Contains}
use Rattle.std.specs.declared.alloc.Global.{Global}
use Rattle.std.specs.declared.sync.Arc.{Arc}
use Rattle.std.specs.List.Sorted.{IsPermutation}
use Rattle.std.proofs.lemmas.List.{length-map}
use Rattle.std.proofs.lemmas.List.Elements.{All-contains, All-filter, All-nil, All-weaker}
use Rattle.std.proofs.lemmas.List.Sorted.{IsPermutation-map, IsPermutation-refl, length_permutation}
use Rattle.cs_types.specs.declared.Key.{Key}
use Rattle.cs_types.specs.declared.Schema.{Schema}
use Rattle.cs_model.specs.declared.work.Actor.{Actor}
use Rattle.cs_model.specs.Changes.{Change}
use Rattle.delete_bitmap.specs.declared.Marks.{Marks}
use Rattle.group_book.specs.Book as book
use Rattle.group_book.specs.Book.{Ending, Book, is_invisible}
use Rattle.group_book.specs.Book.Choice.{Compress, Flush, Rebuild, Merge, Settle, Clear, Idle}
use Rattle.group_book.specs.Turns.{is_by, is_id_of, is_gone, raised, same_actor, made_of, first_claim, claim_by, installed, installed_with, after_install, after_flush, after_work}
use Rattle.group_book.specs.Invariant.{makes_group, may_be_source, IsClaim, IsBookOf}
use Rattle.group_book.specs.Orders.{IsReordered}
use Rattle.group_book.proofs.Events.{source_is}
use Rattle.group_book.proofs.Orders.{reordered_itself}
use Rattle.group_book.proofs.Reordered.{install_reordered}
use Rattle.group_view.specs.declared.claim.Claim.{Claim}
use Rattle.group_view.specs.declared.claim.Product.{Product}
use Rattle.group_view.specs.declared.claim.Product.TheVariants.{Group, Marked}
use Rattle.group_view.specs.declared.groups.GroupList.{GroupList}
use Rattle.group_view.specs.Parts.{Rowed, ArePacked, IsPackedGroup}
use Rattle.group_view.specs.Views.{rowed_of}
use Rattle.group_view.specs.Books.{versions_of, choice_of, claim_of, book_of, StandsAsLent}
use Rattle.group_view.specs.Lists.{listed, packed_in, IsHeld}
use Rattle.group_view.specs.Laws.{IsMadeRow}
use Rattle.group_view.specs.Claims.{padded_rowed, lent_entries, kept_rowed, rowed_of_packed, IsMadeOf, IsProductOf}
use Rattle.group_directory.specs.declared.directory.Directory.{Directory}
use Rattle.group_view.specs.Seen.{rooted_in}
use Rattle.group_directory.specs.Committing.{NewGroup}
use Rattle.group_directory.specs.Lent.{GroupsStay}
use Rattle.group_directory.specs.Stands.{width_in, listed_rows, IsLoanOf, Stands}
use Rattle.group_directory.specs.Laws.{width_of, MayBeList}
use Rattle.group_directory.specs.Installing.{held_by, new_rows, new_versions, HasPlace, IsFilled, IsOldOrNew, MayMark, IsInstalled}
use Rattle.group_directory.proofs.BookLaws.{each_claim}
use Rattle.group_directory.proofs.Books.{first_made, holds_it}
use Rattle.group_directory.proofs.Mapped.{filter-map}
use Rattle.group_directory.proofs.EventLaws.{claim_at, book_installed, book_flushed}
use Rattle.group_directory.proofs.GroupLaws.{groups_made, groups_ended, made_rows}
use Rattle.group_directory.proofs.Held.{same_actors}
use Rattle.group_directory.proofs.LoanLaws.{flush_agrees}
use Rattle.group_directory.proofs.StandLaws.{stands_moved}
use Rattle.group_directory.proofs.InstallBuffers.{held_there, if_held, of_held, one_held}
use Rattle.group_directory.proofs.LentLaws.{each_held, others_lent, stay_installed, stay_flushed}

-- ---- the versions of the new group

kept_versions : (f : ℕ) (entries : List Ending) (rows : List Rowed) → versions_of (map (λ (rowed : Rowed). record rowed { version = raised f rowed.version }) (filter (λ (rowed : Rowed). not (is_gone f entries rowed.version)) rows))
    ≡ map (raised f) (filter (λ version. not (is_gone f entries version)) (versions_of rows))
kept_versions f entries [] = refl
kept_versions f entries (r ∷ rows) = step (is_gone f entries r.version) (kept_versions f entries rows)
  where
    step : (t : Bool) → versions_of (map (λ (rowed : Rowed). record rowed { version = raised f rowed.version }) (filter (λ (rowed : Rowed). not (is_gone f entries rowed.version)) rows)) ≡ map (raised f) (filter (λ version. not (is_gone f entries version)) (versions_of rows))
        → versions_of (map (λ (rowed : Rowed). record rowed { version = raised f rowed.version }) (cond (not t) (r ∷ filter (λ (rowed : Rowed). not (is_gone f entries rowed.version)) rows) (filter (λ (rowed : Rowed). not (is_gone f entries rowed.version)) rows)))
        ≡ map (raised f) (cond (not t) (r.version ∷ filter (λ version. not (is_gone f entries version)) (versions_of rows)) (filter (λ version. not (is_gone f entries version)) (versions_of rows)))
    step true rest = rest
    step false rest = ap (λ l. raised f r.version ∷ l) rest

padded_versions : (width : ℕ) (rows : List Rowed) → versions_of (map (padded_rowed width) rows) ≡ versions_of rows
padded_versions width [] = refl
padded_versions width (r ∷ rows) = ap (λ l. r.version ∷ l) (padded_versions width rows)

made_is : (held : Actor × Claim) → made_of (claim_of held) ≡ versions_of (kept_rowed held.1)
made_is held = sym (kept_versions held.1.floor (lent_entries held.1) (rowed_of held.1.view))

pub made_versions : (held : Actor × Claim) (load : Option NewGroup) → IsMadeOf held.1 load → IsPermutation (made_of (claim_of held)) (new_versions load)
made_versions held None none = subst (λ l. IsPermutation l []) (sym (made_is held ∙ ap versions_of none)) (IsPermutation-refl [])
made_versions held (Some load) is =
    subst (λ l. IsPermutation l (new_versions (Some load))) (padded_versions (width_of held.1) (kept_rowed held.1) ∙ sym (made_is held))
    (IsPermutation-map (λ (rowed : Rowed). rowed.version) (map (padded_rowed (width_of held.1)) (kept_rowed held.1)) (rowed_of_packed load.0.value load.1.value) is.0)

pub made_filled : (claim : Claim) (load : Option NewGroup) → IsMadeOf claim load → IsFilled load
made_filled claim None none = tt
made_filled claim (Some load) is =
    (omega (arith, is.1, length_permutation (map (padded_rowed (width_of claim)) (kept_rowed claim)) (rowed_of_packed load.0.value load.1.value) is.0, length-map (kept_rowed claim) (padded_rowed (width_of claim))), is.2.fitting)

-- ---- the claim

module _ (d : Directory) (cs : List Change) (j : Stands d cs) (actor : Actor) (held : Actor × Claim) (is : held_by actor d.list.claims.items ≡ Some held) where
  there : Contains d.list.claims.items held
  there = (held_there actor d.list.claims.items held is).0

  by : same_actor held.0 actor ≡ true
  by = (held_there actor d.list.claims.items held is).1

  claim_is : IsClaim d.sizes.group_rows (book_of d.list) cs j.floor (claim_of held)
  claim_is = All-contains (λ (other : Actor × Claim). IsClaim d.sizes.group_rows (book_of d.list) cs j.floor (claim_of other)) d.list.claims.items held (each_claim d cs j) there

  loan : IsLoanOf d.schema.value cs held
  loan = All-contains (IsLoanOf d.schema.value cs) d.list.claims.items held j.loans there

  pub has_place : makes_group (choice_of held.1.choice) ≡ true → HasPlace (book_of d.list).groups (claim_of held)
  has_place makes = record {
    once = claim_is.once ∙ ap (λ t. cond t 1 0) makes;
    apart = λ k dummy inside fresh. step (is_id_of (claim_of held).sources (get_or (book_of d.list).groups k dummy)) (get_or (book_of d.list).groups k dummy) (claim_is.sources k dummy inside) (claim_is.fresh k dummy inside fresh);
  }
    where
      step : (t : Bool) → (g : book.Group) → (t ≡ true → may_be_source (choice_of held.1.choice) g.content ≡ true) → is_invisible g.content ≡ true → t ≡ false
      step true g source invisible = cc ((source_is (choice_of held.1.choice) g.content (source refl)).1, invisible)
      step false g source invisible = refl

  pub may_mark : (marks : List (ℕ × Arc Marks Global)) → IsProductOf held.1 (Marked marks) → MayMark d.list held marks
  may_mark marks product = record {
    product = product;
    entries = loan.entries product.0;
    lent = All-contains (StandsAsLent (book_of d.list)) d.list.claims.items held j.lent there;
    alike = flush_agrees d cs held j there;
  }

  -- ---- the other claims

  abbrev others : List (Actor × Claim)
  others = filter (λ (other : Actor × Claim). not (same_actor other.0 actor)) d.list.claims.items

  loans_left : All (IsLoanOf d.schema.value cs) others
  loans_left = All-filter (λ (other : Actor × Claim). not (same_actor other.0 actor)) (IsLoanOf d.schema.value cs) d.list.claims.items j.loans

  actor_is : held.0 ≡ actor
  actor_is = same_actors held.0 actor by

  not_by : (other : Actor × Claim) → same_actor other.0 actor ≡ false → is_by (claim_of held).actor (claim_of other) ≡ false
  not_by other apart = ap (λ (a : Actor). same_actor other.0 a) actor_is ∙ apart

  -- where the groups of other actors' claims are the same afterwards
  may_be : (list : GroupList) (after : Book) → book_of list ≡ after → ((other : book.Claim) → Contains (book_of d.list).claims other → is_by (claim_of held).actor other ≡ false → GroupsStay other.sources (book_of d.list) after)
      → IsHeld list → All (IsMadeRow (width_in d) cs) (listed_rows list) → ArePacked d.schema.value (packed_in list.groups.items) → list.claims.items ≡ others → MayBeList d list cs
  may_be list after same stay keeps rows packed claims = record {
    held = keeps;
    rows = rows;
    packed = packed;
    loans = subst (All (IsLoanOf d.schema.value cs)) (sym claims) loans_left;
    lent = subst (All (StandsAsLent (book_of list))) (sym claims) (subst (λ (whole : Book). All (StandsAsLent whole) others) (sym same)
        (others_lent (book_of d.list) after d.list.claims.items actor
        (All-weaker (λ (other : Actor × Claim). is_by (claim_of held).actor (claim_of other) ≡ false → GroupsStay (claim_of other).sources (book_of d.list) after) (λ (other : Actor × Claim). same_actor other.0 actor ≡ false → GroupsStay (claim_of other).sources (book_of d.list) after) (λ other stays apart. stays (not_by other apart)) d.list.claims.items
        (each_held d.list (λ (other : book.Claim). is_by (claim_of held).actor other ≡ false → GroupsStay other.sources (book_of d.list) after) stay)) j.lent));
  }

  -- ---- an install

  -- the new group is a packed one of the table
  pub made_packed : (load : Option NewGroup) → IsMadeOf held.1 load → IfSome load (λ group. IsPackedGroup d.schema.value group.0.value)
  made_packed None none = tt
  made_packed (Some load) made = subst (λ (schema : Schema). IsPackedGroup schema load.0.value) loan.of_table (let for_claim = made.2 in for_claim.packed)

  made_listed : (load : Option NewGroup) → IsMadeOf held.1 load → All (IsMadeRow (width_in d) cs) (new_rows load)
  made_listed None none = All-nil (IsMadeRow (width_in d) cs)
  made_listed (Some load) made = made_rows d cs j held load there made

  pub stands_installed : (list : GroupList) (load : Option NewGroup) → makes_group (choice_of held.1.choice) ≡ true → IsMadeOf held.1 load → IsHeld list
      → All (IsOldOrNew (listed d.list.groups.items) held.1.fresh load) (listed list.groups.items) → ArePacked d.schema.value (packed_in list.groups.items) → list.claims.items ≡ others
      → book_of list ≡ installed_with (new_versions load) (claim_of held) (book_of d.list) → Stands (record d { list = list }) cs
  stands_installed list load makes made keeps rows packed claims same =
      stands_moved d cs j list
      (may_be list (installed_with (new_versions load) (claim_of held) (book_of d.list)) same (λ other in_other apart. stay_installed d.sizes.group_rows (book_of d.list) cs j.floor j.book (claim_of held) other (claim_at d held there) in_other apart (new_versions load)) keeps
      (groups_made (IsMadeRow (width_in d) cs) (listed d.list.groups.items) (listed list.groups.items) (new_rows load)
      (All-weaker (IsOldOrNew (listed d.list.groups.items) held.1.fresh load) (λ (group : ℕ × List Rowed). Contains (listed d.list.groups.items) group ⊎ (group.1 ≡ new_rows load)) (λ group old_or_new. elim old_or_new [ inl old ↦ inl old | inr new ↦ inr new.1 ]) (listed list.groups.items) rows)
      j.rows (made_listed load made))
      packed claims)
      (subst (λ b. IsBookOf d.sizes.group_rows b cs j.floor) (sym same) (book_installed d cs j held (new_versions load) there makes (made_versions held load made)))

  -- ---- a flush

  pub stands_marked : (list : GroupList) → choice_of held.1.choice ≡ Flush → IsHeld list → rooted_in list.groups.items ≡ rooted_in d.list.groups.items → packed_in list.groups.items ≡ packed_in d.list.groups.items → list.claims.items ≡ others
      → book_of list ≡ after_flush (claim_of held) (book_of d.list) → Stands (record d { list = list }) cs
  stands_marked list flush keeps rows packed claims same =
      stands_moved d cs j list
      (may_be list (after_flush (claim_of held) (book_of d.list)) same (λ other in_other apart. stay_flushed d.sizes.group_rows (book_of d.list) cs j.floor j.book (claim_of held) other (claim_at d held there) in_other apart) keeps (groups_ended (width_in d) cs d.list.groups.items list.groups.items rows j.rows) (subst (ArePacked d.schema.value) (sym packed) j.packed) claims)
      (subst (λ b. IsBookOf d.sizes.group_rows b cs j.floor) (sym same) (book_flushed d cs j held there flush))

-- ---- the book of the event

after_made : (choice : book.Choice) (claim : book.Claim) (whole : Book) → makes_group choice ≡ true → after_work choice claim whole ≡ after_install claim whole
after_made (Compress source) claim whole makes = refl
after_made Flush claim whole makes = cc
after_made (Rebuild source) claim whole makes = refl
after_made (Merge first second) claim whole makes = refl
after_made Settle claim whole makes = cc
after_made Clear claim whole makes = cc
after_made Idle claim whole makes = cc

-- the book has the claim that the list has
pub claim_held : (list : GroupList) (actor : Actor) → claim_by actor (book_of list) ≡ option_map claim_of (held_by actor list.claims.items)
claim_held list actor = ap first_claim (filter-map (is_by actor) claim_of list.claims.items) ∙ first_made claim_of (filter (holds_it actor) list.claims.items)

module _ (d : Directory) (cs : List Change) (j : Stands d cs) (actor : Actor) (held : Actor × Claim) (is : held_by actor d.list.claims.items ≡ Some held) (new : Book) where
  abbrev before : Book
  before = book_of d.list

  event_is : installed (claim_by actor before) before ≡ after_work (choice_of held.1.choice) (claim_of held) before
  event_is = ap (λ (o : Option book.Claim). installed o before) (claim_held d.list actor ∙ ap (option_map claim_of) is)

  made_event : (product : Product) → IsProductOf held.1 product → IsInstalled (claim_of held) product before new → IsReordered (installed (claim_by actor before) before) new
  made_event (Group load spent) given made =
      subst (λ (whole : Book). IsReordered whole new) (sym (event_is ∙ after_made (choice_of held.1.choice) (claim_of held) before given.0))
      (subst (IsReordered (after_install (claim_of held) before)) (sym made.2)
      (install_reordered d.sizes.group_rows before cs j.floor (claim_of held) made.0 j.book (claim_at d held (held_there actor d.list.claims.items held is).0) made.1))
  made_event (Marked marks) given made =
      subst (IsReordered (installed (claim_by actor before) before)) (event_is ∙ ap (λ (choice : book.Choice). after_work choice (claim_of held) before) given.0 ∙ sym made)
      (reordered_itself (installed (claim_by actor before) before))

-- ---- by the product

module _ (d : Directory) (actor : Actor) (product : Product) (given : IfSome (held_by actor d.list.claims.items) (λ (held : Actor × Claim). IsProductOf held.1 product)) where
  pub product_event : (cs : List Change) → Stands d cs → IsSome (held_by actor d.list.claims.items) → (new : Book) → IfSome (held_by actor d.list.claims.items) (λ (held : Actor × Claim). IsInstalled (claim_of held) product (book_of d.list) new)
      → IsReordered (installed (claim_by actor (book_of d.list)) (book_of d.list)) new
  product_event cs j some new made =
      let one = one_held (held_by actor d.list.claims.items) some in
      made_event d cs j actor one.0 one.1 new product (of_held (λ (h : Actor × Claim). IsProductOf h.1 product) (held_by actor d.list.claims.items) one.0 one.1 given)
      (of_held (λ (h : Actor × Claim). IsInstalled (claim_of h) product (book_of d.list) new) (held_by actor d.list.claims.items) one.0 one.1 made)

  product_is : (held : Actor × Claim) → held_by actor d.list.claims.items ≡ Some held → IsProductOf held.1 product
  product_is held is = of_held (λ (h : Actor × Claim). IsProductOf h.1 product) (held_by actor d.list.claims.items) held is given

  -- of compress, rebuild and merge
  module _ (load : Option NewGroup) (spent : List (Key × ℕ)) (same : product ≡ Group load spent) where
    group_is : (held : Actor × Claim) → held_by actor d.list.claims.items ≡ Some held → IsProductOf held.1 (Group load spent)
    group_is held is = subst (IsProductOf held.1) same (product_is held is)

    pub group_place : (cs : List Change) → Stands d cs → IfSome (held_by actor d.list.claims.items) (λ (held : Actor × Claim). HasPlace (book_of d.list).groups (claim_of held))
    group_place cs j = if_held (λ (held : Actor × Claim). HasPlace (book_of d.list).groups (claim_of held)) (held_by actor d.list.claims.items) (λ held is. has_place d cs j actor held is (group_is held is).0)

    pub group_filled : IsSome (held_by actor d.list.claims.items) → IsFilled load
    group_filled some = let one = one_held (held_by actor d.list.claims.items) some in made_filled one.0.1 load (group_is one.0 one.1).1

    pub group_installed : (old new : Book) → IfSome (held_by actor d.list.claims.items) (λ (held : Actor × Claim). new ≡ installed_with (new_versions load) (claim_of held) old)
        → IfSome (held_by actor d.list.claims.items) (λ (held : Actor × Claim). IsInstalled (claim_of held) product old new)
    group_installed old new books =
        if_held (λ (held : Actor × Claim). IsInstalled (claim_of held) product old new) (held_by actor d.list.claims.items) (λ held is.
        subst (λ p. IsInstalled (claim_of held) p old new) (sym same)
        (new_versions load, made_versions held load (group_is held is).1, of_held (λ (h : Actor × Claim). new ≡ installed_with (new_versions load) (claim_of h) old) (held_by actor d.list.claims.items) held is books))

    pub group_stands : IsSome (held_by actor d.list.claims.items) → (cs : List Change) → Stands d cs → (list : GroupList) → IsHeld list
        → IfSome (held_by actor d.list.claims.items) (λ (held : Actor × Claim). All (IsOldOrNew (listed d.list.groups.items) held.1.fresh load) (listed list.groups.items))
        → ((schema : Schema) → ArePacked schema (packed_in d.list.groups.items) → IfSome load (λ group. IsPackedGroup schema group.0.value) → ArePacked schema (packed_in list.groups.items))
        → list.claims.items ≡ filter (λ (other : Actor × Claim). not (same_actor other.0 actor)) d.list.claims.items
        → IfSome (held_by actor d.list.claims.items) (λ (held : Actor × Claim). book_of list ≡ installed_with (new_versions load) (claim_of held) (book_of d.list)) → Stands (record d { list = list }) cs
    group_stands some cs j list keeps rows packed claims books =
        let one = one_held (held_by actor d.list.claims.items) some in
        stands_installed d cs j actor one.0 one.1 list load (group_is one.0 one.1).0 (group_is one.0 one.1).1 keeps
        (of_held (λ (h : Actor × Claim). All (IsOldOrNew (listed d.list.groups.items) h.1.fresh load) (listed list.groups.items)) (held_by actor d.list.claims.items) one.0 one.1 rows)
        (packed d.schema.value j.packed (made_packed d cs j actor one.0 one.1 load (group_is one.0 one.1).1)) claims (of_held (λ (h : Actor × Claim). book_of list ≡ installed_with (new_versions load) (claim_of h) (book_of d.list)) (held_by actor d.list.claims.items) one.0 one.1 books)

  -- of a flush
  module _ (marks : List (ℕ × Arc Marks Global)) (same : product ≡ Marked marks) where
    marks_are : (held : Actor × Claim) → held_by actor d.list.claims.items ≡ Some held → IsProductOf held.1 (Marked marks)
    marks_are held is = subst (IsProductOf held.1) same (product_is held is)

    pub marks_may : (cs : List Change) → Stands d cs → IfSome (held_by actor d.list.claims.items) (λ (held : Actor × Claim). MayMark d.list held marks)
    marks_may cs j = if_held (λ (held : Actor × Claim). MayMark d.list held marks) (held_by actor d.list.claims.items) (λ held is. may_mark d cs j actor held is marks (marks_are held is))

    pub marks_installed : (new : Book) → IfSome (held_by actor d.list.claims.items) (λ (held : Actor × Claim). new ≡ after_flush (claim_of held) (book_of d.list))
        → IfSome (held_by actor d.list.claims.items) (λ (held : Actor × Claim). IsInstalled (claim_of held) product (book_of d.list) new)
    marks_installed new books =
        subst (λ p. IfSome (held_by actor d.list.claims.items) (λ (held : Actor × Claim). IsInstalled (claim_of held) p (book_of d.list) new)) (sym same) books

    pub marks_stand : IsSome (held_by actor d.list.claims.items) → (cs : List Change) → Stands d cs → (list : GroupList) → IsHeld list → rooted_in list.groups.items ≡ rooted_in d.list.groups.items
        → packed_in list.groups.items ≡ packed_in d.list.groups.items → list.claims.items ≡ filter (λ (other : Actor × Claim). not (same_actor other.0 actor)) d.list.claims.items
        → IfSome (held_by actor d.list.claims.items) (λ (held : Actor × Claim). book_of list ≡ after_flush (claim_of held) (book_of d.list)) → Stands (record d { list = list }) cs
    marks_stand some cs j list keeps rows packed claims books =
        let one = one_held (held_by actor d.list.claims.items) some in
        stands_marked d cs j actor one.0 one.1 list (marks_are one.0 one.1).0 keeps rows packed claims
        (of_held (λ (h : Actor × Claim). book_of list ≡ after_flush (claim_of h) (book_of d.list)) (held_by actor d.list.claims.items) one.0 one.1 books)
