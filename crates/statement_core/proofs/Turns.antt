-- The turns of movers: the entries that they are, what these make of the book, and the room for them.
use Rattle.std.proofs.Common.{◌≡◌, ◌≢◌, ℕ, ◌+◌, ◌≤◌, List, [], ◌∷◌, ◌++◌, filter, length, map, not, refl, sym, ap, subst, ◌∙◌, cond, inl, inr, arith, Bool, true, false, Option, None, Some}
use Rattle.std.specs.Prelude.{◌==◌, Contains, IfSome, IsSome}
use Rattle.std.specs.Option.{option_map}
use Rattle.std.specs.declared.alloc.Global.{Global}
use Rattle.std.specs.declared.sync.Arc.{Arc}
use Rattle.std.proofs.Math.Bool.{or-false}
use Rattle.std.proofs.lemmas.List.{append-nil, length-map}
use Rattle.std.proofs.lemmas.List.Elements.{All-contains}
use Rattle.std.proofs.lemmas.List.Filters.{length-filter_both}
use Rattle.std.proofs.lemmas.List.Sorted.{length_permutation}
use Rattle.std.proofs.lemmas.Option.{same_Some}
use Rattle.cs_types.specs.declared.Key.{Key}
use Rattle.cs_types.specs.Schemas.{IsSchema}
use Rattle.cs_model.specs.declared.entry.Entry.{Entry}
use Rattle.cs_model.specs.declared.entry.Entry.TheVariants.{Mover}
use Rattle.cs_model.specs.declared.work.Actor.{Actor}
use Rattle.cs_model.specs.declared.work.Work.{Work}
use Rattle.cs_model.specs.declared.work.Work.TheVariants as work
use Rattle.cs_model.specs.Actors.{actor_of, entries_of, is_begun, has_ended, one_if, one_unless, owed_by, owed}
use Rattle.cs_model.specs.Changes.{Change}
use Rattle.cs_model.specs.Floors.{IsFloor, snapshot_of, snapshots}
use Rattle.log_laws.proofs.Entries.{entries_push}
use Rattle.log_laws.proofs.Room.{owes_push}
use Rattle.txn_table.specs.declared.txn.Txn.{Txn}
use Rattle.txn_table.specs.Txns.{txn_of, snapshots_in, snapshot_of as snapshot_in}
use Rattle.delete_bitmap.specs.declared.Marks.{Marks}
use Rattle.row_group.specs.declared.packed.Packed.{Packed}
use Rattle.group_book.specs.Book as book
use Rattle.group_book.specs.Book.{Choice, Ending, Book, empty, is_opened}
use Rattle.group_book.specs.Book.Choice.{Compress, Flush, Rebuild, Merge, Settle, Clear, Idle}
use Rattle.group_book.specs.Choices.{choice, choice_work, after_choice, first_of, flushable, id_in, install_work, lowest, release_work}
use Rattle.group_book.specs.Commits.{Sizes}
use Rattle.group_book.specs.Invariant.{makes_group, AreById, AreSourcesOf, IsClaim}
use Rattle.group_book.specs.Orders.{IsReordered}
use Rattle.group_book.specs.Turns.{after_close, claim_by, same_actor, made_of, installed, released}
use Rattle.group_log.specs.Followed.{ground_of, Followed, Ground, Moment, Works}
use Rattle.group_log.specs.Followed.Works.{chosen, out_of_memory, installed as installed_work, released as released_work, closed as closed_work}
use Rattle.group_log.specs.Reorganizing.{IsWorkBy}
use Rattle.group_view.specs.declared.claim.Claim.{Claim}
use Rattle.group_view.specs.declared.claim.Product.{Product}
use Rattle.group_view.specs.Books.{choice_of, claim_of, book_of}
use Rattle.group_view.specs.Claims.{lent_entries, rowed_of_packed, IsMadeOf, IsMendable, IsProductOf}
use Rattle.group_view.specs.Parts.{Rowed}
use Rattle.group_view.specs.Views.{endings_of}
use Rattle.group_directory.specs.declared.directory.Directory.{Directory}
use Rattle.group_directory.specs.declared.movers.Claimed.TheVariants as claimed
use Rattle.group_directory.specs.Claimed.{IsTaken, IsSound}
use Rattle.group_view.proofs.Versions.{length-packed_versions}
use Rattle.group_directory.specs.Claiming.{IsShareOf}
use Rattle.group_directory.specs.Installing.{held_by, new_versions}
use Rattle.group_directory.specs.Laws.{sizes_of as directory_sizes}
use Rattle.group_directory.specs.Obstacles.{txn_in}
use Rattle.group_directory.specs.Stands.{IsLoanOf, Stands}
use Rattle.group_directory.proofs.BookLaws.{each_claim}
use Rattle.group_directory.proofs.ClaimLaws.{share_fits, share_packed}
use Rattle.group_directory.proofs.FloorLaws.{floor_same}
use Rattle.group_directory.proofs.InstallBuffers.{held_there}
use Rattle.group_directory.proofs.InstallStands.{claim_held, made_versions}
use Rattle.group_directory.proofs.LendLaws.{flush_lends}
use Rattle.statement_core.specs.declared.core_state.CoreState.{CoreState}
use Rattle.statement_core.specs.declared.movers.Turned.{Turned}
use Rattle.statement_core.specs.declared.movers.Turned.TheVariants as turned
use Rattle.statement_core.specs.declared.started.Terms.{Terms}
use Rattle.statement_core.specs.Cores.{IsCore}
use Rattle.statement_core.specs.CoreState.{state_of, groups_of, claims_of}
use Rattle.statement_core.specs.Fit.{AreFitting, IsFitState}
use Rattle.statement_core.specs.Movers.{GivesTurn, IsFirstOf, IsMended, IsOfWork, IsWorkOf}
use Rattle.statement_core.specs.Reorganizes.{MayClose}
use Rattle.statement_core.specs.Terms.{sizes_of}
use Rattle.statement_core.specs.Turns.{entry_of, HasAllClaims, IsFirst, BeginsTurn, TurnsTo, EndsBy}
use Rattle.statement_core.proofs.Keeping.{core_push}
use Rattle.statement_core.proofs.Mending.{mendable, shared_mendable, shared_product}
use Rattle.statement_core.proofs.Reorganizes.{close_may, closer}

-- ---- room

-- a mover's entry changes nothing that sessions owe
owes_mover : (entries : List Entry) (actor : Actor) (w : Work) → owed_by (entries ++ Mover actor w ∷ []) ≡ owed_by entries
owes_mover entries actor w = owes_push entries (Mover actor w) ∙ ap (λ (ended : Bool). one_if (is_begun entries) + one_unless ended) (or-false (has_ended entries))

owed_mover : (sessions : List ℕ) (log : List Entry) (actor : Actor) (w : Work) → owed (log ++ Mover actor w ∷ []) sessions ≡ owed log sessions
owed_mover [] log actor w = refl
owed_mover (session ∷ sessions) log actor w = λ i. own i + owed_mover sessions log actor w i
  where
    step : (t : Bool) → owed_by (entries_of session log ++ cond t (Mover actor w ∷ []) []) ≡ owed_by (entries_of session log)
    step true = owes_mover (entries_of session log) actor w
    step false = ap owed_by (append-nil (entries_of session log))

    own : owed_by (entries_of session (log ++ Mover actor w ∷ [])) ≡ owed_by (entries_of session log)
    own = ap owed_by (entries_push session log (Mover actor w)) ∙ step (actor_of (Mover actor w) == session)

some_first : {X : Type 0} (xs : List X) → IsSome (first_of xs) → 1 ≤ length xs
some_first [] some = absurd (cc some)
some_first (x ∷ xs) some = omega arith

-- without the claim of an actor that holds one there are fewer
pub fewer_claims : (actor : Actor) (claims : List (Actor × Claim)) → IsSome (held_by actor claims) → length (filter (λ (held : Actor × Claim). not (same_actor held.0 actor)) claims) + 1 ≤ length claims
fewer_claims actor claims some =
    let own = some_first (filter (λ (held : Actor × Claim). same_actor held.0 actor) claims) some in
    let both = length-filter_both (λ (held : Actor × Claim). same_actor held.0 actor) (λ (held : Actor × Claim). not (same_actor held.0 actor)) (λ held. refl) claims in
    omega (arith, own, both)

-- the first event of a turn makes at most one claim
pub turned_claims : (actor : Actor) (old new : List (Actor × Claim)) (given : Turned) → GivesTurn actor old new given → length new ≤ length old + 1
turned_claims actor old new (turned.Lent claim) gives = let e = ap (λ (l : List (Actor × Claim)). length l) gives.1 in omega (arith, e)
turned_claims actor old new turned.Alone gives = let e = ap (λ (l : List (Actor × Claim)). length l) gives in omega (arith, e)
turned_claims actor old new turned.Short gives = let e = ap (λ (l : List (Actor × Claim)). length l) gives in omega (arith, e)
turned_claims actor old new turned.Idle gives = let e = ap (λ (l : List (Actor × Claim)). length l) gives in omega (arith, e)

-- ---- one event

-- the directory has other groups alone
pub state_listed : (changes : List Change) (held : CoreState) (d : Directory) → d ≡ record held.directory { list = d.list } → state_of changes (record held { directory = d }) ≡ state_of changes held
state_listed changes held d rest = ap (λ (x : Directory). state_of changes (record held { directory = x })) rest

-- the floor of the open transactions is that of the state
snapshot_same : (o : Option Txn) → snapshot_of (txn_in o) ≡ snapshot_in o
snapshot_same None = refl
snapshot_same (Some txn) = refl

pub floor_of : (changes : List Change) (held : CoreState) (floor : ℕ) → IsFloor (snapshots_in (txn_of held.directory.txns)) held.directory.clock floor → IsFloor (snapshots (state_of changes held)) held.directory.clock floor
floor_of changes held floor is = floor_same (snapshots_in (txn_of held.directory.txns)) (snapshots (state_of changes held)) held.directory.clock floor (λ session. snapshot_same (txn_of held.directory.txns session)) is

-- ---- the first event of a turn

module _ (sizes : Sizes) (floor : ℕ) (actor : Actor) (before after : Book) where
  abbrev turn : Choice
  turn = choice floor sizes.group_rows actor before

  works_chosen : (w : Work) → claim_by actor before ≡ None → choice_work turn floor before ≡ Some w → after ≡ after_choice turn floor actor before → Works sizes floor actor before w after
  works_chosen w none is moves = subst (Works sizes floor actor before w) (sym moves) (chosen none is)

  pub first_works : (given : Turned) (w : Work) → claim_by actor before ≡ None → IsFirstOf turn floor actor before given (Some w) after → Works sizes floor actor before w after
  first_works (turned.Lent claim) w none first = works_chosen w none first.0.3 first.1
  first_works turned.Alone w none first = works_chosen w none first.0.2 first.1
  first_works turned.Short w none first = at (choice_work turn floor before) refl first.0.0
    where
      at : (o : Option Work) → choice_work turn floor before ≡ o → IsSome o → Works sizes floor actor before w after
      at None is some = absurd (cc some)
      at (Some x) is some =
          subst (λ (y : Work). Works sizes floor actor before y after) (sym (same_Some w work.Memory first.0.1)) (subst (Works sizes floor actor before work.Memory) (sym first.1) (out_of_memory none is))
  first_works turned.Idle w none first = absurd (cc (first.0.1))

  -- without a work the book stays
  pub first_none : (given : Turned) → IsFirstOf turn floor actor before given None after → after ≡ before
  first_none (turned.Lent claim) first = absurd (cc (first.0.2))
  first_none turned.Alone first = absurd (cc (first.0.1))
  first_none turned.Short first = first.1
  first_none turned.Idle first = first.1

-- ---- what a choice gives

module _ (floor : ℕ) (actor : Actor) (before : Book) (claim : Claim) where
  abbrev Begins : Choice → Type 0
  Begins made = claim_of (actor, claim) ∷ before.claims ≡ (after_choice made floor actor before).claims

  first_is : (x y : book.Claim) (xs ys : List book.Claim) → x ∷ xs ≡ y ∷ ys → x ≡ y
  first_is x y xs ys is = cc is

  pub lent_fresh : (made : Choice) → Begins made → makes_group made ≡ true → id_in claim.fresh ≡ before.next
  lent_fresh (Compress source) is makes = ap (λ (c : book.Claim). id_in c.fresh) (first_is _ _ _ _ is)
  lent_fresh Flush is makes = absurd (cc makes)
  lent_fresh (Rebuild source) is makes = ap (λ (c : book.Claim). id_in c.fresh) (first_is _ _ _ _ is)
  lent_fresh (Merge first second) is makes = ap (λ (c : book.Claim). id_in c.fresh) (first_is _ _ _ _ is)
  lent_fresh Settle is makes = absurd (cc makes)
  lent_fresh Clear is makes = absurd (cc makes)
  lent_fresh Idle is makes = absurd (cc makes)

  pub lent_flush : Begins Flush → AreById before.groups → endings_of claim.entries ≡ lent_entries claim → length claim.entries ≡ length (flushable before)
  lent_flush is by_id own =
      sym (length-map claim.entries (λ (entry : Key × ℕ). record { key = entry.0; end = entry.1 })) ∙ ap (λ (es : List Ending). length es) own
      ∙ ap (λ (c : book.Claim). length c.entries) (first_is _ _ _ _ is) ∙ ap (λ (es : List Ending). length es) (flush_lends before by_id)

-- what a turn of the directory gives is the first event
module _ (floor : ℕ) (actor : Actor) (made : Choice) (old new : Directory) where
  pub lent_first : (changes : List Change) (claim : Claim) (w : Work) → Stands old changes → IsTaken made floor actor old new (claimed.Lent claim) → IsSound old.schema.value changes actor (claimed.Lent claim)
      → ((floor : ℕ) (at : Book) → (makes_group (choice_of claim.choice) ≡ true → id_in claim.fresh ≡ at.next) → (choice_of claim.choice ≡ Flush → length claim.entries ≡ length (flushable at)) → choice_work (choice_of claim.choice) floor at ≡ Some w)
      → IsFirstOf made floor actor (book_of old.list) (turned.Lent claim) (Some w) (book_of new.list)
  lent_first changes claim w j taken sound given =
      let gives = taken.gives in
      let loan = sound.1 in
      let begins : Begins floor actor (book_of old.list) claim made = sym gives.2 ∙ ap (λ (b : Book). b.claims) taken.book in
      let is_work : choice_work made floor (book_of old.list) ≡ Some w =
      subst (λ (m : Choice). choice_work m floor (book_of old.list) ≡ Some w) gives.1
      (given floor (book_of old.list) (λ makes. lent_fresh floor actor (book_of old.list) claim made begins (ap makes_group (sym gives.1) ∙ makes))
      (λ flush. lent_flush floor actor (book_of old.list) claim (subst (Begins floor actor (book_of old.list) claim) (sym gives.1 ∙ flush) begins) j.book.groups.by_id (loan.entries flush))) in
      ((gives.1, gives.0, refl, is_work), taken.book)

  pub settled_first : (n : ℕ) → IsTaken made floor actor old new (claimed.Settled n) → IsFirstOf made floor actor (book_of old.list) turned.Alone (Some (work.Settle n)) (book_of new.list)
  settled_first n taken =
      let gives = taken.gives in
      ((inl gives.0, refl, ap (λ (m : Choice). choice_work m floor (book_of old.list)) gives.0 ∙ ap (λ (k : ℕ). Some (work.Settle k)) (sym gives.1)), taken.book)

  pub cleared_first : (n : ℕ) → IsTaken made floor actor old new (claimed.Cleared n) → IsFirstOf made floor actor (book_of old.list) turned.Alone (Some (work.Clear n)) (book_of new.list)
  cleared_first n taken =
      let gives = taken.gives in
      ((inr gives.0, refl, ap (λ (m : Choice). choice_work m floor (book_of old.list)) gives.0 ∙ ap (λ (k : ℕ). Some (work.Clear k)) (sym gives.1)), taken.book)

  pub idle_first : IsTaken made floor actor old new claimed.Nothing → IsFirstOf made floor actor (book_of old.list) turned.Idle None (book_of new.list)
  idle_first taken =
      let idle : made ≡ Idle = taken.gives in
      ((ap (λ (m : Choice). choice_work m floor (book_of old.list)) idle, refl), taken.book ∙ ap (λ (m : Choice). after_choice m floor actor (book_of old.list)) idle)

  pub short_first : made ≢ Idle → book_of new.list ≡ book_of old.list → IsFirstOf made floor actor (book_of old.list) turned.Short (Some work.Memory) (book_of new.list)
  short_first busy same = ((busy_works made busy, refl), same)
    where
      busy_works : (m : Choice) → m ≢ Idle → IsSome (choice_work m floor (book_of old.list))
      busy_works (Compress source) some = refl
      busy_works Flush some = refl
      busy_works (Rebuild source) some = refl
      busy_works (Merge first second) some = refl
      busy_works Settle some = refl
      busy_works Clear some = refl
      busy_works Idle some = absurd (some refl)

-- ---- the rows of a product

-- the new group has as many rows as the claim keeps versions
pub rows_made : (held : Actor × Claim) (group : Arc Packed Global) (marks : Arc Marks Global) → IsMadeOf held.1 (Some (group, marks)) → length group.value.rows ≡ length (made_of (claim_of held))
rows_made held group marks is =
    let packed = group.value in
    sym (length-packed_versions packed.key packed.rows marks.value is.2.fitting) ∙ sym (length-map (rowed_of_packed group.value marks.value) (λ (rowed : Rowed). rowed.version))
    ∙ length_permutation (made_of (claim_of held)) (new_versions (Some (group, marks))) (made_versions held (Some (group, marks)) is)

pub rows_none : (held : Actor × Claim) → IsMadeOf held.1 None → 0 ≡ length (made_of (claim_of held))
rows_none held none = length_permutation (made_of (claim_of held)) (new_versions None) (made_versions held None none)

-- ---- a claim that is held

-- what shares a claim is shared by it
share_back : (claim other : Claim) → IsShareOf claim other → IsShareOf other claim
share_back claim other share = record {
  choice = sym share.choice;
  fresh = sym share.fresh;
  floor = sym share.floor;
  schema = sym share.schema;
  groups = sym share.groups;
  buffer = sym share.buffer;
  from = sym share.from;
  to = sym share.to;
  entries = sym share.entries;
}

-- a claim that is lent can be worked on
pub lent_mendable : (d : Directory) (changes : List Change) (actor : Actor) (kept lent : Claim) → Stands d changes → Contains d.list.claims.items (actor, kept) → IsShareOf kept lent → IsSchema d.schema.value → AreFitting d.schema.value changes
    → IsSound d.schema.value changes actor (claimed.Lent lent) → IsOfWork (choice_of lent.choice) → IsMendable lent
lent_mendable d changes actor kept lent j there share schema fit sound work =
    let back = share_back kept lent share in
    shared_mendable kept lent share (mendable d changes (actor, kept) j there schema fit (share_fits lent kept back sound.0) (λ flush. share_packed lent kept back (sound.2 (ap choice_of share.choice ∙ flush)))
    (subst IsOfWork (ap choice_of share.choice) work))

-- what is found of the claims
pub held_found : (o : Option (Actor × Claim)) (claim : Claim) → Some claim ≡ option_map (λ (held : Actor × Claim). held.1) o → (held : Actor × Claim) × (o ≡ Some held) × (held.1 ≡ claim)
held_found None claim is = absurd (cc is)
held_found (Some held) claim is = (held, refl, sym (same_Some claim held.1 is))

-- what was made of a share is a product of the claim
pub mended_product : (o : Option (Actor × Claim)) (product : Product) → IsMended o product → IfSome o (λ (held : Actor × Claim). IsProductOf held.1 product)
mended_product None product is = tt
mended_product (Some held) product is = shared_product held.1 is.0 is.1 product is.2

-- a list has no claims where the book has none
none_mapped : (claims : List (Actor × Claim)) → map claim_of claims ≡ [] → claims ≡ []
none_mapped [] none = refl
none_mapped (held ∷ claims) none = absurd (cc none)

-- who holds no claim has none in the book
pub free_in_book : (d : Directory) (actor : Actor) → held_by actor d.list.claims.items ≡ None → claim_by actor (book_of d.list) ≡ None
free_in_book d actor is = claim_held d.list actor ∙ ap (option_map claim_of) is

of_work : (made : Choice) (sources : List ℕ) → AreSourcesOf made sources → IsOfWork made
of_work (Compress source) sources are = inl refl
of_work Flush sources are = inr refl
of_work (Rebuild source) sources are = inl refl
of_work (Merge first second) sources are = inl refl
of_work Settle sources are = absurd are
of_work Clear sources are = absurd are
of_work Idle sources are = absurd are

module _ (d : Directory) (changes : List Change) (j : Stands d changes) (actor : Actor) (held : Actor × Claim) (is : held_by actor d.list.claims.items ≡ Some held) where
  there : Contains d.list.claims.items held
  there = (held_there actor d.list.claims.items held is).0

  claim_is : IsClaim d.sizes.group_rows (book_of d.list) changes j.floor (claim_of held)
  claim_is = All-contains (λ (other : Actor × Claim). IsClaim d.sizes.group_rows (book_of d.list) changes j.floor (claim_of other)) d.list.claims.items held (each_claim d changes j) there

  pub held_work : IsOfWork (choice_of held.1.choice)
  held_work = of_work (choice_of held.1.choice) (claim_of held).sources claim_is.kind

  pub held_entries : choice_of held.1.choice ≡ Flush → endings_of held.1.entries ≡ lent_entries held.1
  held_entries = let loan = All-contains (IsLoanOf d.schema.value changes) d.list.claims.items held j.loans there in loan.entries

  pub held_in_book : claim_by actor (book_of d.list) ≡ Some (claim_of held)
  held_in_book = claim_held d.list actor ∙ ap (option_map claim_of) is

  -- ---- its install and its release

  abbrev Entries : Claim → Type 0
  Entries claim = choice_of claim.choice ≡ Flush → endings_of claim.entries ≡ lent_entries claim

  -- the works of a claim that is the held one
  pub held_install : (claim : Claim) (product : Product) (w : Work) → held.1 ≡ claim → IsProductOf held.1 product
      → ((by : Actor) → Entries claim → IsProductOf claim product → install_work (choice_of claim.choice) (claim_of (by, claim)) ≡ Some w) → install_work (choice_of held.1.choice) (claim_of held) ≡ Some w
  held_install claim product w same made given =
      subst (λ (x : Claim). (by : Actor) → Entries x → IsProductOf x product → install_work (choice_of x.choice) (claim_of (by, x)) ≡ Some w) (sym same) given held.0 held_entries made

  pub held_release : (claim : Claim) (w : Work) → held.1 ≡ claim → ((by : Actor) → Entries claim → release_work (choice_of claim.choice) (claim_of (by, claim)) ≡ Some w)
      → release_work (choice_of held.1.choice) (claim_of held) ≡ Some w
  held_release claim w same given = subst (λ (x : Claim). (by : Actor) → Entries x → release_work (choice_of x.choice) (claim_of (by, x)) ≡ Some w) (sym same) given held.0 held_entries

  pub works_install : (sizes : Sizes) (floor : ℕ) (w : Work) (after : Book) → install_work (choice_of held.1.choice) (claim_of held) ≡ Some w
      → IsReordered (installed (claim_by actor (book_of d.list)) (book_of d.list)) after → Works sizes floor actor (book_of d.list) w after
  works_install sizes floor w after same moved = installed_work (claim_of held) held_in_book same (subst (λ (o : Option book.Claim). IsReordered (installed o (book_of d.list)) after) held_in_book moved)

  pub works_release : (sizes : Sizes) (floor : ℕ) (w : Work) (after : Book) → release_work (choice_of held.1.choice) (claim_of held) ≡ Some w
      → after ≡ released (claim_by actor (book_of d.list)) (book_of d.list) → Works sizes floor actor (book_of d.list) w after
  works_release sizes floor w after same moved =
      subst (Works sizes floor actor (book_of d.list) w) (sym (moved ∙ ap (λ (o : Option book.Claim). released o (book_of d.list)) held_in_book)) (released_work (claim_of held) held_in_book same)

-- ---- the core

module _ (made : Terms) (held : CoreState) (log : List Entry) (cap : ℕ) (sessions : List ℕ) (i : IsCore made held log cap sessions) where
  abbrev floor : ℕ
  floor = let j = i.stands in j.floor

  at_floor : IsFloor (snapshots_in (txn_of held.directory.txns)) held.directory.clock floor
  at_floor = let j = i.stands in j.is_floor

  abbrev pub moment : Moment (ground_of made.schema.value (sizes_of made)) log
  moment = record { state = state_of i.changes held; book = groups_of held; followed = i.followed }

  -- a work moves the groups alone
  pub core_worked : (after : CoreState) (new : ℕ) (actor : Actor) (w : Work) → IsWorkBy (ground_of made.schema.value (sizes_of made)) log actor w → Stands after.directory i.changes → after.directory.sizes ≡ held.directory.sizes → after.directory.schema ≡ held.directory.schema
      → state_of i.changes after ≡ state_of i.changes held → Works (directory_sizes held.directory) floor actor (groups_of held) w (groups_of after) → length log + 1 + owed log sessions + length (claims_of after) ≤ new
      → IsCore made after (log ++ Mover actor w ∷ []) new sessions
  core_worked after new actor w may stands sizes schema state moves len =
      core_push made held after log cap new sessions (Mover actor w) i i.changes stands sizes schema state
      (floor, floor_of i.changes held floor at_floor, subst (λ (s : Sizes). Works s floor actor (groups_of held) w (groups_of after)) i.sizes moves)
      (subst (IsFitState made.schema.value) (sym state) i.fit) tt tt may
      (let same = owed_mover sessions log actor w in omega (arith, len, same))

  -- a close of the open store
  pub core_closed : (after : CoreState) (new : ℕ) (actor : Actor) (id : ℕ) → MayClose (ground_of made.schema.value (sizes_of made)) log actor → claim_by actor (groups_of held) ≡ None
      → lowest (λ (group : book.Group). is_opened group.content) (groups_of held).groups ≡ Some id → groups_of after ≡ after_close (groups_of held) → Stands after.directory i.changes → after.directory.sizes ≡ held.directory.sizes
      → after.directory.schema ≡ held.directory.schema → state_of i.changes after ≡ state_of i.changes held → length log + 1 + owed log sessions + length (claims_of after) ≤ new
      → IsCore made after (log ++ Mover actor (work.Close id) ∷ []) new sessions
  core_closed after new actor id may none is moved stands sizes schema state len =
      core_worked after new actor (work.Close id) (close_may (ground_of made.schema.value (sizes_of made)) log actor id may) stands sizes schema state
      (subst (Works (directory_sizes held.directory) floor actor (groups_of held) (work.Close id)) (sym moved) (closed_work (closer (ground_of made.schema.value (sizes_of made)) log actor may) none is)) len

  -- the first event of a turn
  module _ (actor : Actor) (after : Book) where
    abbrev turns : Sizes → Choice
    turns sizes = choice floor sizes.group_rows actor (groups_of held)

    pub turn_told : (given : Turned) (w : Option Work) → claim_by actor (groups_of held) ≡ None → IsFirstOf (turns (directory_sizes held.directory)) floor actor (groups_of held) given w after
        → TurnsTo (ground_of made.schema.value (sizes_of made)) log actor given (entry_of actor w)
    turn_told given w none first = record {
      moment = moment;
      floor = floor;
      is_floor = floor_of i.changes held floor at_floor;
      free = none;
      work = w;
      first = subst (λ (sizes : Sizes). IsWorkOf (turns sizes) (choice_work (turns sizes) floor (groups_of held)) given w) i.sizes first.0;
      entry = refl;
    }

  -- no one else holds a claim
  pub all_claims : HasAllClaims (ground_of made.schema.value (sizes_of made)) log (claims_of held)
  all_claims = record { moment = moment; holds = free_in_book held.directory }

  -- and before the first entry there is none
  pub no_claims : log ≡ [] → claims_of held ≡ []
  no_claims first =
      let origin = ground_of made.schema.value (sizes_of made) in
      let start : groups_of held ≡ empty = (subst (λ (l : List Entry). Followed origin l (state_of i.changes held) (groups_of held)) first i.followed).1 in
      none_mapped (claims_of held) (ap (λ (b : Book). b.claims) start)

  -- who holds one ends it by its install or its release
  pub turn_ended : (ends : Choice → book.Claim → Option Work) (actor : Actor) (kept : Actor × Claim) → held_by actor (claims_of held) ≡ Some kept → (w : Work) → ends (choice_of kept.1.choice) (claim_of kept) ≡ Some w
      → EndsBy ends (ground_of made.schema.value (sizes_of made)) log actor (Mover actor w ∷ [])
  turn_ended ends actor kept is w same =
      record { moment = moment; claim = claim_of kept; held = held_in_book held.directory i.changes i.stands actor kept is; work = w; of_claim = same; entry = refl }

-- ---- what a turn gave, set aside

-- the first event of a turn is one that its choice gives
first_entry : (actor : Actor) (made : Choice) (due : Option Work) (given : Turned) (w : Option Work) → IsWorkOf made due given w → IsFirst actor due (entry_of actor w)
first_entry actor made due given w is = at given is
  where
    its : (o : Option Work) → IsFirst actor o (entry_of actor o)
    its None = refl
    its (Some x) = inl refl

    short : (o : Option Work) → IsSome o → IsFirst actor o (Mover actor work.Memory ∷ [])
    short None some = absurd (cc some)
    short (Some x) some = inr refl

    at : (g : Turned) → IsWorkOf made due g w → IsFirst actor due (entry_of actor w)
    at (turned.Lent claim) told = subst (λ (o : Option Work). IsFirst actor due (entry_of actor o)) told.3 (its due)
    at turned.Alone told = subst (λ (o : Option Work). IsFirst actor due (entry_of actor o)) told.2 (its due)
    at turned.Short told = subst (λ (o : Option Work). IsFirst actor due (entry_of actor o)) (sym told.1) (short due told.0)
    at turned.Idle told = subst (λ (o : Option Work). IsFirst actor due (entry_of actor o)) (told.0 ∙ sym told.1) (its due)

pub turn_begun : (origin : Ground) (before : List Entry) (actor : Actor) (given : Turned) (piece : List Entry) → TurnsTo origin before actor given piece → BeginsTurn origin before actor piece
turn_begun origin before actor given piece told =
    let made = choice told.floor origin.sizes.group_rows actor told.moment.book in
    let due = choice_work made told.floor told.moment.book in
    record {
      moment = told.moment;
      floor = told.floor;
      is_floor = told.is_floor;
      free = told.free;
      first = subst (IsFirst actor due) (sym told.entry) (first_entry actor made due given told.work told.first);
    }
