-- What one entry makes of a closed store, and of the claims.
use Rattle.std.proofs.Common.{◌≡◌, ℕ, ◌+◌, ◌<◌, ◌≤◌, ◌⊎◌, inl, inr, Bool, true, false, cond, List, [], ◌∷◌, ◌++◌, map, filter, length, not, Option, Some, None, refl, sym, ap, subst, ◌∙◌, arith}
use Rattle.std.specs.Prelude.{◌==◌, Contains}
use Rattle.std.specs.List.{All, list_any}
use Rattle.std.specs.Option.{option_map}
use Rattle.std.proofs.lemmas.Bool.Decides.{nat_tests}
use Rattle.std.proofs.lemmas.List.Elements.{All-contains, All-from_recursion}
use Rattle.cs_types.specs.declared.Key.{Key}
use Rattle.cs_model.specs.declared.entry.Entry.{Entry}
use Rattle.cs_model.specs.declared.entry.Entry.TheVariants as entry
use Rattle.cs_model.specs.declared.work.Actor.{Actor}
use Rattle.cs_model.specs.declared.work.Work.{Work}
use Rattle.cs_model.specs.declared.work.Work.TheVariants as work
use Rattle.cs_model.specs.Changes.{Edit, Change}
use Rattle.cs_model.specs.State as model
use Rattle.group_book.specs.Book.{Version, Content, Group, Choice, Claim, Book, total, deleted, is_opened, is_closed}
use Rattle.group_book.specs.Book.Content.{Opened, Closed, Compressed, Invisible, Tombstone}
use Rattle.group_book.specs.Book.Choice.{Compress, Flush, Rebuild, Merge, Settle, Clear, Idle}
use Rattle.group_book.specs.Choices.{first_of, lowest, choice, after_choice, install_work, release_work, flush_sources}
use Rattle.group_book.specs.Commits.{Sizes, after_ends, direct_parts, new_version, with_group, after_loads, store_of, with_version, stored, after_rest, after_commit, replaced_by, inserted_by}
use Rattle.group_book.specs.Invariant.{AreById, AreSourcesOf, IsClaim, IsBookOf}
use Rattle.group_book.specs.Orders.{IsReordered}
use Rattle.group_book.specs.States.{State, state_in, state_of, mover_transitions, commit_transitions, close_transitions, GroupsMoveBy}
use Rattle.group_book.specs.States.State.{Absent, IsOpen, IsClosed}
use Rattle.group_book.specs.Turns.{is_id_of, is_fresh, is_by, claim_of, without_claim, without_fresh, replaced_group, is_none_left, made_of, after_install, after_work, after_release}
use Rattle.group_book.proofs.Orders.{same_states}
use Rattle.group_log.specs.Followed.{Ground, committed_edits, Commits, Works, IsBookStep}
use Rattle.group_log.specs.Followed.Works.{chosen, out_of_memory, installed, released, closed as closes}
use Rattle.group_log.specs.Moves.{work_transitions, transitions_of}
use Rattle.group_log.proofs.Claims.{claim_in}
use Rattle.reorganize_laws.proofs.Alike.{same_itself, holder_is}
use Rattle.reorganize_laws.proofs.Lists.{in_none, in_head, in_tail, in_cases, in_filter, in_any, only_one}

-- ---- claims stay until their actors end them

-- the entry is the install or the release of the claim
pub data EndsClaim (e : Entry) (claim : Claim) (book made : Book) : Type 0 where
  by_install : {w : Work} → e ≡ entry.Mover claim.actor w → install_work claim.choice claim ≡ Some w → IsReordered (after_work claim.choice claim book) made → EndsClaim e claim book made
  by_release : {w : Work} → e ≡ entry.Mover claim.actor w → release_work claim.choice claim ≡ Some w → EndsClaim e claim book made

abbrev pub StaysOrEnds : Entry → Claim → Book → Book → Type 0
StaysOrEnds e claim book made = Contains made.claims claim ⊎ EndsClaim e claim book made

loads_claims : (c : ℕ) (parts : List (List Key)) (book : Book) → (after_loads c parts book).claims ≡ book.claims
loads_claims c [] book = refl
loads_claims c (part ∷ parts) book = loads_claims c parts (with_group (Compressed (map (new_version c) part)) book)

stored_claims : (group_rows : ℕ) (v : Version) (book : Book) → (stored group_rows v book).claims ≡ book.claims
stored_claims group_rows v book = step (list_any (λ (g : Group). is_opened g.content) book.groups)
  where
    step : (t : Bool) → (cond t (record book { groups = map (λ (g : Group). record g { content = with_version group_rows v g.content }) book.groups }) (with_group (store_of group_rows (v ∷ [])) book)).claims ≡ book.claims
    step true = refl
    step false = refl

rest_claims : (group_rows c : ℕ) (keys : List Key) (book : Book) → (after_rest group_rows c keys book).claims ≡ book.claims
rest_claims group_rows c [] book = refl
rest_claims group_rows c (key ∷ keys) book = rest_claims group_rows c keys (stored group_rows (new_version c key) book) ∙ stored_claims group_rows (new_version c key) book

commit_claims : (sizes : Sizes) (c : ℕ) (replaced inserted : List Key) (book : Book) → (after_commit sizes c replaced inserted book).claims ≡ book.claims
commit_claims sizes c replaced inserted book =
    let parts : List (List Key) × List Key = direct_parts (length inserted) sizes inserted in
    rest_claims sizes.group_rows c parts.1 (after_loads c parts.0 (after_ends replaced c book)) ∙ loads_claims c parts.0 (after_ends replaced c book)

finish_claims : (sizes : Sizes) (m : model.State) (own : List Edit) (book made : Book) → Commits sizes m own book made → made.claims ≡ book.claims
finish_claims sizes m [] book made same = ap (λ (b : Book). b.claims) same
finish_claims sizes m (edit ∷ own) book made commits =
    let all : List Edit = edit ∷ own in commits.0.claims ∙ commit_claims sizes (m.clock + 1) (replaced_by m.changes m.clock all) (inserted_by all) book

chosen_claims : (turn : Choice) (at : ℕ) (by : Actor) (book : Book) (claim : Claim) → Contains book.claims claim → Contains (after_choice turn at by book).claims claim
chosen_claims (Compress source) at by book claim c = in_tail (claim_of by (Compress source) (source ∷ []) (Some book.next) at book) book.claims claim c
chosen_claims Flush at by book claim c = in_tail (claim_of by Flush (flush_sources book) None at book) book.claims claim c
chosen_claims (Rebuild source) at by book claim c = in_tail (claim_of by (Rebuild source) (source ∷ []) (Some book.next) at book) book.claims claim c
chosen_claims (Merge first second) at by book claim c = in_tail (claim_of by (Merge first second) (first ∷ second ∷ []) (Some book.next) at book) book.claims claim c
chosen_claims Settle at by book claim c = c
chosen_claims Clear at by book claim c = c
chosen_claims Idle at by book claim c = c

other_stays : (by : Actor) (claims : List Claim) (claim : Claim) → Contains claims claim → is_by by claim ≡ false → Contains (without_claim by claims) claim
other_stays by claims claim c is = in_filter (λ x. not (is_by by x)) claims claim c (ap not is)

work_claims : (choice : Choice) (held : Claim) (book : Book) (claim : Claim) → Contains book.claims claim → is_by held.actor claim ≡ false → Contains (after_work choice held book).claims claim
work_claims (Compress source) held book claim c is = other_stays held.actor book.claims claim c is
work_claims Flush held book claim c is = other_stays held.actor book.claims claim c is
work_claims (Rebuild source) held book claim c is = other_stays held.actor book.claims claim c is
work_claims (Merge first second) held book claim c is = other_stays held.actor book.claims claim c is
work_claims Settle held book claim c is = c
work_claims Clear held book claim c is = c
work_claims Idle held book claim c is = c

works_stay : (sizes : Sizes) (at : ℕ) (by : Actor) (book : Book) (changes : List Change) (floor : ℕ) (w : Work) (made : Book) → IsBookOf sizes.group_rows book changes floor → Works sizes at by book w made
    → (claim : Claim) → Contains book.claims claim → StaysOrEnds (entry.Mover by w) claim book made
works_stay sizes at by book changes floor w made j (chosen none is) claim c = inl (chosen_claims (choice at sizes.group_rows by book) at by book claim c)
works_stay sizes at by book changes floor w made j (out_of_memory none is) claim c = inl c
works_stay sizes at by book changes floor w made j (installed held holds is moved) claim c = step (is_by held.actor claim) refl
  where
    step : (t : Bool) → is_by held.actor claim ≡ t → StaysOrEnds (entry.Mover by w) claim book made
    step false other = inl (subst (λ l. Contains l claim) (sym moved.claims) (work_claims held.choice held book claim c other))
    step true same =
        let one : held ≡ claim = only_one (is_by held.actor) book.claims held claim (j.claims.actors held.actor) (claim_in by book held holds) c (same_itself held.actor) same in
        inr (subst (λ x. EndsClaim (entry.Mover by w) x book made) one (by_install (ap (λ a. entry.Mover a w) (sym (holder_is by book held holds))) is moved))
works_stay sizes at by book changes floor w made j (released held holds is) claim c = step (is_by held.actor claim) refl
  where
    step : (t : Bool) → is_by held.actor claim ≡ t → StaysOrEnds (entry.Mover by w) claim book (after_release held book)
    step false other = inl (other_stays held.actor book.claims claim c other)
    step true same =
        let one : held ≡ claim = only_one (is_by held.actor) book.claims held claim (j.claims.actors held.actor) (claim_in by book held holds) c (same_itself held.actor) same in
        inr (subst (λ x. EndsClaim (entry.Mover by w) x book (after_release held book)) one (by_release (ap (λ a. entry.Mover a w) (sym (holder_is by book held holds))) is))
works_stay sizes at by book changes floor w made j (closes session none is) claim c = inl c

pub claim_stays : (origin : Ground) (m after : model.State) (e : Entry) (book made : Book) (changes : List Change) (floor : ℕ) → IsBookOf origin.sizes.group_rows book changes floor
    → IsBookStep origin m book e after made → (claim : Claim) → Contains book.claims claim → StaysOrEnds e claim book made
claim_stays origin m after (entry.Start session b short) book made changes floor j same claim c = inl (subst (λ (x : Book). Contains x.claims claim) (sym same) c)
claim_stays origin m after (entry.Finish session r) book made changes floor j finishes claim c = inl (subst (λ l. Contains l claim) (sym (finish_claims origin.sizes m (committed_edits m after) book made finishes.commits)) c)
claim_stays origin m after (entry.End session) book made changes floor j same claim c = inl (subst (λ (x : Book). Contains x.claims claim) (sym same) c)
claim_stays origin m after (entry.Mover by w) book made changes floor j moves claim c = works_stay origin.sizes moves.0 by book changes floor w made j moves.2 claim c

-- ---- a closed store was that or the open one before

-- only the open store becomes a closed one, and none that is there becomes the open one
abbrev Fits : State × State → Type 0
Fits move = (move.1 ≡ IsClosed → (move.0 ≡ IsOpen) ⊎ (move.0 ≡ Absent)) × (move.1 ≡ IsOpen → move.0 ≡ Absent)

mover_fits : All Fits mover_transitions
mover_fits = All-from_recursion Fits mover_transitions (
  ((λ e. cc), (λ e. cc)),
  (((λ e. cc), (λ e. cc)), (((λ e. cc), (λ e. cc)), (((λ e. cc), (λ e. cc)), (((λ e. cc), (λ e. cc)), (((λ e. cc), (λ e. cc)), tt))))),
)

commit_fits : All Fits commit_transitions
commit_fits = All-from_recursion Fits commit_transitions (((λ e. cc), (λ e. refl)), (((λ e. inl refl), (λ e. cc)), (((λ e. inr refl), (λ e. cc)), (((λ e. cc), (λ e. cc)), tt))))

close_fits : All Fits close_transitions
close_fits = All-from_recursion Fits close_transitions (((λ e. inl refl), (λ e. cc)), tt)

work_fits : (w : Work) → All Fits (work_transitions w)
work_fits (work.ClaimCompress source fresh) = mover_fits
work_fits (work.InstallCompress source fresh rows) = mover_fits
work_fits (work.ReleaseCompress source fresh) = mover_fits
work_fits (work.ClaimRebuild source fresh) = mover_fits
work_fits (work.InstallRebuild source fresh rows) = mover_fits
work_fits (work.ReleaseRebuild source fresh) = mover_fits
work_fits (work.ClaimMerge first second fresh) = mover_fits
work_fits (work.InstallMerge first second fresh rows) = mover_fits
work_fits (work.ReleaseMerge first second fresh) = mover_fits
work_fits (work.ClaimFlush entries) = mover_fits
work_fits (work.InstallFlush entries) = mover_fits
work_fits (work.ReleaseFlush entries) = mover_fits
work_fits (work.Settle ends) = mover_fits
work_fits (work.Clear groups) = mover_fits
work_fits (work.Close group) = close_fits
work_fits work.Memory = mover_fits

all_fit : (e : Entry) → All Fits (transitions_of e)
all_fit (entry.Start session b short) = All-from_recursion Fits [] tt
all_fit (entry.Finish session r) = commit_fits
all_fit (entry.End session) = All-from_recursion Fits [] tt
all_fit (entry.Mover by w) = work_fits w

-- what an id's group was, where the id had been drawn
pub record WasBefore (book made : Book) (id : ℕ) : Type 0 where
  pub closed : state_of made.groups id ≡ IsClosed → (state_of book.groups id ≡ IsClosed) ⊎ (state_of book.groups id ≡ IsOpen)
  pub opened : state_of made.groups id ≡ IsOpen → state_of book.groups id ≡ IsOpen

pub was_before : (e : Entry) (book made : Book) → GroupsMoveBy (transitions_of e) book made → (id : ℕ) → id < book.next → WasBefore book made id
was_before e book made moves id lt = elim (moves.each id) [
  | inl same ↦ record { closed = λ is. inl (same ∙ is); opened = λ is. same ∙ is }
  | inr listed ↦
      let fits = All-contains Fits (transitions_of e) (state_of book.groups id, state_of made.groups id) (all_fit e) listed in
      record {
        closed = λ is. elim (fits.0 is) [
          | inl was ↦ inr was
          | inr none ↦ absurd (drawn none (λ gone. let wrong : Absent ≡ IsClosed = sym gone ∙ is in cc))
        ];
        opened = λ is. absurd (drawn (fits.1 is) (λ gone. let wrong : Absent ≡ IsOpen = sym gone ∙ is in cc));
      }
]
  where
    drawn : state_of book.groups id ≡ Absent → (state_of made.groups id ≡ Absent → ⊥) → ⊥
    drawn none there = let from = moves.drawn id none there in let low = from.0 in omega (arith, low, lt)

-- ---- a claim of a closed store

abbrev pub packs : ℕ → Choice → Bool
packs id (Compress source) = source == id
packs id Flush = false
packs id (Rebuild source) = false
packs id (Merge first second) = false
packs id Settle = false
packs id Clear = false
packs id Idle = false

-- the claim is one of compress, of this group
abbrev pub packs_of : ℕ → Claim → Bool
packs_of id claim = packs id claim.choice

pub pack_is : (id : ℕ) (choice : Choice) → packs id choice ≡ true → choice ≡ Compress id
pack_is id (Compress source) is = let e : source ≡ id = grind (arith, nat_tests) in ap Compress e
pack_is id Flush is = cc
pack_is id (Rebuild source) is = cc
pack_is id (Merge first second) is = cc
pack_is id Settle is = cc
pack_is id Clear is = cc
pack_is id Idle is = cc

pub is_pack : (id : ℕ) (choice : Choice) → choice ≡ Compress id → packs id choice ≡ true
is_pack id choice e = ap (packs id) e ∙ itself
  where
    itself : (id == id) ≡ true
    itself = grind (arith, nat_tests)

-- its source is that group
pub pack_source : (group_rows : ℕ) (book : Book) (changes : List Change) (floor id : ℕ) (claim : Claim) → IsClaim group_rows book changes floor claim → claim.choice ≡ Compress id → claim.sources ≡ id ∷ []
pack_source group_rows book changes floor id claim c e = subst (λ x. AreSourcesOf x claim.sources) e c.kind

-- after its install the group is no closed store
replaced_state : (sources : List ℕ) (fresh : Option ℕ) (versions : List Version) (id : ℕ) → list_any (λ x. x == id) sources ≡ true → (gs : List Group) → state_of (map (replaced_group sources fresh versions) gs) id ≡ IsClosed → ⊥
replaced_state sources fresh versions id is [] e = cc
replaced_state sources fresh versions id is (g ∷ gs) e = step (g.id == id) refl (is_id_of sources g) refl (replaced_state sources fresh versions id is gs) e
  where
    step : (t : Bool) → (g.id == id) ≡ t → (s : Bool) → is_id_of sources g ≡ s → (state_of (map (replaced_group sources fresh versions) gs) id ≡ IsClosed → ⊥)
        → cond t (state_in (cond s (Tombstone (total g.content) (deleted g.content)) (cond (is_fresh fresh g) (Compressed versions) g.content))) (state_of (map (replaced_group sources fresh versions) gs) id) ≡ IsClosed → ⊥
    step true same true s_is rest e = cc
    step true same false s_is rest e = let i : id ≡ g.id = grind (arith, nat_tests) in let wrong : list_any (λ x. x == g.id) sources ≡ true = subst (λ n. list_any (λ x. x == n) sources ≡ true) i is in cc
    step false same s s_is rest e = rest e

pub packed_gone : (group_rows : ℕ) (book made : Book) (changes : List Change) (floor id : ℕ) (claim : Claim) → IsClaim group_rows book changes floor claim → claim.choice ≡ Compress id
    → IsReordered (after_work claim.choice claim book) made → state_of made.groups id ≡ IsClosed → ⊥
packed_gone group_rows book made changes floor id claim c e moved is =
    let installed_so : IsReordered (after_install claim book) made = subst (λ x. IsReordered (after_work x claim book) made) e moved in
    let source : list_any (λ x. x == id) claim.sources ≡ true = in_any (λ x. x == id) claim.sources id (subst (λ l. Contains l id) (sym (pack_source group_rows book changes floor id claim c e)) (in_head id [])) itself in
    replaced_state claim.sources claim.fresh (made_of claim) id source (cond (is_none_left (made_of claim)) (without_fresh claim.fresh book.groups) book.groups) (same_states (after_install claim book) made installed_so id ∙ is)
  where
    itself : (id == id) ≡ true
    itself = grind (arith, nat_tests)

-- ---- groups by id

pub closed_state : (content : Content) → is_closed content ≡ true → state_in content ≡ IsClosed
closed_state (Opened versions) is = cc
closed_state (Closed versions) is = refl
closed_state (Compressed versions) is = cc
closed_state Invisible is = cc
closed_state (Tombstone versions ends) is = cc

pub state_closed : (content : Content) → state_in content ≡ IsClosed → is_closed content ≡ true
state_closed (Opened versions) is = cc
state_closed (Closed versions) is = refl
state_closed (Compressed versions) is = cc
state_closed Invisible is = cc
state_closed (Tombstone versions ends) is = cc

-- the group of an id that has one
pub group_at : (gs : List Group) (id : ℕ) (s : State) → state_of gs id ≡ s → (s ≡ Absent → ⊥) → (g : Group) × Contains gs g × (g.id ≡ id) × (state_in g.content ≡ s)
group_at [] id s e some = absurd (some (sym e))
group_at (g ∷ gs) id s e some = step (g.id == id) refl e (λ e. group_at gs id s e some)
  where
    step : (t : Bool) → (g.id == id) ≡ t → cond t (state_in g.content) (state_of gs id) ≡ s → (state_of gs id ≡ s → (h : Group) × Contains gs h × (h.id ≡ id) × (state_in h.content ≡ s))
        → (h : Group) × Contains (g ∷ gs) h × (h.id ≡ id) × (state_in h.content ≡ s)
    step true same e rest = let i : g.id ≡ id = grind (arith, nat_tests) in (g, in_head g gs, i, e)
    step false same e rest = let found = rest e in (found.0, in_tail g gs found.0 found.1, found.2, found.3)

above_first : (g : Group) (gs : List Group) → AreById (g ∷ gs) → (h : Group) → Contains gs h → g.id < h.id
above_first g gs up h c = All-contains (λ (o : Group). g.id < o.id) gs h (All-from_recursion (λ (o : Group). g.id < o.id) gs up.0) c

pub state_here : (gs : List Group) → AreById gs → (g : Group) → Contains gs g → state_of gs g.id ≡ state_in g.content
state_here [] up g c = absurd (in_none g c)
state_here (h ∷ gs) up g c = step (h.id == g.id) refl (in_cases h gs g c) (state_here gs up.1 g)
  where
    itself : (n : ℕ) → (n == n) ≡ true
    itself n = grind (arith, nat_tests)

    step : (t : Bool) → (h.id == g.id) ≡ t → (h ≡ g) ⊎ Contains gs g → (Contains gs g → state_of gs g.id ≡ state_in g.content) → cond t (state_in h.content) (state_of gs g.id) ≡ state_in g.content
    step true same (inl first) rest = ap (λ (o : Group). state_in o.content) first
    step true same (inr later) rest = let lt = above_first h gs up g later in let e : h.id ≡ g.id = grind (arith, nat_tests) in absurd (omega (arith, lt, e))
    step false same (inl first) rest = let wrong : (h.id == h.id) ≡ false = subst (λ (o : Group). (h.id == o.id) ≡ false) (sym first) same in let right = itself h.id in cc
    step false same (inr later) rest = rest later

pub state_grown : (gs more : List Group) (id : ℕ) → state_of gs id ≡ IsClosed → state_of (gs ++ more) id ≡ IsClosed
state_grown [] more id e = cc
state_grown (g ∷ gs) more id e = step (g.id == id) e (state_grown gs more id)
  where
    step : (t : Bool) → cond t (state_in g.content) (state_of gs id) ≡ IsClosed → (state_of gs id ≡ IsClosed → state_of (gs ++ more) id ≡ IsClosed) → cond t (state_in g.content) (state_of (gs ++ more) id) ≡ IsClosed
    step true e rest = e
    step false e rest = rest e

-- ---- the lowest group that passes

pub record IsLowest (test : Group → Bool) (gs : List Group) (id : ℕ) : Type 0 where
  pub group : Group
  pub there : Contains gs group
  pub passes : test group ≡ true
  pub most : group.id ≤ id
  pub lowest : lowest test gs ≡ Some group.id

pub lowest_at : (test : Group → Bool) (gs : List Group) → AreById gs → (g : Group) → Contains gs g → test g ≡ true → IsLowest test gs g.id
lowest_at test [] up g c is = absurd (in_none g c)
lowest_at test (h ∷ gs) up g c is = step (test h) refl (in_cases h gs g c) (lowest_at test gs up.1 g)
  where
    at_most : (h ≡ g) ⊎ Contains gs g → h.id ≤ g.id
    at_most (inl first) = let e : h.id ≡ g.id = ap (λ (o : Group). o.id) first in omega (arith, e)
    at_most (inr later) = let lt = above_first h gs up g later in omega (arith, lt)

    step : (t : Bool) → test h ≡ t → (h ≡ g) ⊎ Contains gs g → (Contains gs g → test g ≡ true → IsLowest test gs g.id) → IsLowest test (h ∷ gs) g.id
    step true t_is at rest = record { group = h; there = in_head h gs; passes = t_is; most = at_most at; lowest = ap (λ t. option_map (λ (o : Group). o.id) (first_of (cond t (h ∷ filter test gs) (filter test gs)))) t_is }
    step false t_is (inl first) rest = let wrong : test g ≡ false = subst (λ o. test o ≡ false) first t_is in cc
    step false t_is (inr later) rest =
        let found = rest later is in
        record {
          group = found.group;
          there = in_tail h gs found.group found.there;
          passes = found.passes;
          most = found.most;
          lowest = ap (λ t. option_map (λ (o : Group). o.id) (first_of (cond t (h ∷ filter test gs) (filter test gs)))) t_is ∙ found.lowest;
        }
