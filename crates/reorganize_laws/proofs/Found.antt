-- What a REORGANIZE found, from its Start on.
use Rattle.std.proofs.Common.{◌≡◌, ℕ, zero, suc, ◌+◌, ◌<◌, ◌≤◌, inl, inr, Bool, true, false, ◌&&◌, cond, List, [], ◌∷◌, ◌++◌, map, filter, not, Some, None, refl, sym, ap, subst, ◌∙◌, arith}
use Rattle.std.specs.Prelude.{◌==◌, Contains}
use Rattle.std.specs.List.{list_any, flat_map}
use Rattle.std.proofs.lemmas.Bool.Decides.{nat_tests}
use Rattle.std.proofs.lemmas.List.{append-nil, append_assoc}
use Rattle.std.proofs.lemmas.List.Elements.{All-contains, Contains-append_left, Contains-append_right}
use Rattle.std.proofs.lemmas.List.Sorted.{Contains-permutation}
use Rattle.std.proofs.lemmas.Option.{none-some, same_Some}
use Rattle.cs_model.specs.declared.entry.Entry.{Entry}
use Rattle.cs_model.specs.declared.entry.Entry.TheVariants as entry
use Rattle.cs_model.specs.declared.work.Actor.{Actor}
use Rattle.cs_model.specs.declared.work.Actor.TheVariants as actor
use Rattle.cs_model.specs.declared.work.Work.{Work}
use Rattle.cs_model.specs.declared.work.Work.TheVariants as work
use Rattle.cs_model.specs.Changes.{Change}
use Rattle.cs_model.specs.State as model
use Rattle.group_book.specs.Book.{Content, Group, Choice, Claim, Book, how_many, is_closed}
use Rattle.group_book.specs.Book.Content.{Opened, Closed, Compressed, Invisible, Tombstone}
use Rattle.group_book.specs.Book.Choice.{Compress, Flush, Rebuild, Merge, Settle, Clear, Idle}
use Rattle.group_book.specs.Choices.{choice, choice_work, install_work, release_work}
use Rattle.group_book.specs.Commits.{Sizes}
use Rattle.group_book.specs.Invariant.{IsBookOf}
use Rattle.group_book.specs.States.{State, state_in, state_of}
use Rattle.group_book.specs.States.State.{Absent, IsOpen, IsClosed, IsCompressed, IsInvisible, IsTombstone}
use Rattle.group_book.specs.Turns.{same_actor, is_by, first_claim, claim_by, closed}
use Rattle.group_log.specs.Followed.{Ground, Works, Follows}
use Rattle.group_log.specs.Followed.Works.{chosen, out_of_memory, installed, released, closed as closes}
use Rattle.group_log.specs.Reorganizing.{is_in_use, closed_ids, held_groups, is_kept, AreLeft, closed_by, works_of, closed_in, IsReorganizedEntry, AreReorganizedAfter}
use Rattle.group_log.proofs.Since.{IsSince, since_step}
use Rattle.reorganize_laws.proofs.Alike.{same_itself, claim_of_book}
use Rattle.reorganize_laws.proofs.Entries.{works_none, works_hold}
use Rattle.reorganize_laws.proofs.Lists.{in_none, in_head, in_cases, in_filter, in_map, in_any, count_below, count_falls, count_changed}
use Rattle.reorganize_laws.proofs.Moments.{StaysOrEnds, claim_stays, pack_source, state_closed, group_at}
use Rattle.reorganize_laws.proofs.Moments.EndsClaim.{by_install, by_release}
use Rattle.reorganize_laws.proofs.Turns.{is_due, is_due_in, due_count}

-- ---- how many were there

abbrev is_used : State → Bool
is_used Absent = false
is_used IsOpen = true
is_used IsClosed = true
is_used IsCompressed = true
is_used IsInvisible = false
is_used IsTombstone = false

used_shows : (content : Content) → is_in_use content ≡ is_used (state_in content)
used_shows (Opened versions) = refl
used_shows (Closed versions) = refl
used_shows (Compressed versions) = refl
used_shows Invisible = refl
used_shows (Tombstone versions ends) = refl

due_used : (s : State) (taken : Bool) → is_due_in s taken ≡ true → is_used s ≡ true
due_used Absent taken is = cc
due_used IsOpen taken is = refl
due_used IsClosed taken is = refl
due_used IsCompressed taken is = cc
due_used IsInvisible taken is = cc
due_used IsTombstone taken is = cc

none_used : (n : ℕ) → count_below (λ i. is_used (state_of [] i)) n ≤ 0
none_used zero = omega arith
none_used (suc n) = omega (arith, none_used n)

used_count : (gs : List Group) (n : ℕ) → count_below (λ i. is_used (state_of gs i)) n ≤ how_many (λ (g : Group). is_in_use g.content) gs
used_count [] n = none_used n
used_count (g ∷ gs) n =
    let b : Bool = is_used (state_in g.content) in
    let same = count_falls (λ i. is_used (state_of (g ∷ gs) i)) (λ i. cond (g.id == i) b (is_used (state_of gs i))) n (λ i lt is. step i (g.id == i) is) in
    let one = count_changed (λ i. is_used (state_of gs i)) g.id b n in
    let e = ap (λ t. let n : ℕ = cond t 1 0 in n) (used_shows g.content) in
    omega (arith, same, one, e, used_count gs n)
  where
    step : (i : ℕ) (t : Bool) → is_used (cond t (state_in g.content) (state_of gs i)) ≡ true → cond t (is_used (state_in g.content)) (is_used (state_of gs i)) ≡ true
    step i true is = is
    step i false is = is

-- what is due is in use in each book of the same states
pub due_in_use : (session id : ℕ) (start book : Book) → ((i : ℕ) → state_of start.groups i ≡ state_of book.groups i) → due_count session id book ≤ how_many (λ (g : Group). is_in_use g.content) start.groups
due_in_use session id start book same =
    let falls = count_falls (is_due session book) (λ i. is_used (state_of start.groups i)) (id + 1) (λ i lt is. ap is_used (same i) ∙ due_used (state_of book.groups i) _ is) in
    omega (arith, falls, used_count start.groups (id + 1))

-- an id that has a group had been drawn
pub drawn_id : (group_rows : ℕ) (book : Book) (changes : List Change) (floor id : ℕ) (s : State) → IsBookOf group_rows book changes floor → state_of book.groups id ≡ s → (s ≡ Absent → ⊥) → id < book.next
drawn_id group_rows book changes floor id s j e some =
    let found = group_at book.groups id s e some in
    let lt = All-contains (λ (g : Group). g.id < book.next) book.groups found.0 j.groups.below found.1 in
    let same = found.2 in
    omega (arith, lt, same)

-- ---- its close

closed_never : (gs : List Group) (id : ℕ) → state_of (map (λ (g : Group). record g { content = closed g.content }) gs) id ≡ IsOpen → ⊥
closed_never [] id is = cc
closed_never (g ∷ gs) id is = step (g.id == id) is (closed_never gs id)
  where
    shut : (content : Content) → state_in (closed content) ≡ IsOpen → ⊥
    shut (Opened versions) is = cc
    shut (Closed versions) is = cc
    shut (Compressed versions) is = cc
    shut Invisible is = cc
    shut (Tombstone versions ends) is = cc

    step : (t : Bool) → cond t (state_in (closed g.content)) (state_of (map (λ (h : Group). record h { content = closed h.content }) gs) id) ≡ IsOpen
        → (state_of (map (λ (h : Group). record h { content = closed h.content }) gs) id ≡ IsOpen → ⊥) → ⊥
    step true is rest = shut g.content is
    step false is rest = rest is

chosen_no_close : (turn : Choice) (at : ℕ) (book : Book) (w : Work) → choice_work turn at book ≡ Some w → closed_by w ≡ []
chosen_no_close (Compress source) at book w is = subst (λ w. closed_by w ≡ []) (same_Some _ w is) refl
chosen_no_close Flush at book w is = subst (λ w. closed_by w ≡ []) (same_Some _ w is) refl
chosen_no_close (Rebuild source) at book w is = subst (λ w. closed_by w ≡ []) (same_Some _ w is) refl
chosen_no_close (Merge first second) at book w is = subst (λ w. closed_by w ≡ []) (same_Some _ w is) refl
chosen_no_close Settle at book w is = subst (λ w. closed_by w ≡ []) (same_Some _ w is) refl
chosen_no_close Clear at book w is = subst (λ w. closed_by w ≡ []) (same_Some _ w is) refl
chosen_no_close Idle at book w is = absurd (none-some w is)

install_no_close : (choice : Choice) (claim : Claim) (w : Work) → install_work choice claim ≡ Some w → closed_by w ≡ []
install_no_close (Compress source) claim w is = subst (λ w. closed_by w ≡ []) (same_Some _ w is) refl
install_no_close Flush claim w is = subst (λ w. closed_by w ≡ []) (same_Some _ w is) refl
install_no_close (Rebuild source) claim w is = subst (λ w. closed_by w ≡ []) (same_Some _ w is) refl
install_no_close (Merge first second) claim w is = subst (λ w. closed_by w ≡ []) (same_Some _ w is) refl
install_no_close Settle claim w is = absurd (none-some w is)
install_no_close Clear claim w is = absurd (none-some w is)
install_no_close Idle claim w is = absurd (none-some w is)

release_no_close : (choice : Choice) (claim : Claim) (w : Work) → release_work choice claim ≡ Some w → closed_by w ≡ []
release_no_close (Compress source) claim w is = subst (λ w. closed_by w ≡ []) (same_Some _ w is) refl
release_no_close Flush claim w is = subst (λ w. closed_by w ≡ []) (same_Some _ w is) refl
release_no_close (Rebuild source) claim w is = subst (λ w. closed_by w ≡ []) (same_Some _ w is) refl
release_no_close (Merge first second) claim w is = subst (λ w. closed_by w ≡ []) (same_Some _ w is) refl
release_no_close Settle claim w is = absurd (none-some w is)
release_no_close Clear claim w is = absurd (none-some w is)
release_no_close Idle claim w is = absurd (none-some w is)

no_close : (w : Work) (id : ℕ) → closed_by w ≡ [] → closed_by w ≡ id ∷ [] → ⊥
no_close w id none one = let wrong : [] ≡ id ∷ [] = sym none ∙ one in cc

-- no store is open after a close
pub close_is : (sizes : Sizes) (at : ℕ) (by : Actor) (book : Book) (w : Work) (made : Book) (id : ℕ) → closed_by w ≡ id ∷ [] → Works sizes at by book w made → (i : ℕ) → state_of made.groups i ≡ IsOpen → ⊥
close_is sizes at by book w made id one (chosen none is) i opened = no_close w id (chosen_no_close (choice at sizes.group_rows by book) at book w is) one
close_is sizes at by book w made id one (out_of_memory none is) i opened = no_close work.Memory id refl one
close_is sizes at by book w made id one (installed claim holds is moved) i opened = no_close w id (install_no_close claim.choice claim w is) one
close_is sizes at by book w made id one (released claim holds is) i opened = no_close w id (release_no_close claim.choice claim w is) one
close_is sizes at by book w made id one (closes session none is) i opened = closed_never book.groups i opened

-- ---- what is said of an entry in a log

pub entry_is : (origin : Ground) (front xs : List Entry) (e : Entry) (ys : List Entry) → AreReorganizedAfter origin front (xs ++ e ∷ ys) → IsReorganizedEntry origin (front ++ xs) e
entry_is origin front [] e ys all = subst (λ l. IsReorganizedEntry origin l e) (sym (append-nil front)) all.0
entry_is origin front (x ∷ xs) e ys all = subst (λ l. IsReorganizedEntry origin l e) (append_assoc front (x ∷ []) xs) (entry_is origin (front ++ x ∷ []) xs e ys all.1)

-- ---- the session's own claim

-- without an entry of the session its claim stays
pub own_stays : (origin : Ground) → 1 ≤ origin.sizes.group_rows → 1 ≤ origin.sizes.direct_rows → (session : ℕ) (es : List Entry) (m after : model.State) (book made : Book) → IsSince origin.begin origin.sizes.group_rows m book
    → Follows origin m book es after made → works_of session es ≡ [] → (claim : Claim) → Contains book.claims claim → claim.actor ≡ actor.Session session → Contains made.claims claim
own_stays origin room some session [] m after book made since x none claim c own = subst (λ (b : Book). Contains b.claims claim) (sym x.1) c
own_stays origin room some session (e ∷ es) m after book made since x none claim c own =
    at (claim_stays origin m x.0 e book x.1 m.changes since.floor since.stands x.3 claim c)
    (λ stays. own_stays origin room some session es x.0 after x.1 made (since_step origin m x.0 e book x.1 room some since x.2 x.3) x.4 (works_none session (e ∷ []) es none).1 claim stays own)
  where
    no_work : (w : Work) → e ≡ entry.Mover claim.actor w → ⊥
    no_work w e_is = in_none w (subst (λ l. Contains l w) (works_none session (e ∷ []) es none).0 (works_hold session (e ∷ []) w (subst (Contains (e ∷ [])) (e_is ∙ ap (λ a. entry.Mover a w) own) (in_head e []))))

    at : StaysOrEnds e claim book x.1 → (Contains x.1.claims claim → Contains made.claims claim) → Contains made.claims claim
    at (inl stays) rest = rest stays
    at (inr (by_install {w = w} e_is w_is moved)) rest = absurd (no_work w e_is)
    at (inr (by_release {w = w} e_is w_is)) rest = absurd (no_work w e_is)

first_none : (claims : List Claim) (claim : Claim) → Contains claims claim → first_claim claims ≡ None → ⊥
first_none [] claim c none = in_none claim c
first_none (x ∷ xs) claim c none = none-some x (sym none)

pub holds_none : (by : Actor) (book : Book) (claim : Claim) → claim_by by book ≡ None → Contains book.claims claim → claim.actor ≡ by → ⊥
holds_none by book claim none c own = first_none (filter (is_by by) book.claims) claim (in_filter (is_by by) book.claims claim c (ap (λ a. same_actor a by) own ∙ same_itself by)) none

-- ---- what it tells

in_flat : {X Y : Type 0} (f : X → List Y) (xs : List X) (x : X) (y : Y) → Contains xs x → Contains (f x) y → Contains (flat_map f xs) y
in_flat f [] x y c d = absurd (in_none x c)
in_flat f (z ∷ xs) x y c d = elim (in_cases z xs x c) [
  | inl first ↦ Contains-append_left (f z) (flat_map f xs) y (subst (λ o. Contains (f o) y) (sym first) d)
  | inr later ↦ Contains-append_right (f z) (flat_map f xs) y (in_flat f xs x y later d)
]

pub found_closed : (start : Book) (id : ℕ) → state_of start.groups id ≡ IsClosed → Contains (closed_ids start) id
found_closed start id is =
    let found = group_at start.groups id IsClosed is (λ e. cc) in
    subst (Contains (closed_ids start)) found.2
    (in_map (λ (g : Group). g.id) (filter (λ (g : Group). is_closed g.content) start.groups) found.0 (in_filter (λ (g : Group). is_closed g.content) start.groups found.0 found.1 (state_closed found.0.content found.3)))

pub found_by_close : (works : List Work) (id : ℕ) → Contains works (work.Close id) → Contains (closed_in works) id
found_by_close works id c = in_flat closed_by works (work.Close id) id c (in_head id [])

pub told : (group_rows : ℕ) (book : Book) (changes : List Change) (floor id : ℕ) (marked : List ℕ) (by : Actor) (left : List (ℕ × Actor)) → IsBookOf group_rows book changes floor → AreLeft marked by book left
    → Contains marked id → (claim : Claim) → Contains book.claims claim → claim.choice ≡ Compress id → same_actor claim.actor by ≡ false → Contains left (id, claim.actor)
told group_rows book changes floor id marked by left j are is_marked claim c e other =
    let sources = pack_source group_rows book changes floor id claim (claim_of_book group_rows book changes floor claim c j) e in
    let source : Contains claim.sources id = subst (λ l. Contains l id) (sym sources) (in_head id []) in
    let held : Contains (held_groups book) (id, claim.actor) =
    in_flat (λ (o : Claim). map (λ s. (s, o.actor)) o.sources) book.claims claim (id, claim.actor) c (in_map (λ s. (s, claim.actor)) claim.sources id source) in
    let listed : list_any (λ i. i == id) marked ≡ true = in_any (λ i. i == id) marked id is_marked itself in
    Contains-permutation (filter (is_kept marked by) (held_groups book)) left (id, claim.actor) are.are
    (in_filter (is_kept marked by) (held_groups book) (id, claim.actor) held (ap (λ t. t && not (same_actor claim.actor by)) listed ∙ ap not other))
  where
    itself : (id == id) ≡ true
    itself = grind (arith, nat_tests)
