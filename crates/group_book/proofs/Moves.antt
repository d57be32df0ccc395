-- How movers' events, and a close, move the groups.
use Rattle.std.proofs.Common.{◌≡◌, ◌≢◌, ℕ, ◌<◌, ◌≤◌, ◌+◌, ◌⊎◌, Bool, true, false, cond, List, [], ◌∷◌, ◌++◌, map, filter, not, Some, refl, sym, subst, inl, inr, arith}
use Rattle.std.specs.Prelude.{◌==◌}
use Rattle.std.specs.List.{AllByRecursion, Contains}
use Rattle.std.proofs.lemmas.Bool.Decides.{nat_tests}
use Rattle.std.proofs.lemmas.List.Elements.{recursion_from_All, All-contains, All-contains_itself}
use Rattle.cs_model.specs.declared.work.Actor.{Actor}
use Rattle.cs_model.specs.Changes.{Change}
use Rattle.group_book.specs.Book.{Version, Content, Group, Choice, Claim, Book, total, deleted, is_closed, is_compressed, is_invisible, is_tombstone}
use Rattle.group_book.specs.Book.Content.{Opened, Closed, Compressed, Invisible, Tombstone}
use Rattle.group_book.specs.Book.Choice.{Compress, Flush, Rebuild, Merge, Settle, Clear, Idle}
use Rattle.group_book.specs.Turns.{is_id_of, is_fresh, is_claimed, claim_of, made_of, is_none_left, without_fresh, with_compressed, flushed, settled, closed, after_claim, after_flush_claim, after_install, after_flush, after_release, after_clear, after_settle, after_close}
use Rattle.group_book.specs.Invariant.{AreById, IsClaim, may_be_source}
use Rattle.group_book.specs.States.{State, state_in, state_of, mover_transitions, close_transitions, GroupsMoveBy}
use Rattle.group_book.specs.States.State.{Absent, IsTombstone}
use Rattle.group_book.proofs.Lists.{All-in, all-filter, all-map, every_one, weaker}
use Rattle.group_book.proofs.Steady.{changed}

-- a state stays, or makes one of these transitions
abbrev pub MovesBy : List (State × State) → State → State → Type 0
MovesBy transitions s t = (s ≡ t) ⊎ Contains transitions (s, t)

abbrev Moves : State → State → Type 0
Moves s t = MovesBy mover_transitions s t

-- ---- groups that change, come and go

pub states_changed : (transitions : List (State × State)) (f : Group → Content) (gs : List Group) → AllByRecursion (λ (g : Group). MovesBy transitions (state_in g.content) (state_in (f g))) gs
    → (id : ℕ) → MovesBy transitions (state_of gs id) (state_of (map (changed f) gs) id)
states_changed transitions f [] all id = inl refl
states_changed transitions f (g ∷ gs) all id = step (g.id == id) (states_changed transitions f gs all.1 id)
  where
    step : (t : Bool) → MovesBy transitions (state_of gs id) (state_of (map (changed f) gs) id) → MovesBy transitions (cond t (state_in g.content) (state_of gs id)) (cond t (state_in (f g)) (state_of (map (changed f) gs) id))
    step true rest = all.0
    step false rest = rest

absent_above : (n id : ℕ) (gs : List Group) → AllByRecursion (λ (h : Group). n < h.id) gs → (n == id) ≡ true → state_of gs id ≡ Absent
absent_above n id [] all is = refl
absent_above n id (g ∷ gs) all is = step (g.id == id) refl (absent_above n id gs all.1 is)
  where
    step : (t : Bool) → (g.id == id) ≡ t → state_of gs id ≡ Absent → cond t (state_in g.content) (state_of gs id) ≡ Absent
    step true same rest = let a : n ≡ id = grind (arith, nat_tests) in let b : g.id ≡ id = grind (arith, nat_tests) in let lt = all.0 in absurd (omega (arith, a, b, lt))
    step false same rest = rest

states_filtered : (p : Group → Bool) (gs : List Group) → AreById gs → AllByRecursion (λ (g : Group). p g ≡ false → Moves (state_in g.content) Absent) gs → (id : ℕ) → Moves (state_of gs id) (state_of (filter p gs) id)
states_filtered p [] up all id = inl refl
states_filtered p (g ∷ gs) up all id = step (p g) refl (g.id == id) refl (states_filtered p gs up.1 all.1 id)
  where
    step : (t : Bool) → p g ≡ t → (u : Bool) → (g.id == id) ≡ u → Moves (state_of gs id) (state_of (filter p gs) id) → Moves (cond u (state_in g.content) (state_of gs id)) (state_of (cond t (g ∷ filter p gs) (filter p gs)) id)
    step true is true same rest = rw same (inl refl)
    step true is false same rest = rw same rest
    step false is true same rest = subst (Moves (state_in g.content)) (sym (absent_above g.id id (filter p gs) (all-filter (λ (h : Group). g.id < h.id) (λ (h : Group). g.id < h.id) p gs (λ h lt _. lt) up.0) same)) (all.0 is)
    step false is false same rest = rest

-- some go and the others change
states_both : (p : Group → Bool) (f : Group → Content) (gs : List Group) → AreById gs → AllByRecursion (λ (g : Group). (p g ≡ true → Moves (state_in g.content) (state_in (f g))) × (p g ≡ false → Moves (state_in g.content) Absent)) gs
    → (id : ℕ) → Moves (state_of gs id) (state_of (map (changed f) (filter p gs)) id)
states_both p f [] up all id = inl refl
states_both p f (g ∷ gs) up all id = step (p g) refl (g.id == id) refl (states_both p f gs up.1 all.1 id)
  where
    step : (t : Bool) → p g ≡ t → (u : Bool) → (g.id == id) ≡ u → Moves (state_of gs id) (state_of (map (changed f) (filter p gs)) id) → Moves (cond u (state_in g.content) (state_of gs id)) (state_of (map (changed f) (cond t (g ∷ filter p gs) (filter p gs))) id)
    step true is true same rest = rw same (all.0.0 is)
    step true is false same rest = rw same rest
    step false is true same rest = subst (Moves (state_in g.content)) (sym (absent_above g.id id (map (changed f) (filter p gs))
        (all-map (λ (h : Group). g.id < h.id) (λ (h : Group). g.id < h.id) (changed f) (filter p gs) (λ h lt. lt) (all-filter (λ (h : Group). g.id < h.id) (λ (h : Group). g.id < h.id) p gs (λ h lt _. lt) up.0)) same)) (all.0.1 is)
    step false is false same rest = rest

pub states_grown : (transitions : List (State × State)) (g0 : Group) → MovesBy transitions Absent (state_in g0.content) → (gs : List Group) (id : ℕ) → MovesBy transitions (state_of gs id) (state_of (gs ++ g0 ∷ []) id)
states_grown transitions g0 moves [] id = step (g0.id == id)
  where
    step : (t : Bool) → MovesBy transitions Absent (cond t (state_in g0.content) Absent)
    step true = moves
    step false = inl refl
states_grown transitions g0 moves (g ∷ gs) id = step (g.id == id) (states_grown transitions g0 moves gs id)
  where
    step : (t : Bool) → MovesBy transitions (state_of gs id) (state_of (gs ++ g0 ∷ []) id) → MovesBy transitions (cond t (state_in g.content) (state_of gs id)) (cond t (state_in g.content) (state_of (gs ++ g0 ∷ []) id))
    step true rest = inl refl
    step false rest = rest

-- ---- ids that have no group get none

abbrev pub StaysGone : (before after : List Group) → Type 0
StaysGone before after = (id : ℕ) → state_of before id ≡ Absent → state_of after id ≡ Absent

is_there : (content : Content) → state_in content ≡ Absent → ⊥
is_there (Opened versions) is = cc
is_there (Closed versions) is = cc
is_there (Compressed versions) is = cc
is_there Invisible is = cc
is_there (Tombstone versions ends) is = cc

pub gone_changed : (f : Group → Content) (gs : List Group) → StaysGone gs (map (changed f) gs)
gone_changed f [] id is = refl
gone_changed f (g ∷ gs) id is = step (g.id == id) (gone_changed f gs id) is
  where
    step : (t : Bool) → (state_of gs id ≡ Absent → state_of (map (changed f) gs) id ≡ Absent) → cond t (state_in g.content) (state_of gs id) ≡ Absent → cond t (state_in (f g)) (state_of (map (changed f) gs) id) ≡ Absent
    step true rest is = absurd (is_there g.content is)
    step false rest is = rest is

gone_filtered : (p : Group → Bool) (gs : List Group) → StaysGone gs (filter p gs)
gone_filtered p [] id is = refl
gone_filtered p (g ∷ gs) id is = step (p g) (g.id == id) refl (gone_filtered p gs id) is
  where
    step : (t u : Bool) → (g.id == id) ≡ u → (state_of gs id ≡ Absent → state_of (filter p gs) id ≡ Absent) → cond u (state_in g.content) (state_of gs id) ≡ Absent → state_of (cond t (g ∷ filter p gs) (filter p gs)) id ≡ Absent
    step t true same rest is = absurd (is_there g.content is)
    step true false same rest is = rw same (rest is)
    step false false same rest is = rest is

gone_grown : (g0 : Group) (id : ℕ) → (g0.id == id) ≡ false → (gs : List Group) → state_of gs id ≡ Absent → state_of (gs ++ g0 ∷ []) id ≡ Absent
gone_grown g0 id other [] is = rw other refl
gone_grown g0 id other (g ∷ gs) is = step (g.id == id) (gone_grown g0 id other gs) is
  where
    step : (t : Bool) → (state_of gs id ≡ Absent → state_of (gs ++ g0 ∷ []) id ≡ Absent) → cond t (state_in g.content) (state_of gs id) ≡ Absent → cond t (state_in g.content) (state_of (gs ++ g0 ∷ []) id) ≡ Absent
    step true rest is = is
    step false rest is = rest is

-- ---- what moves the groups

-- the next id is the same
pub moved : (transitions : List (State × State)) (book made : Book) → made.next ≡ book.next → ((id : ℕ) → MovesBy transitions (state_of book.groups id) (state_of made.groups id)) → StaysGone book.groups made.groups
    → GroupsMoveBy transitions book made
moved transitions book made same each gone = record { each = each; next = omega (arith, same); drawn = λ id is there. absurd (there (gone id is)) }

pub itself : (transitions : List (State × State)) (book : Book) → GroupsMoveBy transitions book book
itself transitions book = moved transitions book book refl (λ id. inl refl) (λ id is. is)

-- the one group that is new has the next id
drawn_grown : (n : ℕ) (content : Content) (gs : List Group) (id : ℕ) → state_of gs id ≡ Absent → state_of (gs ++ record { id = n; content = content } ∷ []) id ≢ Absent → (n ≤ id) × (id < n + 1)
drawn_grown n content gs id is there = step (n == id) refl
  where
    step : (t : Bool) → (n == id) ≡ t → (n ≤ id) × (id < n + 1)
    step true same = let is_next : n ≡ id = grind (arith, nat_tests) in (omega (arith, is_next), omega (arith, is_next))
    step false other = absurd (there (gone_grown (record { id = n; content = content }) id other gs is))

-- a group comes under the next id
pub grown : (transitions : List (State × State)) (content : Content) (claims : List Claim) (book : Book) → MovesBy transitions Absent (state_in content)
    → GroupsMoveBy transitions book (record book { groups = book.groups ++ record { id = book.next; content = content } ∷ []; claims = claims; next = book.next + 1 })
grown transitions content claims book moves = record {
  each = states_grown transitions (record { id = book.next; content = content }) moves book.groups;
  next = let le : book.next ≤ book.next + 1 = omega arith in le;
  drawn = drawn_grown book.next content book.groups;
}

-- ---- the events

pub claim_moves : (actor : Actor) (choice : Choice) (sources : List ℕ) (floor : ℕ) (book : Book) → GroupsMoveBy mover_transitions book (after_claim actor choice sources floor book)
claim_moves actor choice sources floor book = grown mover_transitions Invisible (claim_of actor choice sources (Some book.next) floor book ∷ book.claims) book (inr (0, omega arith, refl))

-- a flush makes no group
pub flush_claim_moves : (actor : Actor) (sources : List ℕ) (floor : ℕ) (book : Book) → GroupsMoveBy mover_transitions book (after_flush_claim actor sources floor book)
flush_claim_moves actor sources floor book = moved mover_transitions book (after_flush_claim actor sources floor book) refl (λ id. inl refl) (λ id is. is)

packed_same : (f : List Version → List Version) (content : Content) → state_in content ≡ state_in (with_compressed f content)
packed_same f (Opened versions) = refl
packed_same f (Closed versions) = refl
packed_same f (Compressed versions) = refl
packed_same f Invisible = refl
packed_same f (Tombstone versions ends) = refl

if_packed : (t : Bool) (f : List Version → List Version) (content : Content) → state_in content ≡ state_in (cond t (with_compressed f content) content)
if_packed true f content = packed_same f content
if_packed false f content = refl

unless_packed : (t : Bool) (f : List Version → List Version) (content : Content) → state_in content ≡ state_in (cond t content (with_compressed f content))
unless_packed true f content = refl
unless_packed false f content = packed_same f content

pub settle_moves : (at : ℕ) (book : Book) → GroupsMoveBy mover_transitions book (after_settle at book)
settle_moves at book =
    let made : Group → Content = (λ g. cond (is_claimed book.claims g) g.content (with_compressed (map (settled at)) g.content)) in
    moved mover_transitions book (after_settle at book) refl
    (states_changed mover_transitions made book.groups (every_one _ (λ g. inl (unless_packed (is_claimed book.claims g) (map (settled at)) g.content)) book.groups))
    (gone_changed made book.groups)

pub flush_moves : (claim : Claim) (book : Book) → GroupsMoveBy mover_transitions book (after_flush claim book)
flush_moves claim book =
    let made : Group → Content = (λ g. cond (is_id_of claim.sources g) (with_compressed (map (flushed book.buffer claim.entries)) g.content) g.content) in
    moved mover_transitions book (after_flush claim book) refl
    (states_changed mover_transitions made book.groups (every_one _ (λ g. inl (if_packed (is_id_of claim.sources g) (map (flushed book.buffer claim.entries)) g.content)) book.groups))
    (gone_changed made book.groups)

close_step : (content : Content) → MovesBy close_transitions (state_in content) (state_in (closed content))
close_step (Opened versions) = inr (0, omega arith, refl)
close_step (Closed versions) = inl refl
close_step (Compressed versions) = inl refl
close_step Invisible = inl refl
close_step (Tombstone versions ends) = inl refl

pub close_moves : (book : Book) → GroupsMoveBy close_transitions book (after_close book)
close_moves book =
    let made : Group → Content = (λ g. closed g.content) in
    moved close_transitions book (after_close book) refl (states_changed close_transitions made book.groups (every_one _ (λ g. close_step g.content) book.groups)) (gone_changed made book.groups)

clear_step : (content : Content) → not (is_tombstone content) ≡ false → Moves (state_in content) Absent
clear_step (Opened versions) is = cc
clear_step (Closed versions) is = cc
clear_step (Compressed versions) is = cc
clear_step Invisible is = cc
clear_step (Tombstone versions ends) is = inr (5, omega arith, refl)

pub clear_moves : (book : Book) → AreById book.groups → GroupsMoveBy mover_transitions book (after_clear book)
clear_moves book up =
    let stays : Group → Bool = (λ g. not (is_tombstone g.content)) in
    moved mover_transitions book (after_clear book) refl (states_filtered stays book.groups up (every_one _ (λ g is. clear_step g.content is) book.groups)) (gone_filtered stays book.groups)

-- ---- a claim's end

invisible_moves : (content : Content) → is_invisible content ≡ true → Moves (state_in content) Absent
invisible_moves (Opened versions) is = cc
invisible_moves (Closed versions) is = cc
invisible_moves (Compressed versions) is = cc
invisible_moves Invisible is = inr (2, omega arith, refl)
invisible_moves (Tombstone versions ends) is = cc

shown_moves : (content : Content) (versions : List Version) → is_invisible content ≡ true → Moves (state_in content) (state_in (Compressed versions))
shown_moves (Opened old) versions is = cc
shown_moves (Closed old) versions is = cc
shown_moves (Compressed old) versions is = cc
shown_moves Invisible versions is = inr (1, omega arith, refl)
shown_moves (Tombstone old ends) versions is = cc

closed_moves : (content : Content) → is_closed content ≡ true → Moves (state_in content) IsTombstone
closed_moves (Opened versions) is = cc
closed_moves (Closed versions) is = inr (3, omega arith, refl)
closed_moves (Compressed versions) is = cc
closed_moves Invisible is = cc
closed_moves (Tombstone versions ends) is = cc

packed_moves : (content : Content) → is_compressed content ≡ true → Moves (state_in content) IsTombstone
packed_moves (Opened versions) is = cc
packed_moves (Closed versions) is = cc
packed_moves (Compressed versions) is = inr (4, omega arith, refl)
packed_moves Invisible is = cc
packed_moves (Tombstone versions ends) is = cc

source_moves : (choice : Choice) (content : Content) → may_be_source choice content ≡ true → Moves (state_in content) IsTombstone
source_moves (Compress source) content is = closed_moves content is
source_moves Flush content is = packed_moves content is
source_moves (Rebuild source) content is = packed_moves content is
source_moves (Merge first second) content is = packed_moves content is
source_moves Settle content is = cc
source_moves Clear content is = cc
source_moves Idle content is = cc

not_false : (t : Bool) → not t ≡ false → t ≡ true
not_false true is = refl
not_false false is = cc

module _ (group_rows : ℕ) (book : Book) (cs : List Change) (floor : ℕ) (claim : Claim) (up : AreById book.groups) (c : IsClaim group_rows book cs floor claim) where
  abbrev Named : Group → Type 0
  Named g = (is_id_of claim.sources g ≡ true → may_be_source claim.choice g.content ≡ true) × (is_fresh claim.fresh g ≡ true → is_invisible g.content ≡ true)

  named : AllByRecursion Named book.groups
  named = recursion_from_All Named book.groups (All-in (Contains book.groups) Named book.groups (λ g in_groups _. (
    All-contains (λ (h : Group). is_id_of claim.sources h ≡ true → may_be_source claim.choice h.content ≡ true) book.groups g c.sources in_groups,
    All-contains (λ (h : Group). is_fresh claim.fresh h ≡ true → is_invisible h.content ≡ true) book.groups g c.fresh in_groups,
  )) (All-contains_itself book.groups))

  pub release_moves : GroupsMoveBy mover_transitions book (after_release claim book)
  release_moves = moved mover_transitions book (after_release claim book) refl
      (states_filtered (λ g. not (is_fresh claim.fresh g)) book.groups up (weaker Named (λ (g : Group). not (is_fresh claim.fresh g) ≡ false → Moves (state_in g.content) Absent) book.groups (λ g n is. invisible_moves g.content (n.1 (not_false (is_fresh claim.fresh g) is))) named))
      (gone_filtered (λ g. not (is_fresh claim.fresh g)) book.groups)

  abbrev content_installed : Group → Content
  content_installed g = cond (is_id_of claim.sources g) (Tombstone (total g.content) (deleted g.content)) (cond (is_fresh claim.fresh g) (Compressed (made_of claim)) g.content)

  install_step : (g : Group) → Named g → (s f : Bool) → is_id_of claim.sources g ≡ s → is_fresh claim.fresh g ≡ f → Moves (state_in g.content) (state_in (cond s (Tombstone (total g.content) (deleted g.content)) (cond f (Compressed (made_of claim)) g.content)))
  install_step g n true f s_is f_is = source_moves claim.choice g.content (n.0 s_is)
  install_step g n false true s_is f_is = shown_moves g.content (made_of claim) (n.1 f_is)
  install_step g n false false s_is f_is = inl refl

  installed_moves : (t : Bool) (id : ℕ) → Moves (state_of book.groups id) (state_of (map (changed content_installed) (cond t (without_fresh claim.fresh book.groups) book.groups)) id)
  installed_moves true id = states_both (λ g. not (is_fresh claim.fresh g)) content_installed book.groups up (weaker Named (λ (g : Group). (not (is_fresh claim.fresh g) ≡ true → Moves (state_in g.content) (state_in (content_installed g))) × (not (is_fresh claim.fresh g) ≡ false → Moves (state_in g.content) Absent)) book.groups (λ g n. (
    (λ _. install_step g n (is_id_of claim.sources g) (is_fresh claim.fresh g) refl refl),
    (λ is. invisible_moves g.content (n.1 (not_false (is_fresh claim.fresh g) is))),
  )) named) id
  installed_moves false id = states_changed mover_transitions content_installed book.groups (weaker Named (λ (g : Group). Moves (state_in g.content) (state_in (content_installed g))) book.groups (λ g n. install_step g n (is_id_of claim.sources g) (is_fresh claim.fresh g) refl refl) named) id

  installed_gone : (t : Bool) → StaysGone book.groups (map (changed content_installed) (cond t (without_fresh claim.fresh book.groups) book.groups))
  installed_gone true id is = gone_changed content_installed (without_fresh claim.fresh book.groups) id (gone_filtered (λ g. not (is_fresh claim.fresh g)) book.groups id is)
  installed_gone false id is = gone_changed content_installed book.groups id is

  pub install_moves : GroupsMoveBy mover_transitions book (after_install claim book)
  install_moves = moved mover_transitions book (after_install claim book) refl (installed_moves (is_none_left (made_of claim))) (installed_gone (is_none_left (made_of claim)))
