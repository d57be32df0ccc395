-- A turn of the session takes one of the closed stores that were there, and what others do adds none.
use Rattle.std.proofs.Common.{◌≡◌, ℕ, ◌+◌, ◌<◌, ◌≤◌, ◌^◌, ◌⊎◌, inl, inr, Bool, true, false, ◌||◌, ◌&&◌, cond, leb, List, [], ◌∷◌, not, Option, Some, refl, sym, ap, subst, ◌∙◌, arith}
use Rattle.std.specs.Prelude.{◌==◌, Contains}
use Rattle.std.specs.List.{list_any}
use Rattle.std.specs.Option.{option_map}
use Rattle.std.proofs.lemmas.Bool.Decides.{nat_tests}
use Rattle.std.proofs.lemmas.List.Elements.{All-contains}
use Rattle.std.proofs.lemmas.Option.{none-some, same_Some}
use Rattle.cs_model.specs.declared.entry.Entry.{Entry}
use Rattle.cs_model.specs.declared.entry.Entry.TheVariants as entry
use Rattle.cs_model.specs.declared.work.Actor.{Actor}
use Rattle.cs_model.specs.declared.work.Actor.TheVariants as actor
use Rattle.cs_model.specs.declared.work.Work.{Work}
use Rattle.cs_model.specs.Changes.{Change}
use Rattle.cs_model.specs.State as model
use Rattle.group_book.specs.Book.{Content, Group, Choice, Claim, Book, is_closed}
use Rattle.group_book.specs.Book.Content.{Opened, Closed, Compressed, Invisible, Tombstone}
use Rattle.group_book.specs.Book.Choice.{Compress, Flush, Rebuild, Merge, Settle, Clear, Idle}
use Rattle.group_book.specs.Choices.{free, lowest, choices, first_some, allowed, choice, after_choice, install_work, release_work}
use Rattle.group_book.specs.Commits.{Sizes}
use Rattle.group_book.specs.Invariant.{may_be_source, IsBookOf}
use Rattle.group_book.specs.States.{State, state_of, GroupsMoveBy}
use Rattle.group_book.specs.States.State.{Absent, IsOpen, IsClosed, IsCompressed, IsInvisible, IsTombstone}
use Rattle.group_book.specs.Turns.{is_id_of, is_claimed, same_actor, after_claim}
use Rattle.group_book.proofs.Sized.{by_id_filter}
use Rattle.group_log.specs.Followed.{Ground, Works, IsBookStep}
use Rattle.group_log.specs.Followed.Works.{chosen, out_of_memory, installed, released, closed as closes}
use Rattle.group_log.specs.Moves.{transitions_of}
use Rattle.group_log.specs.Reorganizing.{begins_turn, works_of, begun_turns}
use Rattle.cs_model.specs.Works.{lacks_memory}
use Rattle.reorganize_laws.proofs.Alike.{one_actor, claim_of_book}
use Rattle.reorganize_laws.proofs.Entries.{works_one, works_hold}
use Rattle.reorganize_laws.proofs.Lists.{in_head, in_filter, from_filter, any_in, in_any, count_below, count_falls, count_drops}
use Rattle.reorganize_laws.proofs.Moments.{StaysOrEnds, claim_stays, WasBefore, was_before, packs_of, pack_is, is_pack, pack_source, packed_gone, closed_state, state_closed, group_at, state_here, state_grown, IsLowest, lowest_at}
use Rattle.reorganize_laws.proofs.Moments.EndsClaim.{by_install, by_release}

-- ---- what may still be taken

abbrev pub is_open_state : State → Bool
is_open_state Absent = false
is_open_state IsOpen = true
is_open_state IsClosed = false
is_open_state IsCompressed = false
is_open_state IsInvisible = false
is_open_state IsTombstone = false

abbrev pub is_closed_state : State → Bool
is_closed_state Absent = false
is_closed_state IsOpen = false
is_closed_state IsClosed = true
is_closed_state IsCompressed = false
is_closed_state IsInvisible = false
is_closed_state IsTombstone = false

-- the session has claimed the closed store
abbrev pub takes_it : ℕ → ℕ → Claim → Bool
takes_it session id claim = (same_actor claim.actor (actor.Session session)) && packs_of id claim

-- the group is the open store, or a closed one that the session has not claimed
abbrev pub is_due_in : State → Bool → Bool
is_due_in s taken = is_open_state s || (is_closed_state s && not taken)

abbrev pub is_due : ℕ → Book → ℕ → Bool
is_due session book id = is_due_in (state_of book.groups id) (list_any (takes_it session id) book.claims)

open_is : (s : State) → is_open_state s ≡ true → s ≡ IsOpen
open_is Absent is = cc
open_is IsOpen is = refl
open_is IsClosed is = cc
open_is IsCompressed is = cc
open_is IsInvisible is = cc
open_is IsTombstone is = cc

closed_is : (s : State) → is_closed_state s ≡ true → s ≡ IsClosed
closed_is Absent is = cc
closed_is IsOpen is = cc
closed_is IsClosed is = refl
closed_is IsCompressed is = cc
closed_is IsInvisible is = cc
closed_is IsTombstone is = cc

-- what is due is open, or closed and not taken
due_is : (s : State) (taken : Bool) → is_due_in s taken ≡ true → (s ≡ IsOpen) ⊎ ((s ≡ IsClosed) × (taken ≡ false))
due_is Absent taken is = cc
due_is IsOpen taken is = inl refl
due_is IsClosed true is = cc
due_is IsClosed false is = inr (refl, refl)
due_is IsCompressed taken is = cc
due_is IsInvisible taken is = cc
due_is IsTombstone taken is = cc

open_due : (s : State) (taken : Bool) → s ≡ IsOpen → is_due_in s taken ≡ true
open_due s taken e = ap (λ x. is_due_in x taken) e

closed_due : (s : State) (taken : Bool) → s ≡ IsClosed → taken ≡ false → is_due_in s taken ≡ true
closed_due s taken e f = ap (λ x. is_due_in x taken) e ∙ ap not f

taken_undue : (s : State) (taken : Bool) → s ≡ IsClosed → taken ≡ true → is_due_in s taken ≡ false
taken_undue s taken e f = ap (λ x. is_due_in x taken) e ∙ ap not f

abbrev rest_of : List (Option Choice) → List (Option Choice)
rest_of [] = []
rest_of (x ∷ xs) = xs

both_true : (a b : Bool) → (a && b) ≡ true → (a ≡ true) × (b ≡ true)
both_true true b h = (refl, h)
both_true false b h = cc

-- ---- kinds of works

release_short : (choice : Choice) (claim : Claim) (w : Work) → release_work choice claim ≡ Some w → lacks_memory w ≡ true
release_short (Compress source) claim w is = subst (λ w. lacks_memory w ≡ true) (same_Some _ w is) refl
release_short Flush claim w is = subst (λ w. lacks_memory w ≡ true) (same_Some _ w is) refl
release_short (Rebuild source) claim w is = subst (λ w. lacks_memory w ≡ true) (same_Some _ w is) refl
release_short (Merge first second) claim w is = subst (λ w. lacks_memory w ≡ true) (same_Some _ w is) refl
release_short Settle claim w is = absurd (none-some w is)
release_short Clear claim w is = absurd (none-some w is)
release_short Idle claim w is = absurd (none-some w is)

install_ends : (choice : Choice) (claim : Claim) (w : Work) → install_work choice claim ≡ Some w → begins_turn w ≡ false
install_ends (Compress source) claim w is = subst (λ w. begins_turn w ≡ false) (same_Some _ w is) refl
install_ends Flush claim w is = subst (λ w. begins_turn w ≡ false) (same_Some _ w is) refl
install_ends (Rebuild source) claim w is = subst (λ w. begins_turn w ≡ false) (same_Some _ w is) refl
install_ends (Merge first second) claim w is = subst (λ w. begins_turn w ≡ false) (same_Some _ w is) refl
install_ends Settle claim w is = absurd (none-some w is)
install_ends Clear claim w is = absurd (none-some w is)
install_ends Idle claim w is = absurd (none-some w is)

-- ---- an entry adds nothing to what is due

module _ (origin : Ground) (m after : model.State) (e : Entry) (book made : Book) (changes : List Change) (floor session : ℕ) (j : IsBookOf origin.sizes.group_rows book changes floor)
    (step : IsBookStep origin m book e after made) (moves : GroupsMoveBy (transitions_of e) book made) (well : list_any lacks_memory (works_of session (e ∷ [])) ≡ false) where
  -- a claim of the session does not end while its group is a closed store
  taken_stays : (id : ℕ) → state_of made.groups id ≡ IsClosed → list_any (takes_it session id) made.claims ≡ false → list_any (takes_it session id) book.claims ≡ false
  taken_stays id is none = at (list_any (takes_it session id) book.claims) refl
    where
      ended : (claim : Claim) → Contains book.claims claim → ((same_actor claim.actor (actor.Session session)) ≡ true) × (packs_of id claim ≡ true) → StaysOrEnds e claim book made → ⊥
      ended claim c parts (inl stays) =
          let taken : list_any (takes_it session id) made.claims ≡ true = in_any (takes_it session id) made.claims claim stays (ap (λ t. t && packs_of id claim) parts.0 ∙ parts.1) in cc
      ended claim c parts (inr (by_install entry_is work_is moved)) = packed_gone origin.sizes.group_rows book made changes floor id claim (claim_of_book origin.sizes.group_rows book changes floor claim c j) (pack_is id claim.choice parts.1) moved is
      ended claim c parts (inr (by_release {w = w} entry_is work_is)) =
          let own = one_actor claim.actor (actor.Session session) parts.0 in
          let stands : Contains (works_of session (e ∷ [])) w = works_hold session (e ∷ []) w (subst (λ x. Contains (e ∷ []) x) (entry_is ∙ ap (λ a. entry.Mover a w) own) (in_head e [])) in
          let wrong : list_any lacks_memory (works_of session (e ∷ [])) ≡ true = in_any lacks_memory (works_of session (e ∷ [])) w stands (release_short claim.choice claim w work_is) in cc

      at : (t : Bool) → list_any (takes_it session id) book.claims ≡ t → t ≡ false
      at false t_is = refl
      at true t_is =
          let found = any_in (takes_it session id) book.claims t_is in
          absurd (ended found.0 found.1 (both_true (same_actor found.0.actor (actor.Session session)) (packs_of id found.0) found.2) (claim_stays origin m after e book made changes floor j step found.0 found.1))

  pub due_before : (id : ℕ) → id < book.next → is_due session made id ≡ true → is_due session book id ≡ true
  due_before id lt is = at (due_is (state_of made.groups id) (list_any (takes_it session id) made.claims) is)
    where
      was : WasBefore book made id
      was = was_before e book made moves id lt

      at : (state_of made.groups id ≡ IsOpen) ⊎ ((state_of made.groups id ≡ IsClosed) × (list_any (takes_it session id) made.claims ≡ false)) → is_due session book id ≡ true
      at (inl opened) = open_due (state_of book.groups id) (list_any (takes_it session id) book.claims) (was.opened opened)
      at (inr shut) = elim (was.closed shut.0) [
        | inl closed ↦ closed_due (state_of book.groups id) (list_any (takes_it session id) book.claims) closed (taken_stays id shut.0 shut.1)
        | inr opened ↦ open_due (state_of book.groups id) (list_any (takes_it session id) book.claims) opened
      ]

-- ---- a turn takes one

module _ (group_rows : ℕ) (book : Book) (changes : List Change) (floor : ℕ) (j : IsBookOf group_rows book changes floor) where
  may_is : (choice : Choice) (content : Content) → is_closed content ≡ true → may_be_source choice content ≡ true → (source : ℕ) × (choice ≡ Compress source)
  may_is (Compress source) content is may = (source, refl)
  may_is Flush (Opened versions) is may = cc
  may_is Flush (Closed versions) is may = cc
  may_is Flush (Compressed versions) is may = cc
  may_is Flush Invisible is may = cc
  may_is Flush (Tombstone versions ends) is may = cc
  may_is (Rebuild source) (Opened versions) is may = cc
  may_is (Rebuild source) (Closed versions) is may = cc
  may_is (Rebuild source) (Compressed versions) is may = cc
  may_is (Rebuild source) Invisible is may = cc
  may_is (Rebuild source) (Tombstone versions ends) is may = cc
  may_is (Merge first second) (Opened versions) is may = cc
  may_is (Merge first second) (Closed versions) is may = cc
  may_is (Merge first second) (Compressed versions) is may = cc
  may_is (Merge first second) Invisible is may = cc
  may_is (Merge first second) (Tombstone versions ends) is may = cc
  may_is Settle content is may = cc
  may_is Clear content is may = cc
  may_is Idle content is may = cc

  one_source : (source : ℕ) (g : Group) → is_id_of (source ∷ []) g ≡ true → (source == g.id) ≡ true
  one_source source g is = step (source == g.id) is
    where
      step : (t : Bool) → (t || false) ≡ true → t ≡ true
      step true is = refl
      step false is = cc

  -- a closed store that is claimed is so by a claim of compress
  pub claimed_packs : (g : Group) → Contains book.groups g → is_closed g.content ≡ true → is_claimed book.claims g ≡ true → (claim : Claim) × Contains book.claims claim × (claim.choice ≡ Compress g.id)
  claimed_packs g in_groups is claimed =
      let found = any_in (λ (claim : Claim). is_id_of claim.sources g) book.claims claimed in
      let claim : Claim = found.0 in
      let c = claim_of_book group_rows book changes floor claim found.1 j in
      let may : may_be_source claim.choice g.content ≡ true = All-contains (λ (h : Group). is_id_of claim.sources h ≡ true → may_be_source claim.choice h.content ≡ true) book.groups g c.sources in_groups found.2 in
      let kind = may_is claim.choice g.content is may in
      let one : is_id_of (kind.0 ∷ []) g ≡ true = subst (λ l. is_id_of l g ≡ true) (pack_source group_rows book changes floor kind.0 claim c kind.1) found.2 in
      let same : (kind.0 == g.id) ≡ true = one_source kind.0 g one in
      let e : kind.0 ≡ g.id = grind (arith, nat_tests) in
      (claim, found.1, kind.1 ∙ ap Compress e)

  -- and the other way round
  pub packs_claimed : (g : Group) (claim : Claim) → Contains book.claims claim → claim.choice ≡ Compress g.id → is_claimed book.claims g ≡ true
  packs_claimed g claim c e =
      let sources = pack_source group_rows book changes floor g.id claim (claim_of_book group_rows book changes floor claim c j) e in
      in_any (λ (x : Claim). is_id_of x.sources g) book.claims claim c (subst (λ l. is_id_of l g ≡ true) (sym sources) (ap (λ t. t || false) itself))
    where
      itself : (g.id == g.id) ≡ true
      itself = grind (arith, nat_tests)

  -- the lowest closed store that no claim has, where this one is one of those
  pub lowest_free : (g : Group) → Contains book.groups g → is_closed g.content ≡ true → is_claimed book.claims g ≡ false → IsLowest (λ (h : Group). is_closed h.content) (free book) g.id
  lowest_free g in_groups is unclaimed = lowest_at (λ (h : Group). is_closed h.content) (free book) (by_id_filter (λ h. not (is_claimed book.claims h)) book.groups j.groups.by_id) g
      (in_filter (λ h. not (is_claimed book.claims h)) book.groups g in_groups (ap not unclaimed)) is

  -- then the turn's choice is to compress that
  pub choice_is : (at : ℕ) (by : Actor) (source : ℕ) → book.next ≤ 2 ^ 62 → lowest (λ (h : Group). is_closed h.content) (free book) ≡ Some source → choice at group_rows by book ≡ Compress source
  choice_is at by source le e =
      let within : leb book.next (2 ^ 62) ≡ true = grind (arith, nat_tests) in
      ap (λ o. allowed book.next by (first_some (option_map Compress o ∷ rest_of (choices at group_rows book)))) e ∙ ap (λ t. cond t (Compress source) Idle) within

-- what a turn takes: a group at most the given one that was due and is so no more
pub record Takes (session id : ℕ) (book made : Book) : Type 0 where
  pub source : ℕ
  pub most : source ≤ id
  pub was : is_due session book source ≡ true
  pub now : is_due session made source ≡ false

module _ (sizes : Sizes) (at : ℕ) (by : Actor) (book : Book) (changes : List Change) (floor session id : ℕ) (j : IsBookOf sizes.group_rows book changes floor) (own : (same_actor by (actor.Session session)) ≡ true)
    (shut : state_of book.groups id ≡ IsClosed) (unheld : list_any (packs_of id) book.claims ≡ false) (room : book.next ≤ 2 ^ 62) where
  -- no claim has the group
  unclaimed : (g : Group) → Contains book.groups g → g.id ≡ id → is_closed g.content ≡ true → (t : Bool) → is_claimed book.claims g ≡ t → t ≡ false
  unclaimed g c same is false t_is = refl
  unclaimed g c same is true t_is =
      let held = claimed_packs sizes.group_rows book changes floor j g c is t_is in
      let wrong : list_any (packs_of id) book.claims ≡ true = in_any (packs_of id) book.claims held.0 held.1 (is_pack id held.0.choice (held.2 ∙ ap Compress same)) in cc

  -- a store that no claim has the session has not taken
  untaken : (g : Group) → Contains book.groups g → is_claimed book.claims g ≡ false → (t : Bool) → list_any (takes_it session g.id) book.claims ≡ t → t ≡ false
  untaken g c none false t_is = refl
  untaken g c none true t_is =
      let found = any_in (takes_it session g.id) book.claims t_is in
      let parts = both_true (same_actor found.0.actor (actor.Session session)) (packs_of g.id found.0) found.2 in
      let wrong : is_claimed book.claims g ≡ true = packs_claimed sizes.group_rows book changes floor j g found.0 found.1 (pack_is g.id found.0.choice parts.1) in cc

  not_true : (t : Bool) → not t ≡ true → t ≡ false
  not_true true is = cc
  not_true false is = refl

  compresses : IsLowest (λ (h : Group). is_closed h.content) (free book) id → Takes session id book (after_choice (choice at sizes.group_rows by book) at by book)
  compresses low =
      let g : Group = low.group in
      let kept = from_filter (λ h. not (is_claimed book.claims h)) book.groups g low.there in
      let free_so : is_claimed book.claims g ≡ false = not_true (is_claimed book.claims g) kept.1 in
      let shut_so : state_of book.groups g.id ≡ IsClosed = state_here book.groups j.groups.by_id g kept.0 ∙ closed_state g.content low.passes in
      let made_so : after_choice (choice at sizes.group_rows by book) at by book ≡ after_claim by (Compress g.id) (g.id ∷ []) at book = ap (λ c. after_choice c at by book) (choice_is sizes.group_rows book changes floor j at by g.id room low.lowest) in
      let claimed_so : Book = after_claim by (Compress g.id) (g.id ∷ []) at book in
      record {
        source = g.id;
        most = low.most;
        was = closed_due (state_of book.groups g.id) (list_any (takes_it session g.id) book.claims) shut_so (untaken g kept.0 free_so (list_any (takes_it session g.id) book.claims) refl);
        now = subst (λ (b : Book). is_due session b g.id ≡ false) (sym made_so)
            (taken_undue (state_of claimed_so.groups g.id) (list_any (takes_it session g.id) claimed_so.claims) (state_grown book.groups _ g.id shut_so) (ap (λ t. (t && (g.id == g.id)) || list_any (takes_it session g.id) book.claims) own ∙ ap (λ t. t || list_any (takes_it session g.id) book.claims) (itself g.id)));
      }
    where
      itself : (n : ℕ) → (n == n) ≡ true
      itself n = grind (arith, nat_tests)

  found_low : IsLowest (λ (h : Group). is_closed h.content) (free book) id
  found_low =
      let found = group_at book.groups id IsClosed shut (λ e. cc) in
      let is : is_closed found.0.content ≡ true = state_closed found.0.content found.3 in
      subst (IsLowest (λ (h : Group). is_closed h.content) (free book)) found.2 (lowest_free sizes.group_rows book changes floor j found.0 found.1 is (unclaimed found.0 found.1 found.2 is (is_claimed book.claims found.0) refl))

  pub turn_takes : (w : Work) (made : Book) → begins_turn w ≡ true → lacks_memory w ≡ false → Works sizes at by book w made → Takes session id book made
  turn_takes w made begins well (chosen none is) = compresses found_low
  turn_takes w made begins well (out_of_memory none is) = cc
  turn_takes w made begins well (installed claim holds is moved) = let wrong = install_ends claim.choice claim w is in cc
  turn_takes w made begins well (released claim holds is) = let wrong = release_short claim.choice claim w is in cc
  turn_takes w made begins well (closes session none is) = cc

-- ---- an entry, and what is due of the groups up to one

abbrev pub due_count : ℕ → ℕ → Book → ℕ
due_count session id book = count_below (is_due session book) (id + 1)

module _ (origin : Ground) (m after : model.State) (e : Entry) (book made : Book) (changes : List Change) (floor session id : ℕ) (j : IsBookOf origin.sizes.group_rows book changes floor)
    (step : IsBookStep origin m book e after made) (moves : GroupsMoveBy (transitions_of e) book made) (well : list_any lacks_memory (works_of session (e ∷ [])) ≡ false) (lt : id < book.next) where
  stays_due : (i : ℕ) → i < id + 1 → is_due session made i ≡ true → is_due session book i ≡ true
  stays_due i less is = due_before origin m after e book made changes floor session j step moves well i (omega (arith, less, lt)) is

  -- what is due does not grow
  pub due_falls : due_count session id made ≤ due_count session id book
  due_falls = count_falls (is_due session made) (is_due session book) (id + 1) stays_due

-- and a turn of the session takes one away, where the group is a closed store that no claim has
pub due_drops : (origin : Ground) (m after : model.State) (e : Entry) (book made : Book) (changes : List Change) (floor session id : ℕ) → IsBookOf origin.sizes.group_rows book changes floor
    → IsBookStep origin m book e after made → GroupsMoveBy (transitions_of e) book made → list_any lacks_memory (works_of session (e ∷ [])) ≡ false → id < book.next
    → state_of book.groups id ≡ IsClosed → list_any (packs_of id) book.claims ≡ false → book.next ≤ 2 ^ 62 → due_count session id made + begun_turns (works_of session (e ∷ [])) ≤ due_count session id book
due_drops origin m after (entry.Start s b short) book made changes floor session id j step moves well lt shut unheld room =
    omega (arith, due_falls origin m after (entry.Start s b short) book made changes floor session id j step moves well lt)
due_drops origin m after (entry.Finish s r) book made changes floor session id j step moves well lt shut unheld room =
    omega (arith, due_falls origin m after (entry.Finish s r) book made changes floor session id j step moves well lt)
due_drops origin m after (entry.End s) book made changes floor session id j step moves well lt shut unheld room =
    omega (arith, due_falls origin m after (entry.End s) book made changes floor session id j step moves well lt)
due_drops origin m after (entry.Mover by w) book made changes floor session id j step moves well lt shut unheld room = at (same_actor by (actor.Session session)) refl (begins_turn w) refl
  where
    fewer : due_count session id made ≤ due_count session id book
    fewer = due_falls origin m after (entry.Mover by w) book made changes floor session id j step moves well lt

    at : (t : Bool) → (same_actor by (actor.Session session)) ≡ t → (u : Bool) → begins_turn w ≡ u → due_count session id made + begun_turns (works_of session (entry.Mover by w ∷ [])) ≤ due_count session id book
    at false other u u_is = let none = ap begun_turns (works_one session by w false other) in omega (arith, fewer, none)
    at true own false u_is =
        let none : begun_turns (works_of session (entry.Mover by w ∷ [])) ≡ 0 = ap begun_turns (works_one session by w true own) ∙ ap (λ u. cond u 1 0 + 0) u_is in
        omega (arith, fewer, none)
    at true own true u_is =
        let one : begun_turns (works_of session (entry.Mover by w ∷ [])) ≡ 1 = ap begun_turns (works_one session by w true own) ∙ ap (λ u. cond u 1 0 + 0) u_is in
        let not_short : lacks_memory w ≡ false = only_short (lacks_memory w) (sym (ap (list_any lacks_memory) (works_one session by w true own)) ∙ well) in
        let takes = turn_takes origin.sizes step.0 by book changes floor session id j own shut unheld room w made u_is not_short step.2 in
        let most = takes.most in
        let drops = count_drops (is_due session made) (is_due session book) (id + 1) takes.source
        (λ i less is. due_before origin m after (entry.Mover by w) book made changes floor session j step moves well i (omega (arith, less, lt)) is)
        (omega (arith, most)) takes.now takes.was in
        omega (arith, drops, one)
      where
        only_short : (t : Bool) → (t || false) ≡ false → t ≡ false
        only_short true is = cc
        only_short false is = refl
