-- From a moment on at which a group is a closed store until a later one at which it still is.
use Rattle.std.proofs.Common.{◌≡◌, ℕ, ◌+◌, ◌*◌, ◌<◌, ◌≤◌, ◌^◌, ◌⊎◌, inl, inr, Bool, true, false, ◌||◌, List, [], ◌∷◌, ◌++◌, Some, refl, sym, ap, subst, ◌∙◌, arith}
use Rattle.std.specs.Prelude.{Contains}
use Rattle.std.specs.List.{list_any}
use Rattle.std.proofs.lemmas.List.Folds.{list_any-append}
use Rattle.std.proofs.lemmas.Option.{same_Some}
use Rattle.cs_model.specs.declared.entry.Entry.{Entry}
use Rattle.cs_model.specs.declared.entry.Entry.TheVariants as entry
use Rattle.cs_model.specs.declared.work.Actor.{Actor}
use Rattle.cs_model.specs.declared.work.Actor.TheVariants as actor
use Rattle.cs_model.specs.declared.work.Work.{Work}
use Rattle.cs_model.specs.declared.work.Work.TheVariants as work
use Rattle.cs_model.specs.Changes.{Change}
use Rattle.cs_model.specs.State as model
use Rattle.group_book.specs.Book.{Group, Claim, Book, is_closed}
use Rattle.group_book.specs.Book.Choice.{Compress, Idle}
use Rattle.group_book.specs.Choices.{choice, release_work, id_in}
use Rattle.group_book.specs.Invariant.{IsBookOf}
use Rattle.group_book.specs.States.{state_of, GroupsMoveBy}
use Rattle.group_book.specs.States.State.{IsOpen, IsClosed}
use Rattle.group_book.specs.Turns.{is_claimed}
use Rattle.group_book.proofs.Lists.{how_many-append}
use Rattle.group_log.specs.Followed.{Ground, IsBookStep, Follows, Followed, Moment}
use Rattle.group_log.specs.Grounds.{IsGround}
use Rattle.group_log.specs.Moves.{transitions_of}
use Rattle.group_log.specs.Reorganizing.{begins_turn, works_of, begun_turns, IsIdle}
use Rattle.cs_model.specs.Works.{lacks_memory}
use Rattle.group_log.proofs.Moving.{step_moves}
use Rattle.group_log.proofs.Since.{IsSince, since_step, since_log}
use Rattle.reorganize_laws.proofs.Alike.{alike_state, alike_claims, one_log, claim_of_book}
use Rattle.reorganize_laws.proofs.Entries.{works_cons}
use Rattle.reorganize_laws.proofs.Lists.{in_head, in_tail, any_in}
use Rattle.reorganize_laws.proofs.Moments.{StaysOrEnds, claim_stays, WasBefore, was_before, packs_of, pack_is, packed_gone, state_closed, group_at}
use Rattle.reorganize_laws.proofs.Moments.EndsClaim.{by_install, by_release}
use Rattle.reorganize_laws.proofs.Turns.{due_count, due_falls, due_drops, claimed_packs, lowest_free, choice_is}

-- ---- two parts of a log

pub follows_apart : (origin : Ground) (xs ys : List Entry) (m after : model.State) (book made : Book) → Follows origin m book (xs ++ ys) after made
    → (mid : model.State) × (between : Book) × Follows origin m book xs mid between × Follows origin mid between ys after made
follows_apart origin [] ys m after book made x = (m, book, (refl, refl), x)
follows_apart origin (e ∷ xs) ys m after book made x = let rest = follows_apart origin xs ys x.0 after x.1 made x.4 in (rest.0, rest.1, (x.0, x.1, x.2, x.3, rest.2), rest.3)

pub follows_both : (origin : Ground) (xs ys : List Entry) (m mid after : model.State) (book between made : Book) → Follows origin m book xs mid between → Follows origin mid between ys after made
    → Follows origin m book (xs ++ ys) after made
follows_both origin [] ys m mid after book between made x y = subst (λ z. Follows origin z book ys after made) x.0 (subst (λ b. Follows origin mid b ys after made) x.1 y)
follows_both origin (e ∷ xs) ys m mid after book between made x y = (x.0, x.1, x.2, x.3, follows_both origin xs ys x.0 mid after x.1 between made x.4 y)

both_false : (a b : Bool) → (a || b) ≡ false → (a ≡ false) × (b ≡ false)
both_false true b h = cc
both_false false b h = (refl, h)

wells_of : (session : ℕ) (first : Entry) (es : List Entry) → list_any lacks_memory (works_of session (first ∷ es)) ≡ false
    → (list_any lacks_memory (works_of session (first ∷ [])) ≡ false) × (list_any lacks_memory (works_of session es) ≡ false)
wells_of session first es well = both_false (list_any lacks_memory (works_of session (first ∷ []))) (list_any lacks_memory (works_of session es))
    (sym (list_any-append lacks_memory (works_of session (first ∷ [])) (works_of session es)) ∙ ap (list_any lacks_memory) (sym (works_cons session first es)) ∙ well)

-- ---- what becomes of the claim of a closed store

-- a claim has it at the end, or one that had it was given back
abbrev pub IsKept : List Entry → ℕ → Book → Type 0
IsKept es id made = ((claim : Claim) × Contains made.claims claim × (claim.choice ≡ Compress id)) ⊎ ((by : Actor) × (fresh : ℕ) × Contains es (entry.Mover by (work.ReleaseCompress id fresh)))

kept_later : (e : Entry) (es : List Entry) (id : ℕ) (made : Book) → IsKept es id made → IsKept (e ∷ es) id made
kept_later e es id made (inl held) = inl held
kept_later e es id made (inr back) = inr (back.0, back.1, in_tail e es (entry.Mover back.0 (work.ReleaseCompress id back.1)) back.2)

pub kept_behind : (xs ys : List Entry) (id : ℕ) (made : Book) → IsKept ys id made → IsKept (xs ++ ys) id made
kept_behind [] ys id made kept = kept
kept_behind (x ∷ xs) ys id made kept = kept_later x (xs ++ ys) id made (kept_behind xs ys id made kept)

module _ (origin : Ground) (room : 1 ≤ origin.sizes.group_rows) (some : 1 ≤ origin.sizes.direct_rows) where
  abbrev pub Since : model.State → Book → Type 0
  Since m book = IsSince origin.begin origin.sizes.group_rows m book

  moves_of : (m after : model.State) (e : Entry) (book made : Book) → Since m book → IsBookStep origin m book e after made → GroupsMoveBy (transitions_of e) book made
  moves_of m after e book made since moves = step_moves origin m after e book made m.changes since.floor since.stands moves

  pub next_along : (es : List Entry) (m after : model.State) (book made : Book) → Since m book → Follows origin m book es after made → book.next ≤ made.next
  next_along [] m after book made since x = let e = ap (λ (b : Book). b.next) x.1 in omega (arith, e)
  next_along (e ∷ es) m after book made since x =
      let first = (moves_of m x.0 e book x.1 since x.3).next in
      omega (arith, first, next_along es x.0 after x.1 made (since_step origin m x.0 e book x.1 room some since x.2 x.3) x.4)

  pub was_along : (es : List Entry) (m after : model.State) (book made : Book) (id : ℕ) → Since m book → Follows origin m book es after made → id < book.next → WasBefore book made id
  was_along [] m after book made id since x lt = record {
    closed = λ is. inl (ap (λ (b : Book). state_of b.groups id) (sym x.1) ∙ is);
    opened = λ is. ap (λ (b : Book). state_of b.groups id) (sym x.1) ∙ is;
  }
  was_along (e ∷ es) m after book made id since x lt =
      let moves = moves_of m x.0 e book x.1 since x.3 in
      let up = moves.next in
      let first = was_before e book x.1 moves id lt in
      let rest = was_along es x.0 after x.1 made id (since_step origin m x.0 e book x.1 room some since x.2 x.3) x.4 (omega (arith, lt, up)) in
      record { closed = λ is. elim (rest.closed is) [ inl closed ↦ first.closed closed | inr opened ↦ inr (first.opened opened) ]; opened = λ is. first.opened (rest.opened is) }

  -- it was a closed store all the while
  closed_between : (book between made : Book) (id : ℕ) → WasBefore book between id → WasBefore between made id → state_of book.groups id ≡ IsClosed → state_of made.groups id ≡ IsClosed → state_of between.groups id ≡ IsClosed
  closed_between book between made id first second was is = elim (second.closed is) [
    | inl closed ↦ closed
    | inr opened ↦ let wrong : IsClosed ≡ IsOpen = sym was ∙ first.opened opened in cc
  ]

  module _ (id : ℕ) where
    released_is : (claim : Claim) (w : Work) → claim.choice ≡ Compress id → release_work claim.choice claim ≡ Some w → w ≡ work.ReleaseCompress id (id_in claim.fresh)
    released_is claim w e is = same_Some w (work.ReleaseCompress id (id_in claim.fresh)) (sym is ∙ ap (λ c. release_work c claim) e)

    -- a claim that has it has it at the end, or is given back
    pub held_on : (es : List Entry) (m after : model.State) (book made : Book) → Since m book → Follows origin m book es after made → id < book.next → state_of book.groups id ≡ IsClosed → state_of made.groups id ≡ IsClosed
        → (claim : Claim) → Contains book.claims claim → claim.choice ≡ Compress id → IsKept es id made
    held_on [] m after book made since x lt was is claim c e = inl (claim, subst (λ (b : Book). Contains b.claims claim) (sym x.1) c, e)
    held_on (first ∷ es) m after book made since x lt was is claim c e = at (claim_stays origin m x.0 first book x.1 m.changes since.floor since.stands x.3 claim c) (held_on es x.0 after x.1 made later x.4 more here is claim)
      where
        moves : GroupsMoveBy (transitions_of first) book x.1
        moves = moves_of m x.0 first book x.1 since x.3

        later : Since x.0 x.1
        later = since_step origin m x.0 first book x.1 room some since x.2 x.3

        more : id < x.1.next
        more = let up = moves.next in omega (arith, up, lt)

        here : state_of x.1.groups id ≡ IsClosed
        here = closed_between book x.1 made id (was_before first book x.1 moves id lt) (was_along es x.0 after x.1 made id later x.4 more) was is

        at : StaysOrEnds first claim book x.1 → (Contains x.1.claims claim → claim.choice ≡ Compress id → IsKept es id made) → IsKept (first ∷ es) id made
        at (inl stays) rest = kept_later first es id made (rest stays e)
        at (inr (by_install entry_is work_is moved)) rest = absurd (packed_gone origin.sizes.group_rows book x.1 m.changes since.floor id claim (claim_of_book origin.sizes.group_rows book m.changes since.floor claim c since.stands) e moved here)
        at (inr (by_release {w = w} entry_is work_is)) rest =
            inr (claim.actor, id_in claim.fresh, subst (λ x. Contains (first ∷ es) x) (entry_is ∙ ap (entry.Mover claim.actor) (released_is claim w e work_is)) (in_head first es))

    -- so it is, or each turn of the session on the way took one that was due
    pub kept_or_less : (session : ℕ) (es : List Entry) (m after : model.State) (book made : Book) → Since m book → Follows origin m book es after made → id < book.next → state_of book.groups id ≡ IsClosed
        → state_of made.groups id ≡ IsClosed → made.next ≤ 2 ^ 62 → list_any lacks_memory (works_of session es) ≡ false
        → IsKept es id made ⊎ (due_count session id made + begun_turns (works_of session es) ≤ due_count session id book)
    kept_or_less session [] m after book made since x lt was is within well = inr (let e = ap (due_count session id) x.1 in omega (arith, e))
    kept_or_less session (first ∷ es) m after book made since x lt was is within well = at (list_any (packs_of id) book.claims) refl (kept_or_less session es x.0 after x.1 made later x.4 more here is within wells.1)
      where
        moves : GroupsMoveBy (transitions_of first) book x.1
        moves = moves_of m x.0 first book x.1 since x.3

        later : Since x.0 x.1
        later = since_step origin m x.0 first book x.1 room some since x.2 x.3

        more : id < x.1.next
        more = let up = moves.next in omega (arith, up, lt)

        here : state_of x.1.groups id ≡ IsClosed
        here = closed_between book x.1 made id (was_before first book x.1 moves id lt) (was_along es x.0 after x.1 made id later x.4 more) was is

        wells : (list_any lacks_memory (works_of session (first ∷ [])) ≡ false) × (list_any lacks_memory (works_of session es) ≡ false)
        wells = wells_of session first es well

        at : (t : Bool) → list_any (packs_of id) book.claims ≡ t → IsKept es id made ⊎ (due_count session id made + begun_turns (works_of session es) ≤ due_count session id x.1)
            → IsKept (first ∷ es) id made ⊎ (due_count session id made + begun_turns (works_of session (first ∷ es)) ≤ due_count session id book)
        at true held rest = let found = any_in (packs_of id) book.claims held in inl (held_on (first ∷ es) m after book made since x lt was is found.0 found.1 (pack_is id found.0.choice found.2))
        at false unheld (inl kept) = inl (kept_later first es id made kept)
        at false unheld (inr less) = inr (
            let up = next_along es x.0 after x.1 made later x.4 in
            let low = moves.next in
            let drops = due_drops origin m x.0 first book x.1 m.changes since.floor session id since.stands x.3 moves wells.0 lt was unheld (omega (arith, up, low, within)) in
            let turns = ap begun_turns (works_cons session first es) ∙ how_many-append begins_turn (works_of session (first ∷ [])) (works_of session es) in
            omega (arith, less, drops, turns))

  -- what is due does not grow along a log
  pub due_along : (session id : ℕ) (es : List Entry) (m after : model.State) (book made : Book) → Since m book → Follows origin m book es after made → id < book.next → list_any lacks_memory (works_of session es) ≡ false
      → due_count session id made ≤ due_count session id book
  due_along session id [] m after book made since x lt well = let e = ap (due_count session id) x.1 in omega (arith, e)
  due_along session id (first ∷ es) m after book made since x lt well =
      let moves = moves_of m x.0 first book x.1 since x.3 in
      let up = moves.next in
      let wells = wells_of session first es well in
      let falls = due_falls origin m x.0 first book x.1 m.changes since.floor session id since.stands x.3 moves wells.0 lt in
      omega (arith, falls, due_along session id es x.0 after x.1 made (since_step origin m x.0 first book x.1 room some since x.2 x.3) x.4 (omega (arith, lt, up)) wells.1)

-- ---- the two ends of the turns

-- all turns were made
pub kept_by_turns : (origin : Ground) → IsGround origin → (session id most : ℕ) (es : List Entry) (m after : model.State) (book made : Book) → IsSince origin.begin origin.sizes.group_rows m book → Follows origin m book es after made
    → id < book.next → state_of book.groups id ≡ IsClosed → state_of made.groups id ≡ IsClosed → made.next ≤ 2 ^ 62 → list_any lacks_memory (works_of session es) ≡ false
    → due_count session id book ≤ most → begun_turns (works_of session es) ≡ 3 * most + 1 → IsKept es id made
kept_by_turns origin g session id most es m after book made since x lt was is within well few turns =
    elim (kept_or_less origin g.group_rows g.direct_rows id session es m after book made since x lt was is within well) [
      | inl kept ↦ kept
      | inr less ↦ absurd (omega (arith, less, few, turns))
    ]

-- where the choice of a turn is Idle, each closed store has a claim
idle_held : (group_rows : ℕ) (book : Book) (changes : List Change) (floor id at : ℕ) (by : Actor) → IsBookOf group_rows book changes floor → state_of book.groups id ≡ IsClosed → book.next ≤ 2 ^ 62
    → choice at group_rows by book ≡ Idle → (claim : Claim) × Contains book.claims claim × (claim.choice ≡ Compress id)
idle_held group_rows book changes floor id at by j was within idle =
    let found = group_at book.groups id IsClosed was (λ e. cc) in
    step found.0 found.1 found.2 (state_closed found.0.content found.3) (is_claimed book.claims found.0) refl
  where
    never : (source : ℕ) → choice at group_rows by book ≡ Compress source → ⊥
    never source made = let wrong : Compress source ≡ Idle = sym made ∙ idle in cc

    step : (g : Group) → Contains book.groups g → g.id ≡ id → is_closed g.content ≡ true → (t : Bool) → is_claimed book.claims g ≡ t → (claim : Claim) × Contains book.claims claim × (claim.choice ≡ Compress id)
    step g in_groups same shut true claimed = let held = claimed_packs group_rows book changes floor j g in_groups shut claimed in (held.0, held.1, held.2 ∙ ap Compress same)
    step g in_groups same shut false unclaimed =
        let low = lowest_free group_rows book changes floor j g in_groups shut unclaimed in absurd (never low.group.id (choice_is group_rows book changes floor j at by low.group.id within low.lowest))

-- also in another book of that moment
idle_holds : (origin : Ground) → IsGround origin → (session id : ℕ) (log : List Entry) (m : model.State) (book : Book) → Followed origin log m book → (moment : Moment origin log)
    → IsIdle origin.sizes session moment.state moment.book → state_of book.groups id ≡ IsClosed → book.next ≤ 2 ^ 62 → (claim : Claim) × Contains book.claims claim × (claim.choice ≡ Compress id)
idle_holds origin g session id log m book begun moment idle was within =
    let alike = one_log origin log moment.state m moment.book book g moment.followed begun in
    let same = alike.next in
    let since = since_log origin log moment.state moment.book g moment.followed in
    let held = idle_held origin.sizes.group_rows moment.book moment.state.changes since.floor id idle.floor (actor.Session session) since.stands (alike_state moment.book book alike id ∙ was) (omega (arith, same, within)) idle.idle in
    let found = alike_claims moment.book book alike held.0 held.1 in
    (found.0, found.1, found.3 ∙ held.2)

-- or there was a moment at which the session had nothing to choose
pub kept_by_idle : (origin : Ground) → IsGround origin → (session id : ℕ) (log us vs : List Entry) (m after : model.State) (book made : Book) → Followed origin log m book → Follows origin m book (us ++ vs) after made
    → (moment : Moment origin (log ++ us)) → IsIdle origin.sizes session moment.state moment.book → id < book.next → state_of book.groups id ≡ IsClosed → state_of made.groups id ≡ IsClosed → made.next ≤ 2 ^ 62
    → IsKept vs id made
kept_by_idle origin g session id log us vs m after book made begun x moment idle lt was is within =
    let apart = follows_apart origin us vs m after book made x in
    let between : Book = apart.1 in
    let reached = follows_both origin log us origin.begin.state m apart.0 origin.book book between begun apart.2 in
    let first = since_log origin log m book g begun in
    let since = since_log origin (log ++ us) apart.0 between g reached in
    let up = next_along origin g.group_rows g.direct_rows us m apart.0 book between first apart.2 in
    let high = next_along origin g.group_rows g.direct_rows vs apart.0 after between made since apart.3 in
    let more : id < between.next = omega (arith, lt, up) in
    let shut = closed_between origin g.group_rows g.direct_rows book between made id (was_along origin g.group_rows g.direct_rows us m apart.0 book between id first apart.2 lt)
    (was_along origin g.group_rows g.direct_rows vs apart.0 after between made id since apart.3 more) was is in
    let held = idle_holds origin g session id (log ++ us) apart.0 between reached moment idle shut (omega (arith, high, within)) in
    held_on origin g.group_rows g.direct_rows id vs apart.0 after between made since apart.3 more shut is held.0 held.1 held.2
