-- The closed stores that a REORGANIZE found, at its last look.
use Rattle.std.proofs.Common.{◌≡◌, ℕ, ◌+◌, ◌*◌, ◌<◌, ◌≤◌, ◌^◌, ◌⊎◌, inl, inr, Bool, true, false, ◌&&◌, List, [], ◌∷◌, ◌++◌, None, refl, sym, ap, subst, ◌∙◌, arith, Global}
use Rattle.std.specs.Prelude.{◌==◌, Contains}
use Rattle.std.specs.List.{list_any}
use Rattle.std.specs.declared.sync.Arc.{Arc}
use Rattle.std.proofs.lemmas.Bool.Decides.{nat_tests}
use Rattle.std.proofs.lemmas.List.{append-nil, append_assoc}
use Rattle.std.proofs.lemmas.List.Elements.{Contains-append_left, Contains-append_right}
use Rattle.cs_model.specs.declared.entry.Bound.{Bound}
use Rattle.cs_model.specs.declared.entry.Entry.{Entry}
use Rattle.cs_model.specs.declared.entry.Entry.TheVariants as entry
use Rattle.cs_model.specs.declared.entry.Reply.{Reply}
use Rattle.cs_model.specs.declared.entry.Reply.TheVariants as reply
use Rattle.cs_model.specs.declared.work.Actor.{Actor}
use Rattle.cs_model.specs.declared.work.Actor.TheVariants as actor
use Rattle.cs_model.specs.declared.work.Work.{Work}
use Rattle.cs_model.specs.declared.work.Work.TheVariants as work
use Rattle.cs_model.specs.Actors.{turns_of}
use Rattle.cs_model.specs.State as model
use Rattle.group_book.specs.Book.{Group, Claim, Book, how_many}
use Rattle.group_book.specs.States.{State, state_of}
use Rattle.group_book.specs.States.State.{Absent, IsOpen, IsClosed}
use Rattle.group_book.specs.Turns.{same_actor, claim_by}
use Rattle.group_log.specs.Followed.{Ground, Follows, Followed, Moment}
use Rattle.group_log.specs.Grounds.{IsGround}
use Rattle.group_log.specs.Reorganizing.{is_in_use, closed_ids, works_of, begun_turns, closed_in, Saw, IsIdle, from_start, LeavesGroups, IsMove, IsReorganized}
use Rattle.cs_model.specs.Works.{lacks_memory}
use Rattle.group_log.proofs.Since.{IsSince, since_log}
use Rattle.reorganize_laws.specs.Left.{IsFound, IsTold, IsGivenBack, CompressesWhatItFound}
use Rattle.reorganize_laws.proofs.Alike.{IsAlike, alike_state, alike_claims, one_actor, one_log}
use Rattle.reorganize_laws.proofs.Course.{follows_apart, follows_both, IsKept, kept_behind, next_along, was_along, due_along, kept_by_turns, kept_by_idle}
use Rattle.reorganize_laws.proofs.Entries.{works_append, works_own, works_hold, StandsAt, works_at, cuts_behind, one_cut, turns_left}
use Rattle.reorganize_laws.proofs.Found.{due_in_use, drawn_id, close_is, entry_is, own_stays, holds_none, found_closed, found_by_close, told}
use Rattle.reorganize_laws.proofs.Lists.{in_any}
use Rattle.reorganize_laws.proofs.Turns.{due_count}

-- ---- the log from the Start on

-- the states and books at the Start, at the last look and at the Finish, where the session holds no claim
record HasRun (origin : Ground) (from since behind : List Entry) (session : ℕ) : Type 0 where
  s : model.State
  start : Book
  begun : Followed origin from s start
  t : model.State
  last : Book
  along : Follows origin s start since t last
  u : model.State
  final : Book
  after : Follows origin t last behind u final
  free : claim_by (actor.Session session) final ≡ None

has_run : (origin : Ground) (from since behind rest : List Entry) (session : ℕ) (r : Reply) (m : model.State) (book : Book) → Followed origin ((from ++ (since ++ behind)) ++ entry.Finish session r ∷ rest) m book
    → HasRun origin from since behind session
has_run origin from since behind rest session r m book x =
    let whole = follows_apart origin (from ++ (since ++ behind)) (entry.Finish session r ∷ rest) origin.begin.state m origin.book book x in
    let first = follows_apart origin from (since ++ behind) origin.begin.state whole.0 origin.book whole.1 whole.2 in
    let second = follows_apart origin since behind first.0 whole.0 first.1 whole.1 first.3 in
    let finishes = whole.3.3 in
    record {
      s = first.0;
      start = first.1;
      begun = first.2;
      t = second.0;
      last = second.1;
      along = second.2;
      u = whole.0;
      final = whole.1;
      after = second.3;
      free = finishes.free;
    }

-- the book after the Start is that before it
start_alike : (origin : Ground) → IsGround origin → (before : List Entry) (session : ℕ) (bound : Arc Bound Global) (short : Bool) (m s : model.State) (book start : Book) → Followed origin before m book
    → Followed origin (before ++ entry.Start session bound short ∷ []) s start → IsAlike book start
start_alike origin g before session bound short m s book start x y =
    let apart = follows_apart origin before (entry.Start session bound short ∷ []) origin.begin.state s origin.book start y in
    let same : start ≡ apart.1 = apart.3.4.1 ∙ apart.3.3 in
    subst (IsAlike book) (sym same) (one_log origin before m apart.0 book apart.1 g x apart.2)

-- ---- where it stops

abbrev Stops : Ground → ℕ → ℕ → List Entry → List Entry → Type 0
Stops origin session most from since = (begun_turns (works_of session since) ≡ 3 * most + 1) ⊎ Saw origin (IsIdle origin.sizes session) session from since []

-- a moment of a log is one of what the log is
idle_at : (origin : Ground) (log other : List Entry) (session : ℕ) → log ≡ other → (moment : Moment origin log) → IsIdle origin.sizes session moment.state moment.book
    → (there : Moment origin other) × IsIdle origin.sizes session there.state there.book
idle_at origin log other session same moment idle = (record { state = moment.state; book = moment.book; followed = subst (λ l. Followed origin l moment.state moment.book) same moment.followed }, idle)

module _ (origin : Ground) (g : IsGround origin) (session id most : ℕ) (from : List Entry) (s t : model.State) (start last : Book) (begun : Followed origin from s start)
    (few : due_count session id start ≤ most) (lt : id < start.next) (is : state_of last.groups id ≡ IsClosed) (within : last.next ≤ 2 ^ 62) where
  -- of what was a closed store at the Start
  kept_closed : (since : List Entry) → Follows origin s start since t last → list_any lacks_memory (works_of session since) ≡ false → Stops origin session most from since → state_of start.groups id ≡ IsClosed → IsKept since id last
  kept_closed since along well (inl turns) was = kept_by_turns origin g session id most since s t start last (since_log origin from s start g begun) along lt was is within well few turns
  kept_closed since along well (inr saw) was =
      subst (λ l. IsKept l id last) (sym saw.split)
      (kept_behind saw.since saw.rest id last (kept_by_idle origin g session id from saw.since saw.rest s t start last begun (subst (λ l. Follows origin s start l t last) saw.split along) saw.moment saw.holds lt was is within))

  -- of what the session closed before all its other works
  module _ (p q : List Entry) (none : works_of session p ≡ []) where
    abbrev close : Entry
    close = entry.Mover (actor.Session session) (work.Close id)

    abbrev front : List Entry
    front = p ++ close ∷ []

    split_front : front ++ q ≡ p ++ close ∷ q
    split_front = append_assoc p (close ∷ []) q

    front_works : works_of session front ≡ work.Close id ∷ []
    front_works = works_append session p (close ∷ []) ∙ ap (λ l. l ++ works_of session (close ∷ [])) none ∙ works_own session (work.Close id)

    all_works : works_of session (p ++ close ∷ q) ≡ work.Close id ∷ works_of session q
    all_works = ap (works_of session) (sym split_front) ∙ works_append session front q ∙ ap (λ l. l ++ works_of session q) front_works

    -- the moment after the close
    record IsShut : Type 0 where
      m : model.State
      book : Book
      to : Follows origin s start front m book
      on : Follows origin m book q t last
      since : IsSince origin.begin origin.sizes.group_rows m book
      drawn : id < book.next
      shut : state_of book.groups id ≡ IsClosed
      due : due_count session id book ≤ most

    close_shuts : Follows origin s start (p ++ close ∷ q) t last → IsShut
    close_shuts along =
        let apart = follows_apart origin front q s t start last (subst (λ l. Follows origin s start l t last) (sym split_front) along) in
        let parts = follows_apart origin p (close ∷ []) s apart.0 start apart.1 apart.2 in
        let step = close_is origin.sizes parts.3.3.0 (actor.Session session) parts.1 (work.Close id) parts.3.1 id refl parts.3.3.2 in
        let same : apart.1 ≡ parts.3.1 = parts.3.4.1 in
        let never : state_of apart.1.groups id ≡ IsOpen → ⊥ = λ opened. step id (ap (λ (b : Book). state_of b.groups id) (sym same) ∙ opened) in
        let first = since_log origin from s start g begun in
        let since = since_log origin (from ++ front) apart.0 apart.1 g (follows_both origin from front origin.begin.state s apart.0 origin.book start apart.1 begun apart.2) in
        let up = next_along origin g.group_rows g.direct_rows front s apart.0 start apart.1 first apart.2 in
        let drawn : id < apart.1.next = omega (arith, up, lt) in
        let falls = due_along origin g.group_rows g.direct_rows session id front s apart.0 start apart.1 first apart.2 lt (ap (list_any lacks_memory) front_works) in
        let was = was_along origin g.group_rows g.direct_rows q apart.0 t apart.1 last id since apart.3 drawn in
        record {
          m = apart.0;
          book = apart.1;
          to = apart.2;
          on = apart.3;
          since = since;
          drawn = drawn;
          shut = elim (was.closed is) [ inl closed ↦ closed | inr opened ↦ absurd (never opened) ];
          due = omega (arith, falls, few);
        }

    kept_shut : IsShut → list_any lacks_memory (works_of session (p ++ close ∷ q)) ≡ false → Stops origin session most from (p ++ close ∷ q) → IsKept q id last
    kept_shut at well (inl turns) =
        kept_by_turns origin g session id most q at.m t at.book last at.since at.on at.drawn at.shut is within (sym (ap (list_any lacks_memory) all_works) ∙ well) at.due
        (let same = ap begun_turns all_works in omega (arith, same, turns))
    kept_shut at well (inr saw) =
        let cut = cuts_behind session (work.Close id) p q saw.since saw.rest saw.split saw.after in
        let reached = follows_both origin from front origin.begin.state s at.m origin.book start at.book begun at.to in
        let there : from ++ saw.since ≡ (from ++ front) ++ cut.between =
        ap (λ l. from ++ l) (cut.first ∙ sym (append_assoc p (close ∷ []) cut.between)) ∙ sym (append_assoc from front cut.between) in
        let idle = idle_at origin (from ++ saw.since) ((from ++ front) ++ cut.between) session there saw.moment saw.holds in
        subst (λ l. IsKept l id last) (sym cut.second)
        (kept_behind cut.between saw.rest id last
        (kept_by_idle origin g session id (from ++ front) cut.between saw.rest at.m t at.book last reached (subst (λ l. Follows origin at.m at.book l t last) cut.second at.on) idle.0 idle.1 at.drawn at.shut is within))

    kept_opened : Follows origin s start (p ++ close ∷ q) t last → list_any lacks_memory (works_of session (p ++ close ∷ q)) ≡ false → Stops origin session most from (p ++ close ∷ q) → IsKept (p ++ close ∷ q) id last
    kept_opened along well stops = subst (λ l. IsKept l id last) split_front (kept_behind front q id last (kept_shut (close_shuts along) well stops))

-- ---- its close is the first of its works

same_session : (session : ℕ) → (true && (session == session)) ≡ true
same_session session = itself
  where
    itself : (session == session) ≡ true
    itself = grind (arith, nat_tests)

first_work : (origin : Ground) (before : List Entry) (session : ℕ) (bound : Arc Bound Global) (short : Bool) (p : List Entry) (id : ℕ) → turns_of session p ≡ []
    → IsMove origin ((before ++ entry.Start session bound short ∷ []) ++ p) session (work.Close id) → works_of session p ≡ []
first_work origin before session bound short p id others move =
    let begun = move.half.begun in
    let first : Entry = entry.Start session bound short in
    let again : Entry = entry.Start session begun.bound begun.short in
    let same : p ≡ begun.behind = one_cut session first again before p begun.before begun.behind (same_session session) (same_session session) others begun.others (sym (append_assoc before (first ∷ []) p) ∙ begun.split) in
    ap (works_of session) same ∙ move.may.1

-- ---- what comes of it

module _ (origin : Ground) (g : IsGround origin) (before rest : List Entry) (session : ℕ) (left : List (ℕ × Actor)) (m : model.State) (book : Book) (so : LeavesGroups origin before session left)
    (x : Followed origin (before ++ entry.Finish session (reply.Left left) ∷ rest) m book) (r : IsReorganized origin (before ++ entry.Finish session (reply.Left left) ∷ rest)) where
  abbrev from : List Entry
  from = from_start so.half.begun

  abbrev behind : List Entry
  behind = so.half.begun.behind

  abbrev since : List Entry
  since = so.leaves.since

  abbrev after : List Entry
  after = so.leaves.rest

  abbrev finish : List Entry
  finish = entry.Finish session (reply.Left left) ∷ rest

  abbrev most : ℕ
  most = how_many (λ (group : Group). is_in_use group.content) so.half.book.groups

  before_is : before ≡ from ++ behind
  before_is = so.half.begun.split ∙ sym (append_assoc so.half.begun.before (entry.Start session so.half.begun.bound so.half.begun.short ∷ []) behind)

  run : HasRun origin from since after session
  run = has_run origin from since after rest session (reply.Left left) m book (subst (λ l. Followed origin (l ++ finish) m book) (before_is ∙ ap (λ l. from ++ l) so.leaves.split) x)

  works_are : works_of session behind ≡ works_of session since
  works_are = ap (works_of session) so.leaves.split ∙ works_append session since after ∙ ap (λ l. works_of session since ++ l) so.leaves.last ∙ append-nil (works_of session since)

  well : list_any lacks_memory (works_of session since) ≡ false
  well = ap (list_any lacks_memory) (sym works_are) ∙ so.leaves.well

  stops : Stops origin session most from since
  stops = elim so.leaves.stopped [ inl turns ↦ inl (ap begun_turns (sym works_are) ∙ turns) | inr saw ↦ inr saw ]

  -- the book at the Start, and the one that the statement names
  starts_alike : IsAlike so.half.book (run.start)
  starts_alike = start_alike origin g so.half.begun.before session so.half.begun.bound so.half.begun.short so.half.state run.s so.half.book run.start so.half.begun.followed run.begun

  -- the book at the last look, and the one that the reply is of
  looks_alike : IsAlike run.last so.leaves.moment.book
  looks_alike = one_log origin (from ++ since) run.t so.leaves.moment.state run.last so.leaves.moment.book g (follows_both origin from since origin.begin.state run.s run.t origin.book run.start run.last run.begun run.along) so.leaves.moment.followed

  module _ (id : ℕ) (within : so.leaves.moment.book.next ≤ 2 ^ 62) (is : state_of so.leaves.moment.book.groups id ≡ IsClosed) where
    shut : state_of run.last.groups id ≡ IsClosed
    shut = alike_state run.last so.leaves.moment.book looks_alike id ∙ is

    room : run.last.next ≤ 2 ^ 62
    room = let same = looks_alike.next in omega (arith, same, within)

    few : due_count session id run.start ≤ most
    few = due_in_use session id so.half.book run.start (alike_state so.half.book run.start starts_alike)

    drawn : (s : State) → state_of so.half.book.groups id ≡ s → (s ≡ Absent → ⊥) → id < run.start.next
    drawn s was some =
        let at = since_log origin from run.s run.start g run.begun in
        drawn_id origin.sizes.group_rows run.start run.s.changes at.floor id s at.stands (sym (alike_state so.half.book run.start starts_alike id) ∙ was) some

    from_closed : state_of so.half.book.groups id ≡ IsClosed → IsKept since id run.last
    from_closed was = kept_closed origin g session id most from run.s run.t run.start run.last run.begun few (drawn IsClosed was (λ e. cc)) shut room since run.along well stops (sym (alike_state so.half.book run.start starts_alike id) ∙ was)

    -- the close stands before the last look, and before it the session has no work
    from_opened : state_of so.half.book.groups id ≡ IsOpen → StandsAt session behind (work.Close id) → IsKept since id run.last
    from_opened was at =
        let close : Entry = entry.Mover (actor.Session session) (work.Close id) in
        let cut = cuts_behind session (work.Close id) at.before at.behind since after (sym at.split ∙ so.leaves.split) so.leaves.last in
        let along = subst (λ l. Follows origin run.s run.start l run.t run.last) cut.first run.along in
        let whole : before ++ finish ≡ (from ++ at.before) ++ close ∷ (at.behind ++ finish) =
        ap (λ l. l ++ finish) (before_is ∙ ap (λ l. from ++ l) at.split)
        ∙ append_assoc from (at.before ++ close ∷ at.behind) finish
        ∙ ap (λ l. from ++ l) (append_assoc at.before (close ∷ at.behind) finish)
        ∙ sym (append_assoc from at.before (close ∷ (at.behind ++ finish))) in
        let said = entry_is origin [] (from ++ at.before) close (at.behind ++ finish) (subst (IsReorganized origin) whole r) in
        let others = turns_left session at.before (close ∷ at.behind) (ap (turns_of session) (sym at.split) ∙ so.half.begun.others) in
        let none = first_work origin so.half.begun.before session so.half.begun.bound so.half.begun.short at.before id others said in
        subst (λ l. IsKept l id run.last) (sym cut.first)
        (kept_opened origin g session id most from run.s run.t run.start run.last run.begun few (drawn IsOpen was (λ e. cc)) shut room at.before cut.between none along
        (subst (λ l. list_any lacks_memory (works_of session l) ≡ false) cut.first well) (subst (Stops origin session most from) cut.first stops))

    kept : IsFound so.half.book (works_of session behind) id → IsKept since id run.last
    kept (inl was) = from_closed was
    kept (inr was) = from_opened was.0 (works_at session behind (work.Close id) was.1)

    marked : IsFound so.half.book (works_of session behind) id → Contains (closed_ids so.half.book ++ closed_in (works_of session behind)) id
    marked (inl was) = Contains-append_left (closed_ids so.half.book) (closed_in (works_of session behind)) id (found_closed so.half.book id was)
    marked (inr was) = Contains-append_right (closed_ids so.half.book) (closed_in (works_of session behind)) id (found_by_close (works_of session behind) id was.1)

    not_own : (claim : Claim) → Contains run.last.claims claim → (t : Bool) → same_actor claim.actor (actor.Session session) ≡ t → t ≡ false
    not_own claim c false t_is = refl
    not_own claim c true t_is =
        let own = one_actor claim.actor (actor.Session session) t_is in
        let at = since_log origin (from ++ since) run.t run.last g (follows_both origin from since origin.begin.state run.s run.t origin.book run.start run.last run.begun run.along) in
        absurd (holds_none (actor.Session session) run.final claim run.free (own_stays origin g.group_rows g.direct_rows session after run.t run.u run.last run.final at run.after so.leaves.last claim c own) own)

    not_by : (by : Actor) (fresh : ℕ) → Contains since (entry.Mover by (work.ReleaseCompress id fresh)) → (t : Bool) → same_actor by (actor.Session session) ≡ t → t ≡ false
    not_by by fresh c false t_is = refl
    not_by by fresh c true t_is =
        let w : Work = work.ReleaseCompress id fresh in
        let own : Contains since (entry.Mover (actor.Session session) w) = subst (λ a. Contains since (entry.Mover a w)) (one_actor by (actor.Session session) t_is) c in
        let wrong : list_any lacks_memory (works_of session since) ≡ true = in_any lacks_memory (works_of session since) w (works_hold session since w own) refl in
        let right = well in
        cc

    comes : IsFound so.half.book (works_of session behind) id → IsKept since id run.last → IsTold left session id ⊎ IsGivenBack behind session id
    comes found (inl held) =
        let claim : Claim = held.0 in
        let other = not_own claim held.1 (same_actor claim.actor (actor.Session session)) refl in
        let beside = alike_claims run.last so.leaves.moment.book looks_alike claim held.1 in
        let twin : Claim = beside.0 in
        let at = since_log origin (from ++ since) so.leaves.moment.state so.leaves.moment.book g so.leaves.moment.followed in
        inl (record {
          by = twin.actor;
          other = ap (λ a. same_actor a (actor.Session session)) beside.2 ∙ other;
          listed = told origin.sizes.group_rows so.leaves.moment.book so.leaves.moment.state.changes at.floor id (closed_ids so.half.book ++ closed_in (works_of session behind)) (actor.Session session) left at.stands so.leaves.are (marked found)
              twin beside.1 (beside.3 ∙ held.2) (ap (λ a. same_actor a (actor.Session session)) beside.2 ∙ other);
        })
    comes found (inr back) = inr (record {
      by = back.0;
      other = not_by back.0 back.1 back.2 (same_actor back.0 (actor.Session session)) refl;
      fresh = back.1;
      stands = subst (λ l. Contains l (entry.Mover back.0 (work.ReleaseCompress id back.1))) (sym so.leaves.split) (Contains-append_left since after (entry.Mover back.0 (work.ReleaseCompress id back.1)) back.2);
    })

  pub compresses : CompressesWhatItFound origin before session left so
  compresses within id found is = comes id within is found (kept id within is found)

pub leaves_so : (origin : Ground) (before rest : List Entry) (session : ℕ) (left : List (ℕ × Actor)) → IsReorganized origin (before ++ entry.Finish session (reply.Left left) ∷ rest) → LeavesGroups origin before session left
leaves_so origin before rest session left r = entry_is origin [] before (entry.Finish session (reply.Left left)) rest r
