-- The moves of a REORGANIZE, call by call.
use Rattle.std.proofs.Common.{◌≡◌, ℕ, ◌+◌, ◌≤◌, List, [], ◌∷◌, ◌++◌, refl, sym, ap, subst, ◌∙◌, inl, inr, append_assoc, true, false}
use Rattle.std.specs.Prelude.{All, Option, None, Some, Result, Ok, Err, IfOk}
use Rattle.std.proofs.lemmas.List.{append-nil}
use Rattle.std.proofs.lemmas.List.Elements.{All-nil, All-cons, All-append}
use Rattle.cs_model.specs.declared.entry.Entry.{Entry}
use Rattle.cs_model.specs.declared.entry.Entry.TheVariants.{Mover}
use Rattle.cs_model.specs.declared.work.Actor.{Actor}
use Rattle.cs_model.specs.declared.work.Actor.TheVariants.{Session}
use Rattle.cs_model.specs.declared.work.Work.{Work}
use Rattle.cs_model.specs.declared.work.Work.TheVariants as work
use Rattle.cs_model.specs.Actors.{turns_of}
use Rattle.group_book.specs.Book as book
use Rattle.group_book.specs.Book.{Book, Choice}
use Rattle.group_book.specs.Choices.{install_work}
use Rattle.group_directory.specs.declared.ledger.Ledger.{Ledger}
use Rattle.group_log.specs.Followed.{Ground}
use Rattle.group_log.specs.Reorganizing.{held_groups, AreLeft, IsIdle}
use Rattle.group_view.specs.declared.claim.Claim.{Claim}
use Rattle.statement_core.specs.Course.{Course}
use Rattle.statement_core.specs.Courses.{HasStopped, IsCourse, IsTurning}
use Rattle.statement_core.proofs.Courses.{course_begins_turn, course_ends_turn, half_on, idle_piece, idle_seen, install_turn, leaves, lent_turn, looked_close, looked_none, looks_now, looks_short, may_begin, may_close, saw_now}
use Rattle.script_runner.specs.Moves.{IsWholeTurn, LeavesBoth, MakesTurn, Moved, StopsShort}
use Rattle.script_runner.specs.Schedule.{IsOwnWork}
use Rattle.statement_core.specs.declared.movers.Turned.{Turned}
use Rattle.statement_core.specs.declared.movers.Turned.TheVariants as turned
use Rattle.statement_core.specs.Reorganizes.{IsClosing, IsLedgerAt, MayBegin, MayClose, MayEnd, HoldsAt}
use Rattle.statement_core.specs.Turns.{entry_of, EndsBy, TurnsTo}

-- ---- moves of a session

pub own_one : (session : ℕ) (w : Work) → All (IsOwnWork session) (Mover (Session session) w ∷ [])
own_one session w = All-cons (IsOwnWork session) (Mover (Session session) w) [] refl (All-nil (IsOwnWork session))

own_entry : (session : ℕ) (w : Option Work) → All (IsOwnWork session) (entry_of (Session session) w)
own_entry session None = All-nil (IsOwnWork session)
own_entry session (Some w) = own_one session w

no_turn : (session : ℕ) (w : Option Work) → turns_of session (entry_of (Session session) w) ≡ []
no_turn session None = refl
no_turn session (Some w) = refl

-- no move was made
pub moved_none : (session : ℕ) (log new : List Entry) (P : List Entry → Type 0) → new ≡ log → P [] → Moved session log new P
moved_none session log new P is holds = record { moves = []; is = is ∙ sym (append-nil log); own = All-nil (IsOwnWork session); holds = holds }

-- it stopped before its first move
pub short_none : (origin : Ground) (before : List Entry) (session : ℕ) → StopsShort origin before session []
short_none origin before session = inl refl

-- ---- its first look

module _ (origin : Ground) (log : List Entry) (session : ℕ) (course : Course) (is : IsCourse origin session log [] course) where
  pub closes_may : course.all ≡ true → MayClose origin log (Session session)
  closes_may closes = subst (λ es. MayClose origin es (Session session)) (append-nil log) (may_close origin session log [] course closes refl is)

  at_nil : (closed : Option ℕ) (new : List Entry) → IsClosing origin log (Session session) closed new → IsClosing origin (log ++ []) (Session session) closed new
  at_nil closed new closing = subst (λ es. IsClosing origin es (Session session) closed new) (sym (append-nil log)) closing

  pub looked_nothing : (new : List Entry) → IsClosing origin log (Session session) None new → Moved session log new (λ moves. IsTurning origin session log moves course)
  looked_nothing new closing =
      let x = looked_none origin session log [] course new refl (at_nil None new closing) is in
      moved_none session log new (λ moves. IsTurning origin session log moves course) (x.0 ∙ append-nil log) x.1

  pub looked_closed : (new : List Entry) (next : Course) (id : ℕ) → IsClosing origin log (Session session) (Some id) new → next ≡ record course { marked = course.marked ++ id ∷ [] }
      → Moved session log new (λ moves. IsTurning origin session log moves next)
  looked_closed new next id closing marks =
      let x = looked_close origin session log [] course next id new refl (at_nil (Some id) new closing) marks is in
      record { moves = Mover (Session session) (work.Close id) ∷ []; is = x.0; own = own_one session (work.Close id); holds = x.1 }

  -- it closed the store, and had no memory to note that
  pub short_close : (new : List Entry) (id : ℕ) → IsClosing origin log (Session session) (Some id) new → Moved session log new (StopsShort origin log session)
  short_close new id closing =
      let next : Course = record course { marked = course.marked ++ id ∷ [] } in
      let closed = looked_close origin session log [] course next id new refl (at_nil (Some id) new closing) refl is in
      let moves : List Entry = Mover (Session session) (work.Close id) ∷ [] in
      let looked = looks_now origin session log moves next closed.1 in
      record { moves = moves; is = closed.0; own = own_one session (work.Close id); holds = inr (record { half = looked.0; looked = looked.1 }) }

-- ---- a turn

-- a call made such entries
abbrev pub Goes : List Entry → List Entry → (List Entry → Type 0) → Type 0
Goes log new P = (piece : List Entry) × (new ≡ log ++ piece) × P piece

-- moves of the session, whatever they are
abbrev pub GoesOwn : ℕ → List Entry → List Entry → Type 0
GoesOwn session log new = Goes log new (All (IsOwnWork session))

module _ (origin now : Ground) (log mid new : List Entry) (session : ℕ) (same : now ≡ origin) where
  abbrev Turns : Turned → Type 0
  Turns given = Goes log mid (TurnsTo origin log (Session session) given)

  -- after the claim it may end its turn
  pub may_install : (given : Turned) → MayBegin origin log (Session session) → Turns given → MayEnd now mid (Session session)
  may_install given may x =
      subst (λ o. MayEnd o mid (Session session)) (sym same) (half_on x.0 x.1 (ap (turns_of session) (let t = x.2 in t.entry) ∙ no_turn session (let t = x.2 in t.work)) may.half)

  module _ (ends : Choice → book.Claim → Option Work) (given : Turned) (x : Turns given) (y : Goes mid new (EndsBy ends now mid (Session session))) where
    both_go : new ≡ log ++ (x.0 ++ y.0)
    both_go = y.1 ∙ ap (λ es. es ++ y.0) x.1 ∙ append_assoc log x.0 y.0

    both_own : All (IsOwnWork session) (x.0 ++ y.0)
    both_own =
        let t = x.2 in
        let u = y.2 in
        let first : All (IsOwnWork session) x.0 = subst (All (IsOwnWork session)) (sym t.entry) (own_entry session t.work) in
        let last : All (IsOwnWork session) y.0 = subst (All (IsOwnWork session)) (sym u.entry) (own_one session u.work) in
        All-append (IsOwnWork session) x.0 y.0 first last

  pub whole_turn : (claim : Claim) (old next : Course) → Turns (turned.Lent claim) → Goes mid new (EndsBy install_work now mid (Session session)) → old ≡ record next { turns = next.turns + 1 }
      → Moved session log new (MakesTurn origin session log old next true)
  whole_turn claim old next x y counts = record {
    moves = x.0 ++ y.0;
    is = both_go install_work (turned.Lent claim) x y;
    own = both_own install_work (turned.Lent claim) x y;
    holds = (record { first = x.0; last = y.0; joined = refl; begins = lent_turn origin log session claim x.0 x.2; ends = install_turn now mid session y.0 y.2 }, counts);
  }

-- it found nothing to do
pub idle_turn : (origin : Ground) (log new : List Entry) (session : ℕ) (course : Course) → Goes log new (TurnsTo origin log (Session session) turned.Idle) → Moved session log new (MakesTurn origin session log course course false)
idle_turn origin log new session course x =
    moved_none session log new (MakesTurn origin session log course course false) (x.1 ∙ ap (λ es. log ++ es) (idle_piece origin log session x.0 x.2) ∙ append-nil log)
    (refl, refl, idle_seen origin log session x.0 x.2)

-- ---- all its turns

module _ (origin now : Ground) (from log : List Entry) (session : ℕ) (course : Course) (same : now ≡ origin) (x : Moved session from log (λ moves. IsTurning origin session from moves course)) where
  pub may_turn : 1 ≤ course.turns → MayBegin now log (Session session)
  may_turn some =
      subst (λ o. MayBegin o log (Session session)) (sym same)
      (subst (λ es. MayBegin origin es (Session session)) (sym x.is) (may_begin origin session from x.moves course some x.holds))

  turn_on : (next : Course) (moves : List Entry) → IsWholeTurn session moves → course ≡ record next { turns = next.turns + 1 } → IsTurning origin session from (x.moves ++ moves) next
  turn_on next moves w counts =
      let begun = course_begins_turn origin session from x.moves w.first course next w.begins counts x.holds in
      let ended = course_ends_turn origin session from (x.moves ++ w.first) w.last next w.ends begun in
      subst (λ es. IsTurning origin session from es next) (append_assoc x.moves w.first w.last ∙ ap (λ es. x.moves ++ es) (sym w.joined)) ended

  -- further moves after those so far
  further : (new : List Entry) (moves : List Entry) → new ≡ log ++ moves → new ≡ from ++ (x.moves ++ moves)
  further new moves is = is ∙ ap (λ es. es ++ moves) x.is ∙ append_assoc from x.moves moves

  pub moved_turn : (next : Course) (new : List Entry) → Moved session log new (MakesTurn now session log course next true) → Moved session from new (λ moves. IsTurning origin session from moves next)
  moved_turn next new y = record {
    moves = x.moves ++ y.moves;
    is = further new y.moves y.is;
    own = All-append (IsOwnWork session) x.moves y.moves x.own y.own;
    holds = let made = y.holds in turn_on next y.moves made.0 made.1;
  }

  -- it stops where there is nothing to do
  pub moved_idle : (next : Course) (new : List Entry) → Moved session log new (MakesTurn now session log course next false) → Moved session from new (λ moves. HasStopped origin session from moves next)
  moved_idle next new y =
      let made = y.holds in
      let still : new ≡ log = y.is ∙ ap (λ es. log ++ es) made.0 ∙ append-nil log in
      let seen = subst (λ o. HoldsAt o (IsIdle o.sizes session) log) same made.2 in
      record {
        moves = x.moves;
        is = still ∙ x.is;
        own = x.own;
        holds = record {
          turning = subst (IsTurning origin session from x.moves) (sym made.1) x.holds;
          stopped = inr (saw_now origin (IsIdle origin.sizes session) session from x.moves (subst (HoldsAt origin (IsIdle origin.sizes session)) x.is seen));
        };
      }

  -- or where memory was wanting
  pub moved_short : (new : List Entry) → GoesOwn session log new → Moved session from new (StopsShort origin from session)
  moved_short new y =
      let looked = looks_short origin session from x.moves course y.0 x.holds in
      record {
        moves = x.moves ++ y.0;
        is = further new y.0 y.1;
        own = All-append (IsOwnWork session) x.moves y.0 x.own y.2;
        holds = inr (record { half = looked.0; looked = looked.1 });
      }

-- ---- its last look

module _ (origin now : Ground) (from log : List Entry) (session : ℕ) (course : Course) (same : now ≡ origin) (x : Moved session from log (λ moves. HasStopped origin session from moves course)) where
  pub moved_left : (ledger : Ledger) (left : List (ℕ × Actor)) → IsLedgerAt now log ledger → ((b : Book) → ledger.holders ≡ held_groups b → AreLeft course.marked (Session session) b left)
      → Moved session from log (LeavesBoth origin from session left)
  moved_left ledger left at are =
      let there = subst (λ es. IsLedgerAt origin es ledger) x.is (subst (λ o. IsLedgerAt o log ledger) same at) in
      let both = leaves origin session from x.moves course ledger left x.holds.turning x.holds.stopped there are in
      record { moves = x.moves; is = x.is; own = x.own; holds = (record { half = both.0.0; leaves = both.0.1 }, both.1) }

  -- memory was wanting for it
  pub moved_blind : Moved session from log (StopsShort origin from session)
  moved_blind =
      let looked = looks_now origin session from x.moves course x.holds.turning in
      record { moves = x.moves; is = x.is; own = x.own; holds = inr (record { half = looked.0; looked = looked.1 }) }

-- what follows for what was given
pub ok_more : {T E : Type 0} (P Q : T → Type 0) (r : Result T E) → ((x : T) → P x → Q x) → IfOk r P → IfOk r Q
ok_more P Q (Ok x) f h = f x h
ok_more P Q (Err e) f h = tt
