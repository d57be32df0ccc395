-- How far a session's REORGANIZE is, from section to section.
use Rattle.std.proofs.Common.{◌≡◌, ℕ, ◌+◌, ◌≤◌, ◌<◌, List, [], ◌∷◌, ◌++◌, refl, sym, ap, subst, ◌∙◌, Bool, true, false, ◌⊎◌, inl, inr, arith, append_assoc, Contains, Result, Ok, Err, IfOk, OnOk}
use Rattle.std.specs.Prelude.{None, Some, map, nat_le}
use Rattle.std.proofs.lemmas.Bool.{leb-false, leb-true}
use Rattle.std.proofs.lemmas.List.{append-nil}
use Rattle.cs_model.specs.declared.entry.Entry.{Entry}
use Rattle.cs_model.specs.declared.entry.Entry.TheVariants.{Mover}
use Rattle.cs_model.specs.declared.work.Actor.{Actor}
use Rattle.cs_model.specs.declared.work.Actor.TheVariants.{Session}
use Rattle.cs_model.specs.declared.work.Work.TheVariants as work
use Rattle.cs_model.specs.Actors.{turns_of}
use Rattle.group_book.specs.Book.{Book}
use Rattle.group_book.specs.Choices.{install_work}
use Rattle.group_directory.specs.declared.ledger.Ledger.{Ledger}
use Rattle.group_log.specs.Followed.{Ground}
use Rattle.group_log.specs.Reorganizing.{closed_ids, held_groups, most_turns, works_of, AreLeft, IsIdle, LeavesGroups, Saw}
use Rattle.group_log.specs.Reports.{line_of}
use Rattle.group_view.specs.declared.claim.Claim.{Claim}
use Rattle.history_gate.specs.Histories.{own_numbers, Tells}
use Rattle.history_gate.specs.Passes.{PassState}
use Rattle.statement_core.specs.Course.{Course}
use Rattle.statement_core.proofs.Courses.{course_begins, course_begins_turn, course_ends_turn, course_on, install_turn, leaves, lent_turn, looked_close, looked_none, looked_unless, may_begin, may_close, may_end, saw_now, saw_on, turning_on}
use Rattle.statement_core.proofs.Works.{works_still}
use Rattle.statement_core.specs.Reorganizes.{IsClosing, IsLedgerAt, IsStartLedger, MayBegin, MayClose, MayEnd, HoldsAt}
use Rattle.statement_core.specs.declared.movers.Turned.TheVariants as turned
use Rattle.session_pool.specs.declared.event.Event.{Event}
use Rattle.session_pool.specs.Events.{entries_in, number_in}
use Rattle.session_pool.specs.Sections.{After, BegunBy, EndedBy, IsFound}
use Rattle.session_pool.specs.Works.{HasBegun, HasStopped, IsUnderWay}
use Rattle.session_pool.proofs.Own.{entries_now, no_turn_between, no_work_between}

-- what follows from a mark follows where there was room for it
pub marked_way : {A M P Q : Type 0} (r : Result A M) → OnOk r P → (P → Q) → IfOk r (λ _. Q)
marked_way (Ok x) ok way = way ok
marked_way (Err m) ok way = tt

-- whether it may make a turn more
pub turns_some : (may : Bool) (turns : ℕ) → may ≡ nat_le 1 turns → may ≡ true → 1 ≤ turns
turns_some may turns is has = let one : nat_le 1 turns ≡ true = sym is ∙ has in leb-true 1 turns one

pub turns_none : (may : Bool) (turns : ℕ) → may ≡ nat_le 1 turns → may ≡ false → turns ≡ 0
turns_none may turns is has = let none : nat_le 1 turns ≡ false = sym is ∙ has in (let over : turns < 1 = leb-false 1 turns none in omega (arith, over))

module _ (origin : Ground) (session : ℕ) where
  -- ---- at one moment

  -- it begins at its Start
  pub begins_at : (log : List Entry) (all : Bool) (ledger : Ledger) (course : Course) → IsStartLedger origin log session all ledger
      → ((book : Book) → ledger.lines ≡ map line_of book.groups → course ≡ record { all = all; turns = most_turns book; marked = closed_ids book }) → HasBegun origin log session course
  begins_at log all ledger course start made = record { from = log; behind = []; split = sym (append-nil log); is = course_begins origin log session all ledger course start made; none = refl }

  -- it is not to look for the open store
  pub way_unless : (log : List Entry) (course : Course) → HasBegun origin log session course → course.all ≡ false → IsUnderWay origin log session course
  way_unless log course x never = record { from = x.from; behind = x.behind; split = x.split; is = looked_unless origin session x.from x.behind course never x.is }

  -- it has made all its turns
  pub stop_made : (log : List Entry) (course : Course) → IsUnderWay origin log session course → course.turns ≡ 0 → HasStopped origin log session course
  stop_made log course x none = record { from = x.from; behind = x.behind; split = x.split; is = x.is; stopped = inl none }

  -- what it leaves, by a last look
  pub leaves_at : (log : List Entry) (course : Course) (ledger : Ledger) (left : List (ℕ × Actor)) → HasStopped origin log session course → IsLedgerAt origin log ledger
      → ((book : Book) → ledger.holders ≡ held_groups book → AreLeft course.marked (Session session) book left) → LeavesGroups origin log session left
  leaves_at log course ledger left x at are =
      let both = leaves origin session x.from x.behind course ledger left x.is x.stopped (subst (λ es. IsLedgerAt origin es ledger) x.split at) are in
      subst (λ es. LeavesGroups origin es session left) (sym x.split) both.1

  -- ---- from a section to the next

  module _ (pass : PassState Event) (has : Contains (own_numbers pass.own) session) (was : Tells number_in pass.own pass.seen) (found : List Event) (is : IsFound pass found) where
    abbrev between : List Entry
    between = entries_in is.seen.0

    came : entries_in found ≡ entries_in pass.seen ++ between
    came = entries_now session pass.own pass.seen found found refl is.seen was is.own has

    no_work : works_of session between ≡ []
    no_work = no_work_between session pass.own pass.seen found found refl is.seen was is.own has

    no_turn : turns_of session between ≡ []
    no_turn = no_turn_between session pass.own pass.seen found found refl is.seen was is.own has

    further : (from behind : List Entry) → entries_in pass.seen ≡ from ++ behind → entries_in found ≡ from ++ (behind ++ between)
    further from behind split = came ∙ ap (λ es. es ++ between) split ∙ append_assoc from behind between

    begun_found : (course : Course) → HasBegun origin (entries_in pass.seen) session course → HasBegun origin (entries_in found) session course
    begun_found course x = record {
      from = x.from;
      behind = x.behind ++ between;
      split = further x.from x.behind x.split;
      is = course_on origin session x.from x.behind course between no_work no_turn x.is;
      none = works_still session x.behind between no_work ∙ x.none;
    }

    way_found : (course : Course) → IsUnderWay origin (entries_in pass.seen) session course → IsUnderWay origin (entries_in found) session course
    way_found course x = record {
      from = x.from;
      behind = x.behind ++ between;
      split = further x.from x.behind x.split;
      is = turning_on origin session x.from x.behind course between no_work no_turn x.is;
    }

    -- what the core asks for
    pub close_may : (course : Course) → HasBegun origin (entries_in pass.seen) session course → course.all ≡ true → MayClose origin (entries_in found) (Session session)
    close_may course x closes =
        let y = begun_found course x in
        subst (λ log. MayClose origin log (Session session)) (sym y.split) (may_close origin session y.from y.behind course closes y.none y.is)

    pub turn_may : (course : Course) → IsUnderWay origin (entries_in pass.seen) session course → 1 ≤ course.turns → MayBegin origin (entries_in found) (Session session)
    turn_may course x some =
        let y = way_found course x in
        subst (λ log. MayBegin origin log (Session session)) (sym y.split) (may_begin origin session y.from y.behind course some y.is)

    pub end_may : (course : Course) → IsUnderWay origin (entries_in pass.seen) session course → MayEnd origin (entries_in found) (Session session)
    end_may course x =
        let y = way_found course x in
        let turning = y.is in
        subst (λ log. MayEnd origin log (Session session)) (sym y.split) (may_end origin session y.from y.behind course turning.is)

    -- the first look
    pub closed_way : (course next : Course) (id : ℕ) (after : List Entry) → HasBegun origin (entries_in pass.seen) session course → IsClosing origin (entries_in found) (Session session) (Some id) after
        → next ≡ record course { marked = course.marked ++ id ∷ [] } → IsUnderWay origin after session next
    closed_way course next id after x closing marks =
        let y = begun_found course x in
        let z = looked_close origin session y.from y.behind course next id after y.none (subst (λ log. IsClosing origin log (Session session) (Some id) after) y.split closing) marks y.is in
        record { from = y.from; behind = y.behind ++ Mover (Session session) (work.Close id) ∷ []; split = z.0; is = z.1 }

    pub none_way : (course : Course) (after : List Entry) → HasBegun origin (entries_in pass.seen) session course → IsClosing origin (entries_in found) (Session session) None after → IsUnderWay origin after session course
    none_way course after x closing =
        let y = begun_found course x in
        let z = looked_none origin session y.from y.behind course after y.none (subst (λ log. IsClosing origin log (Session session) None after) y.split closing) y.is in
        record { from = y.from; behind = y.behind; split = z.0; is = z.1 }

    -- a turn
    pub lent_way : (course next : Course) (claim : Claim) (after : List Entry) → IsUnderWay origin (entries_in pass.seen) session course → course ≡ record next { turns = next.turns + 1 }
        → BegunBy origin (Session session) (turned.Lent claim) (entries_in found) after → IsUnderWay origin after session next
    lent_way course next claim after x uses b =
        let y = way_found course x in
        let piece : List Entry = b.0 in record {
          from = y.from;
          behind = y.behind ++ piece;
          split = b.1 ∙ ap (λ es. es ++ piece) y.split ∙ append_assoc y.from y.behind piece;
          is = course_begins_turn origin session y.from y.behind piece course next (lent_turn origin (entries_in found) session claim piece b.2) uses y.is;
        }

    pub installed_way : (course : Course) (after : List Entry) → IsUnderWay origin (entries_in pass.seen) session course → EndedBy install_work origin (Session session) (entries_in found) after → IsUnderWay origin after session course
    installed_way course after x e =
        let y = way_found course x in
        let piece : List Entry = e.0 in record {
          from = y.from;
          behind = y.behind ++ piece;
          split = e.1 ∙ ap (λ es. es ++ piece) y.split ∙ append_assoc y.from y.behind piece;
          is = course_ends_turn origin session y.from y.behind piece course (install_turn origin (entries_in found) session piece e.2) y.is;
        }

    -- nothing was left
    pub idle_stop : (course : Course) (after : List Entry) → IsUnderWay origin (entries_in pass.seen) session course → after ≡ entries_in found → HoldsAt origin (IsIdle origin.sizes session) (entries_in found) → HasStopped origin after session course
    idle_stop course after x same sees =
        let y = way_found course x in record {
          from = y.from;
          behind = y.behind;
          split = same ∙ y.split;
          is = y.is;
          stopped = inr (saw_now origin (IsIdle origin.sizes session) session y.from y.behind (subst (HoldsAt origin (IsIdle origin.sizes session)) y.split sees));
        }

    -- the last look
    pub stopped_found : (course : Course) (after : List Entry) → HasStopped origin (entries_in pass.seen) session course → after ≡ entries_in found → HasStopped origin after session course
    stopped_found course after x same = record {
      from = x.from;
      behind = x.behind ++ between;
      split = same ∙ further x.from x.behind x.split;
      is = turning_on origin session x.from x.behind course between no_work no_turn x.is;
      stopped = at x.stopped;
    }
      where
        at : (course.turns ≡ 0) ⊎ Saw origin (IsIdle origin.sizes session) session x.from x.behind [] → (course.turns ≡ 0) ⊎ Saw origin (IsIdle origin.sizes session) session x.from (x.behind ++ between) []
        at (inl none) = inl none
        at (inr saw) = inr (saw_on origin (IsIdle origin.sizes session) session x.from x.behind [] between no_work saw)

  -- the last look of one that has made all its turns
  pub looks_stopped : {M : Type 0} (pass : PassState Event) → Contains (own_numbers pass.own) session → Tells number_in pass.own pass.seen → (course : Course) (after : List Entry) → course.turns ≡ 0 → IsUnderWay origin (entries_in pass.seen) session course
      → (r : Result Ledger M) → IfOk r (λ ledger. After pass (λ found. (after ≡ entries_in found) × IsLedgerAt origin (entries_in found) ledger)) → IfOk r (λ _. HasStopped origin after session course)
  looks_stopped pass has was course after none x (Ok ledger) ok = stopped_found pass has was ok.0 ok.1 course after (stop_made (entries_in pass.seen) course x none) ok.2.0
  looks_stopped pass has was course after none x (Err m) ok = tt

  -- the ledger tells what it leaves
  pub leaves_told : {M : Type 0} (log : List Entry) (course : Course) (ledger : Ledger) → HasStopped origin log session course → IsLedgerAt origin log ledger → (r : Result (List (ℕ × Actor)) M)
      → IfOk r (λ left. (book : Book) → ledger.holders ≡ held_groups book → AreLeft course.marked (Session session) book left) → IfOk r (LeavesGroups origin log session)
  leaves_told log course ledger stopped at (Ok left) ok = leaves_at log course ledger left stopped at ok
  leaves_told log course ledger stopped at (Err m) ok = tt
