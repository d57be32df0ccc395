-- The course of a REORGANIZE along a log: it begins with the Start's ledger; goes on with what others do; takes each look and turn; and
-- gives what the core's calls ask for, and what it leaves.
use Rattle.std.proofs.Common.{◌≡◌, ℕ, ◌+◌, ◌≤◌, List, [], ◌∷◌, ◌++◌, map, refl, sym, ap, subst, ◌∙◌, cond, Bool, true, false, Option, None, Some, append_assoc, arith, inl, inr}
use Rattle.std.specs.Prelude.{◌⊎◌, ◌||◌, IsSome}
use Rattle.std.specs.List.{list_any}
use Rattle.std.proofs.lemmas.Grind.{flat_map-append}
use Rattle.std.proofs.lemmas.List.{append-nil}
use Rattle.std.proofs.lemmas.List.Folds.{list_any-append}
use Rattle.cs_model.specs.declared.entry.Entry.{Entry}
use Rattle.cs_model.specs.declared.entry.Entry.TheVariants.{Start, Mover}
use Rattle.cs_model.specs.declared.work.Actor.{Actor}
use Rattle.cs_model.specs.declared.work.Actor.TheVariants.{Session}
use Rattle.cs_model.specs.declared.work.Work.{Work}
use Rattle.cs_model.specs.declared.work.Work.TheVariants as work
use Rattle.cs_model.specs.Actors.{turns_of}
use Rattle.cs_model.specs.State.{State}
use Rattle.group_book.specs.Book.{Choice, Book}
use Rattle.group_book.specs.Book.Choice.{Settle, Clear}
use Rattle.group_book.specs.Choices.{choice, choices, first_some, choice_work, install_work}
use Rattle.group_book.proofs.Lists.{how_many-append}
use Rattle.group_log.specs.Followed.{Ground, Followed, Moment}
use Rattle.group_log.specs.Reorganizing.{begins_turn, closed_by, closed_ids, closed_in, from_start, held_groups, most_turns, begun_turns, works_of, AreLeft, HasLooked, HasNoneOpen, IsHalfDone, IsIdle, LeavesFrom, LeavesGroups, Saw}
use Rattle.cs_model.specs.Works.{lacks_memory}
use Rattle.group_log.specs.Reports.{line_of}
use Rattle.group_view.specs.declared.claim.Claim as lent
use Rattle.group_directory.specs.declared.ledger.Ledger.{Ledger}
use Rattle.statement_core.specs.declared.movers.Turned.TheVariants as turned
use Rattle.statement_core.specs.Reorganizes.{IsClosing, IsLedgerAt, IsStartLedger, MayBegin, MayClose, MayEnd, HoldsAt}
use Rattle.statement_core.specs.Turns.{entry_of, EndsBy, TurnsTo}
use Rattle.statement_core.specs.Course.{Course}
use Rattle.statement_core.specs.Courses.{IsCourse, IsTurning, IsTurnOf}
use Rattle.statement_core.proofs.Works.{choice_turns, install_turns, no_work, session_chooses, turns_first, turns_still, work_one, works_first, works_more, works_still, IsOfSession}

-- ---- moments, and what it saw

abbrev pub moment_at : {origin : Ground} {log same : List Entry} → log ≡ same → Moment origin log → Moment origin same
moment_at {origin} is moment = record { state = moment.state; book = moment.book; followed = subst (λ entries. Followed origin entries moment.state moment.book) is moment.followed }

-- what is so at the log's end was seen, without a work after it
pub saw_now : (origin : Ground) (P : State → Book → Type 0) (session : ℕ) (from behind : List Entry) → HoldsAt origin P (from ++ behind) → Saw origin P session from behind []
saw_now origin P session from behind sees = record { since = behind; rest = []; split = sym (append-nil behind); after = refl; moment = sees.moment; holds = sees.holds }

-- it stays seen, and further works stand after it
pub saw_more : (origin : Ground) (P : State → Book → Type 0) (session : ℕ) (from behind : List Entry) (works : List Work) (entries : List Entry) → Saw origin P session from behind works
    → Saw origin P session from (behind ++ entries) (works ++ works_of session entries)
saw_more origin P session from behind works entries saw = record {
  since = saw.since;
  rest = saw.rest ++ entries;
  split = ap (λ es. es ++ entries) saw.split ∙ append_assoc saw.since saw.rest entries;
  after = works_more session saw.rest entries ∙ ap (λ ws. ws ++ works_of session entries) saw.after;
  moment = saw.moment;
  holds = saw.holds;
}

pub saw_on : (origin : Ground) (P : State → Book → Type 0) (session : ℕ) (from behind : List Entry) (works : List Work) (entries : List Entry) → works_of session entries ≡ []
    → Saw origin P session from behind works → Saw origin P session from (behind ++ entries) works
saw_on origin P session from behind works entries none saw =
    subst (Saw origin P session from (behind ++ entries)) (ap (λ ws. works ++ ws) none ∙ append-nil works) (saw_more origin P session from behind works entries saw)

-- what was seen after a log was seen after a prefix of it
pub saw_before : (origin : Ground) (P : State → Book → Type 0) (session : ℕ) (from more behind : List Entry) (works : List Work) → Saw origin P session (from ++ more) behind works
    → Saw origin P session from (more ++ behind) works
saw_before origin P session from more behind works saw = record {
  since = more ++ saw.since;
  rest = saw.rest;
  split = ap (λ es. more ++ es) saw.split ∙ sym (append_assoc more saw.since saw.rest);
  after = saw.after;
  moment = moment_at (append_assoc from more saw.since) saw.moment;
  holds = saw.holds;
}

-- whatever follows, it has looked for the open store
pub looked_on : (origin : Ground) (session : ℕ) (all : Bool) (from behind entries : List Entry) → HasLooked origin session all from behind → HasLooked origin session all from (behind ++ entries)
looked_on origin session all from behind entries looked closes = at (looked closes)
  where
    both : works_of session (behind ++ entries) ≡ works_of session behind ++ works_of session entries
    both = works_more session behind entries

    at : ((id : ℕ) × (works : List Work) × (works_of session behind ≡ work.Close id ∷ works)) ⊎ Saw origin HasNoneOpen session from behind (works_of session behind)
        → ((id : ℕ) × (works : List Work) × (works_of session (behind ++ entries) ≡ work.Close id ∷ works)) ⊎ Saw origin HasNoneOpen session from (behind ++ entries) (works_of session (behind ++ entries))
    at (inl closed) = inl (closed.0, closed.1 ++ works_of session entries, both ∙ ap (λ ws. ws ++ works_of session entries) closed.2)
    at (inr saw) = inr (subst (Saw origin HasNoneOpen session from (behind ++ entries)) (sym both) (saw_more origin HasNoneOpen session from behind (works_of session behind) entries saw))

pub looked_before : (origin : Ground) (session : ℕ) (all : Bool) (from more behind : List Entry) → works_of session more ≡ [] → HasLooked origin session all (from ++ more) behind
    → HasLooked origin session all from (more ++ behind)
looked_before origin session all from more behind none looked closes = at (looked closes)
  where
    same : works_of session (more ++ behind) ≡ works_of session behind
    same = works_first session more behind none

    at : ((id : ℕ) × (works : List Work) × (works_of session behind ≡ work.Close id ∷ works)) ⊎ Saw origin HasNoneOpen session (from ++ more) behind (works_of session behind)
        → ((id : ℕ) × (works : List Work) × (works_of session (more ++ behind) ≡ work.Close id ∷ works)) ⊎ Saw origin HasNoneOpen session from (more ++ behind) (works_of session (more ++ behind))
    at (inl closed) = inl (closed.0, closed.1, same ∙ closed.2)
    at (inr saw) = inr (subst (Saw origin HasNoneOpen session from (more ++ behind)) (sym same) (saw_before origin HasNoneOpen session from more behind (works_of session behind) saw))

-- ---- half done

-- it stays half done while its session makes no Start, Finish or End
abbrev pub half_on : {origin : Ground} {log later : List Entry} {session : ℕ} (entries : List Entry) → later ≡ log ++ entries → turns_of session entries ≡ [] → IsHalfDone origin log session
    → IsHalfDone origin later session
half_on {session = session} entries is still half = record {
  all = half.all;
  state = half.state;
  book = half.book;
  begun = record {
    before = half.begun.before;
    bound = half.begun.bound;
    short = half.begun.short;
    behind = half.begun.behind ++ entries;
    split = is ∙ ap (λ es. es ++ entries) half.begun.split ∙ append_assoc half.begun.before (Start session half.begun.bound half.begun.short ∷ half.begun.behind) entries;
    others = turns_still session half.begun.behind entries half.begun.others still;
    is = half.begun.is;
    followed = half.begun.followed;
  };
}

-- it was half done before what stands after
abbrev pub half_before : {origin : Ground} {session : ℕ} {from behind : List Entry} {course : Course} → IsCourse origin session from behind course → IsHalfDone origin from session
half_before {session = session} {behind = behind} x = record {
  all = x.half.all;
  state = x.half.state;
  book = x.half.book;
  begun = record {
    before = x.half.begun.before;
    bound = x.half.begun.bound;
    short = x.half.begun.short;
    behind = x.more;
    split = x.begins ∙ append_assoc x.half.begun.before (Start session x.half.begun.bound x.half.begun.short ∷ []) x.more;
    others = turns_first session x.more behind (sym (ap (turns_of session) x.goes) ∙ x.half.begun.others);
    is = x.half.begun.is;
    followed = x.half.begun.followed;
  };
}

-- ---- the course goes on

-- its course after further entries, by the session's works among these
course_more : (origin : Ground) (session : ℕ) (from behind entries : List Entry) (course next : Course) (works : List Work) → turns_of session entries ≡ [] → works_of session entries ≡ works
    → list_any lacks_memory works ≡ false → next.all ≡ course.all → next.turns + begun_turns works ≡ course.turns → next.marked ≡ course.marked ++ closed_in works
    → IsCourse origin session from behind course → IsCourse origin session from (behind ++ entries) next
course_more origin session from behind entries course next works still own well all turns marked x =
    let before : List Work = works_of session behind in
    let both : works_of session (behind ++ entries) ≡ before ++ works = works_more session behind entries ∙ ap (λ ws. before ++ ws) own in
    let count : begun_turns (works_of session (behind ++ entries)) ≡ begun_turns before + begun_turns works = ap begun_turns both ∙ how_many-append begins_turn before works in
    let used = x.turns in
    record {
      half = half_on entries (sym (append_assoc from behind entries)) still x.half;
      more = x.more;
      begins = x.begins;
      goes = ap (λ es. es ++ entries) x.goes ∙ append_assoc x.more behind entries;
      none = x.none;
      all = x.all ∙ sym all;
      turns = omega (arith, count, turns, used);
      marked =
          marked
          ∙ ap (λ ids. ids ++ closed_in works) x.marked
          ∙ append_assoc (closed_ids x.half.book) (closed_in before) (closed_in works)
          ∙ ap (λ ids. closed_ids x.half.book ++ ids) (sym (flat_map-append closed_by before works) ∙ sym (ap closed_in both));
      well = ap (list_any lacks_memory) both ∙ list_any-append lacks_memory before works ∙ ap (λ t. t || list_any lacks_memory works) x.well ∙ well;
    }

pub course_on : (origin : Ground) (session : ℕ) (from behind : List Entry) (course : Course) (entries : List Entry) → works_of session entries ≡ [] → turns_of session entries ≡ []
    → IsCourse origin session from behind course → IsCourse origin session from (behind ++ entries) course
course_on origin session from behind course entries none still x =
    course_more origin session from behind entries course course [] still none refl refl (omega arith) (sym (append-nil course.marked)) x

pub turning_on : (origin : Ground) (session : ℕ) (from behind : List Entry) (course : Course) (entries : List Entry) → works_of session entries ≡ [] → turns_of session entries ≡ []
    → IsTurning origin session from behind course → IsTurning origin session from (behind ++ entries) course
turning_on origin session from behind course entries none still x = record {
  is = course_on origin session from behind course entries none still x.is;
  looked = looked_on origin session course.all from behind entries x.looked;
}

-- ---- it begins

pub course_begins : (origin : Ground) (log : List Entry) (session : ℕ) (all : Bool) (ledger : Ledger) (course : Course) → IsStartLedger origin log session all ledger
    → ((book : Book) → ledger.lines ≡ map line_of book.groups → course ≡ record { all = all; turns = most_turns book; marked = closed_ids book }) → IsCourse origin session log [] course
course_begins origin log session all ledger course start made =
    let half = start.half in
    let is : course ≡ record { all = all; turns = most_turns half.book; marked = closed_ids half.book } = made half.book start.of.lines in
    let turns : course.turns ≡ most_turns half.book = ap (λ (c : Course). c.turns) is in
    record {
      half = half_on [] (refl {a = log ++ []}) refl half;
      more = half.begun.behind;
      begins = half.begun.split ∙ sym (append_assoc half.begun.before (Start session half.begun.bound half.begun.short ∷ []) half.begun.behind);
      goes = refl;
      none = start.first;
      all = start.same ∙ sym (ap (λ (c : Course). c.all) is);
      turns = omega (arith, turns);
      marked = ap (λ (c : Course). c.marked) is ∙ sym (append-nil (closed_ids half.book));
      well = refl;
    }

-- ---- its first look

-- it is not to close the open store
pub looked_unless : (origin : Ground) (session : ℕ) (from behind : List Entry) (course : Course) → course.all ≡ false → IsCourse origin session from behind course → IsTurning origin session from behind course
looked_unless origin session from behind course never x = record { is = x; looked = λ closes. absurd (cc (never, closes)) }

-- it has closed the open store
pub looked_close : (origin : Ground) (session : ℕ) (from behind : List Entry) (course next : Course) (id : ℕ) (log : List Entry) → works_of session behind ≡ []
    → IsClosing origin (from ++ behind) (Session session) (Some id) log → next ≡ record course { marked = course.marked ++ id ∷ [] } → IsCourse origin session from behind course
    → (log ≡ from ++ (behind ++ Mover (Session session) (work.Close id) ∷ [])) × IsTurning origin session from (behind ++ Mover (Session session) (work.Close id) ∷ []) next
looked_close origin session from behind course next id log first closing is x =
    let entry : Entry = Mover (Session session) (work.Close id) in
    let own : works_of session (entry ∷ []) ≡ work.Close id ∷ [] = work_one session (work.Close id) in
    let turns : next.turns ≡ course.turns = ap (λ (c : Course). c.turns) is in (
      closing ∙ append_assoc from behind (entry ∷ []),
      record {
        is =
            course_more origin session from behind (entry ∷ []) course next (work.Close id ∷ []) refl own refl (ap (λ (c : Course). c.all) is) (omega (arith, turns))
            (ap (λ (c : Course). c.marked) is) x;
        looked = λ _. inl (id, [], works_first session behind (entry ∷ []) first ∙ own);
      },
    )

-- no store was open
pub looked_none : (origin : Ground) (session : ℕ) (from behind : List Entry) (course : Course) (log : List Entry) → works_of session behind ≡ []
    → IsClosing origin (from ++ behind) (Session session) None log → IsCourse origin session from behind course → (log ≡ from ++ behind) × IsTurning origin session from behind course
looked_none origin session from behind course log first closing x =
    let saw : Saw origin HasNoneOpen session from behind [] = saw_now origin HasNoneOpen session from behind closing.1 in
    (closing.0, record { is = x; looked = λ _. inr (subst (Saw origin HasNoneOpen session from behind) (sym first) saw) })

-- ---- what the core's calls ask for

-- it has looked, by all that stands after its Start
looked_half : (origin : Ground) (session : ℕ) (from behind : List Entry) (course : Course) (x : IsTurning origin session from behind course)
    → HasLooked origin session x.is.half.all (from_start x.is.half.begun) x.is.half.begun.behind
looked_half origin session from behind course x =
    let start = from_start x.is.half.begun in
    let at : HasLooked origin session course.all (start ++ x.is.more) behind = subst (λ es. HasLooked origin session course.all es behind) x.is.begins x.looked in
    let behind_start : HasLooked origin session course.all start (x.is.more ++ behind) = looked_before origin session course.all start x.is.more behind x.is.none at in
    subst (λ es. HasLooked origin session x.is.half.all start es) (sym x.is.goes) (subst (λ all. HasLooked origin session all start (x.is.more ++ behind)) (sym x.is.all) behind_start)

-- it made no other works
half_works : (origin : Ground) (session : ℕ) (from behind : List Entry) (course : Course) (x : IsCourse origin session from behind course) → works_of session x.half.begun.behind ≡ works_of session behind
half_works origin session from behind course x = ap (works_of session) x.goes ∙ works_first session x.more behind x.none

pub may_close : (origin : Ground) (session : ℕ) (from behind : List Entry) (course : Course) → course.all ≡ true → works_of session behind ≡ [] → IsCourse origin session from behind course
    → MayClose origin (from ++ behind) (Session session)
may_close origin session from behind course closes first x = record { half = x.half; all = x.all ∙ closes; first = half_works origin session from behind course x ∙ first }

pub may_begin : (origin : Ground) (session : ℕ) (from behind : List Entry) (course : Course) → 1 ≤ course.turns → IsTurning origin session from behind course → MayBegin origin (from ++ behind) (Session session)
may_begin origin session from behind course some x =
    let works : works_of session x.is.half.begun.behind ≡ works_of session behind = half_works origin session from behind course x.is in
    let made : begun_turns (works_of session x.is.half.begun.behind) ≡ begun_turns (works_of session behind) = ap begun_turns works in
    let used = x.is.turns in
    record {
      half = x.is.half;
      may = record { looked = looked_half origin session from behind course x; room = omega (arith, made, used, some); well = ap (list_any lacks_memory) works ∙ x.is.well };
    }

pub may_end : (origin : Ground) (session : ℕ) (from behind : List Entry) (course : Course) → IsCourse origin session from behind course → MayEnd origin (from ++ behind) (Session session)
may_end origin session from behind course x = x.half

-- ---- its turns

-- a claim is the first work of a turn
pub lent_turn : (origin : Ground) (log : List Entry) (session : ℕ) (claim : lent.Claim) (piece : List Entry) → TurnsTo origin log (Session session) (turned.Lent claim) piece → IsTurnOf session true piece
lent_turn origin log session claim piece x = at x.work (x.first.2, x.first.3) refl
  where
    made : Choice
    made = choice x.floor origin.sizes.group_rows (Session session) x.moment.book

    at : (w : Option Work) → IsSome w × (choice_work made x.floor x.moment.book ≡ w) → x.work ≡ w → IsTurnOf session true piece
    at None first is = absurd (cc first.0)
    at (Some w) first is = record { work = w; is = choice_turns made x.floor x.moment.book w first.1; entry = x.entry ∙ ap (entry_of (Session session)) is }

-- a session's turn is not one of one event
pub never_alone : (origin : Ground) (log : List Entry) (session : ℕ) (piece : List Entry) → TurnsTo origin log (Session session) turned.Alone piece → ⊥
never_alone origin log session piece x = at (session_chooses session x.moment.book.next (first_some (choices x.floor origin.sizes.group_rows x.moment.book))) x.first.0
  where
    made : Choice
    made = choice x.floor origin.sizes.group_rows (Session session) x.moment.book

    at : IsOfSession made → (made ≡ Settle) ⊎ (made ≡ Clear) → ⊥
    at of (inl settles) = subst IsOfSession settles of
    at of (inr clears) = subst IsOfSession clears of

-- at the moment of a turn that found nothing to do its choice is Idle
pub idle_seen : (origin : Ground) (log : List Entry) (session : ℕ) (piece : List Entry) → TurnsTo origin log (Session session) turned.Idle piece → HoldsAt origin (IsIdle origin.sizes session) log
idle_seen origin log session piece x = record {
  moment = x.moment;
  holds = record { floor = x.floor; is_floor = x.is_floor; idle = no_work (choice x.floor origin.sizes.group_rows (Session session) x.moment.book) x.floor x.moment.book x.first.0 };
}

-- such a turn makes no event
pub idle_piece : (origin : Ground) (log : List Entry) (session : ℕ) (piece : List Entry) → TurnsTo origin log (Session session) turned.Idle piece → piece ≡ []
idle_piece origin log session piece x = x.entry ∙ ap (entry_of (Session session)) x.first.1

-- one that found no memory makes the event that says so
pub short_piece : (origin : Ground) (log : List Entry) (session : ℕ) (piece : List Entry) → TurnsTo origin log (Session session) turned.Short piece → piece ≡ Mover (Session session) work.Memory ∷ []
short_piece origin log session piece x = x.entry ∙ ap (entry_of (Session session)) x.first.1

-- an install is the last work of a turn
pub install_turn : (origin : Ground) (log : List Entry) (session : ℕ) (piece : List Entry) → EndsBy install_work origin log (Session session) piece → IsTurnOf session false piece
install_turn origin log session piece x = record { work = x.work; is = install_turns x.claim.choice x.claim x.work x.of_claim; entry = x.entry }

-- one work of a turn more: its first work uses up a turn
turn_more : (origin : Ground) (session : ℕ) (begins : Bool) (from behind piece : List Entry) (course next : Course) → IsTurnOf session begins piece → next.all ≡ course.all → next.marked ≡ course.marked
    → next.turns + begun_turns (works_of session piece) ≡ course.turns → IsTurning origin session from behind course → IsTurning origin session from (behind ++ piece) next
turn_more origin session begins from behind piece course next of all marked turns x =
    let own : works_of session piece ≡ of.work ∷ [] = ap (works_of session) of.entry ∙ work_one session of.work in
    let count : begun_turns (works_of session piece) ≡ begun_turns (of.work ∷ []) = ap begun_turns own in
    let closes : closed_in (of.work ∷ []) ≡ [] = ap (λ ids. ids ++ []) of.is.closes in
    record {
      is =
          course_more origin session from behind piece course next (of.work ∷ []) (ap (turns_of session) of.entry) own (ap (λ t. t || false) of.is.well) all (omega (arith, count, turns))
          (marked ∙ sym (append-nil course.marked) ∙ ap (λ ids. course.marked ++ ids) (sym closes)) x.is;
      looked = subst (λ closing. HasLooked origin session closing from (behind ++ piece)) (sym all) (looked_on origin session course.all from behind piece x.looked);
    }

pub course_begins_turn : (origin : Ground) (session : ℕ) (from behind piece : List Entry) (course next : Course) → IsTurnOf session true piece → course ≡ record next { turns = next.turns + 1 }
    → IsTurning origin session from behind course → IsTurning origin session from (behind ++ piece) next
course_begins_turn origin session from behind piece course next of is x =
    let used : course.turns ≡ next.turns + 1 = ap (λ (c : Course). c.turns) is in
    let begun : begins_turn of.work ≡ true = of.is.begins in
    let one : begun_turns (works_of session piece) ≡ 1 = ap (λ es. begun_turns (works_of session es)) of.entry ∙ ap begun_turns (work_one session of.work) ∙ ap (λ t. cond t 1 0 + 0) begun in
    turn_more origin session true from behind piece course next of (sym (ap (λ (c : Course). c.all) is)) (sym (ap (λ (c : Course). c.marked) is)) (omega (arith, used, one)) x

pub course_ends_turn : (origin : Ground) (session : ℕ) (from behind piece : List Entry) (course : Course) → IsTurnOf session false piece → IsTurning origin session from behind course
    → IsTurning origin session from (behind ++ piece) course
course_ends_turn origin session from behind piece course of x =
    let begun : begins_turn of.work ≡ false = of.is.begins in
    let none : begun_turns (works_of session piece) ≡ 0 = ap (λ es. begun_turns (works_of session es)) of.entry ∙ ap begun_turns (work_one session of.work) ∙ ap (λ t. cond t 1 0 + 0) begun in
    turn_more origin session false from behind piece course course of refl refl (omega (arith, none)) x

-- ---- what it leaves

-- it has looked for the open store, by what stands after the log from which its course is told
pub looks_now : (origin : Ground) (session : ℕ) (from behind : List Entry) (course : Course) → IsTurning origin session from behind course
    → (half : IsHalfDone origin from session) × HasLooked origin session half.all from behind
looks_now origin session from behind course x = (half_before x.is, subst (λ all. HasLooked origin session all from behind) (sym x.is.all) x.looked)

-- so it has where it ended short, whatever followed
pub looks_short : (origin : Ground) (session : ℕ) (from behind : List Entry) (course : Course) (entries : List Entry) → IsTurning origin session from behind course
    → (half : IsHalfDone origin from session) × HasLooked origin session half.all from (behind ++ entries)
looks_short origin session from behind course entries x =
    (half_before x.is, subst (λ all. HasLooked origin session all from (behind ++ entries)) (sym x.is.all) (looked_on origin session course.all from behind entries x.looked))

leaves_course : (origin : Ground) (session : ℕ) (from behind : List Entry) (course : Course) (ledger : Ledger) (left : List (ℕ × Actor)) (x : IsTurning origin session from behind course)
    → (course.turns ≡ 0) ⊎ Saw origin (IsIdle origin.sizes session) session from behind [] → IsLedgerAt origin (from ++ behind) ledger
    → ((book : Book) → ledger.holders ≡ held_groups book → AreLeft course.marked (Session session) book left) → LeavesFrom origin session x.is.half.all x.is.half.book from behind left
leaves_course origin session from behind course ledger left x stopped at are = record {
  looked = subst (λ all. HasLooked origin session all from behind) (sym x.is.all) x.looked;
  well = x.is.well;
  since = behind;
  rest = [];
  split = sym (append-nil behind);
  last = refl;
  stopped = stops stopped;
  moment = at.moment;
  are = subst (λ marked. AreLeft marked (Session session) at.moment.book left) x.is.marked (are at.moment.book at.holds.holders);
}
  where
    stops : (course.turns ≡ 0) ⊎ Saw origin (IsIdle origin.sizes session) session from behind []
        → (begun_turns (works_of session behind) ≡ most_turns x.is.half.book) ⊎ Saw origin (IsIdle origin.sizes session) session from behind []
    stops (inl none) = let used = x.is.turns in inl (omega (arith, used, none))
    stops (inr saw) = inr saw

leaves_before : (origin : Ground) (session : ℕ) (all : Bool) (start : Book) (from more behind : List Entry) (left : List (ℕ × Actor)) → works_of session more ≡ []
    → LeavesFrom origin session all start (from ++ more) behind left → LeavesFrom origin session all start from (more ++ behind) left
leaves_before origin session all start from more behind left none x = record {
  looked = looked_before origin session all from more behind none x.looked;
  well = ap (list_any lacks_memory) same ∙ x.well;
  since = more ++ x.since;
  rest = x.rest;
  split = ap (λ es. more ++ es) x.split ∙ sym (append_assoc more x.since x.rest);
  last = x.last;
  stopped = stops x.stopped;
  moment = moment_at (append_assoc from more x.since) x.moment;
  are = subst (λ works. AreLeft (closed_ids start ++ closed_in works) (Session session) x.moment.book left) (sym same) x.are;
}
  where
    same : works_of session (more ++ behind) ≡ works_of session behind
    same = works_first session more behind none

    stops : (begun_turns (works_of session behind) ≡ most_turns start) ⊎ Saw origin (IsIdle origin.sizes session) session (from ++ more) x.since []
        → (begun_turns (works_of session (more ++ behind)) ≡ most_turns start) ⊎ Saw origin (IsIdle origin.sizes session) session from (more ++ x.since) []
    stops (inl made) = inl (ap begun_turns same ∙ made)
    stops (inr saw) = inr (saw_before origin (IsIdle origin.sizes session) session from more x.since [] saw)

leaves_more : (origin : Ground) (session : ℕ) (all : Bool) (start : Book) (from behind entries : List Entry) (left : List (ℕ × Actor)) → works_of session entries ≡ []
    → LeavesFrom origin session all start from behind left → LeavesFrom origin session all start from (behind ++ entries) left
leaves_more origin session all start from behind entries left none x = record {
  looked = looked_on origin session all from behind entries x.looked;
  well = ap (list_any lacks_memory) same ∙ x.well;
  since = x.since;
  rest = x.rest ++ entries;
  split = ap (λ es. es ++ entries) x.split ∙ append_assoc x.since x.rest entries;
  last = works_first session x.rest entries x.last ∙ none;
  stopped = stops x.stopped;
  moment = x.moment;
  are = subst (λ works. AreLeft (closed_ids start ++ closed_in works) (Session session) x.moment.book left) (sym same) x.are;
}
  where
    same : works_of session (behind ++ entries) ≡ works_of session behind
    same = works_still session behind entries none

    stops : (begun_turns (works_of session behind) ≡ most_turns start) ⊎ Saw origin (IsIdle origin.sizes session) session from x.since []
        → (begun_turns (works_of session (behind ++ entries)) ≡ most_turns start) ⊎ Saw origin (IsIdle origin.sizes session) session from x.since []
    stops (inl made) = inl (ap begun_turns same ∙ made)
    stops (inr saw) = inr saw

-- what the last look at a ledger tells is what it leaves: by what stands after the log from which its course is told, and by its Start
pub leaves : (origin : Ground) (session : ℕ) (from behind : List Entry) (course : Course) (ledger : Ledger) (left : List (ℕ × Actor)) → IsTurning origin session from behind course
    → (course.turns ≡ 0) ⊎ Saw origin (IsIdle origin.sizes session) session from behind [] → IsLedgerAt origin (from ++ behind) ledger
    → ((book : Book) → ledger.holders ≡ held_groups book → AreLeft course.marked (Session session) book left)
    → ((half : IsHalfDone origin from session) × LeavesFrom origin session half.all half.book from behind left) × LeavesGroups origin (from ++ behind) session left
leaves origin session from behind course ledger left x stopped at are =
    let half = x.is.half in
    let is : LeavesFrom origin session half.all half.book from behind left = leaves_course origin session from behind course ledger left x stopped at are in
    let start = from_start half.begun in
    let split : LeavesFrom origin session half.all half.book (start ++ x.is.more) behind left = subst (λ es. LeavesFrom origin session half.all half.book es behind left) x.is.begins is in
    let whole : LeavesFrom origin session half.all half.book start (x.is.more ++ behind) left = leaves_before origin session half.all half.book start x.is.more behind left x.is.none split in
    ((half_before x.is, is), record { half = half; leaves = subst (λ es. LeavesFrom origin session half.all half.book start es left) (sym x.is.goes) whole })

pub leaves_on : (origin : Ground) (log : List Entry) (session : ℕ) (left : List (ℕ × Actor)) (entries : List Entry) → works_of session entries ≡ [] → turns_of session entries ≡ []
    → LeavesGroups origin log session left → LeavesGroups origin (log ++ entries) session left
leaves_on origin log session left entries none still x = record {
  half = half_on entries (refl {a = log ++ entries}) still x.half;
  leaves = leaves_more origin session x.half.all x.half.book (from_start x.half.begun) x.half.begun.behind entries left none x.leaves;
}
