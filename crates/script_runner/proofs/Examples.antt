-- What the definitions of logs and schedules say, at examples.
use Rattle.std.proofs.Common.{◌≡◌, ◌≤◌, ℕ, List, [], ◌∷◌, ◌++◌, length, map, take, drop, refl, sym, ap, subst, Bool, true, false, inl, inr, arith, length-append, Global}
use Rattle.std.proofs.lemmas.List.{append-nil, map-append, take-append-drop, take_all}
use Rattle.std.proofs.Common.{append_assoc, ◌∙◌}
use Rattle.std.specs.Prelude.{All, filter, None, IsPermutation}
use Rattle.std.proofs.lemmas.List.Elements.{All-nil, All-append}
use Rattle.std.proofs.lemmas.List.Sorted.{IsNonDecreasingBy-short, IsPermutation-refl}
use Rattle.std.specs.declared.sync.Arc.{Arc}
use Rattle.cs_model.specs.declared.work.Actor.{Actor}
use Rattle.cs_model.specs.declared.work.Actor.TheVariants as actor
use Rattle.cs_model.specs.declared.work.Work.{Work}
use Rattle.cs_model.specs.declared.work.Work.TheVariants as work
use Rattle.cs_model.specs.declared.entry.Bound.{Bound}
use Rattle.cs_model.specs.declared.entry.Bound.TheVariants.{Reorganize}
use Rattle.cs_model.specs.declared.entry.Reply.{Reply}
use Rattle.cs_model.specs.declared.entry.Reply.TheVariants.{Left}
use Rattle.cs_model.specs.declared.entry.Entry.{Entry}
use Rattle.cs_model.specs.declared.entry.Entry.TheVariants.{Start, Finish, End, Mover}
use Rattle.cs_model.specs.Actors.{turns_of}
use Rattle.cs_model.specs.Floors.{IsFloor, snapshots}
use Rattle.cs_model.specs.State.{State, Begin, begin_of, start}
use Rattle.group_book.specs.Book.{Book, empty}
use Rattle.group_book.specs.Choices.{choice, choice_work}
use Rattle.group_book.specs.Commits.{Sizes}
use Rattle.group_book.specs.Turns.{claim_by}
use Rattle.group_log.specs.Followed.{Ground, ground_of, Followed, Moment}
use Rattle.group_log.specs.Reorganizing.{closed_ids, held_groups, is_kept, works_of, AreLeft, AreReorganizedAfter, IsHalfDone, IsIdle, IsReorganized, LeavesFrom}
use Rattle.cs_types.specs.declared.Schema.{Schema}
use Rattle.script_reader.specs.declared.script.Script.{Script}
use Rattle.script_reader.specs.declared.script.Step.TheVariants.{Whole, Finished, Turn, Claiming, Installing}
use Rattle.script_reader.specs.Scripts.{IsRunnable}
use Rattle.script_runner.specs.Running.{MayRun}
use Rattle.group_log.specs.Counted.{AreCountedAfter, IsCounted}
use Rattle.script_turns.specs.Turns.{Turns, IsBoundAfter, IsFinishOf, AreTurns, AreMeant}
use Rattle.script_runner.specs.Schedule.{AreMoves, IsFinishing, IsPiece, IsOwnWork, ArePieces}
use Rattle.script_runner.specs.Logs.{IsLogOf, IsMadeOf}
use Rattle.statement_core.specs.CoreValue.{CoreValue}
use Rattle.statement_core.specs.Reorganizes.{IsNoneLeft}
use Rattle.statement_core.specs.Turns.{BeginsTurn, EndsTurn, IsFirst}
use Rattle.script_runner.proofs.Giving.{none_tells}
use Rattle.script_runner.proofs.Moving.{own_one}
use Rattle.script_runner.proofs.Turning.{has_turns, has_front_turns, turns_cut}

-- a run that stopped before its first line has made no step
none_made : (sizes : Sizes) (script : Script) → IsRunnable script → IsMadeOf (ground_of script.schema sizes) script []
none_made sizes script can = inr (record {
  lines = 0;
  ended = 0;
  history = record { state = start; book = empty; followed = (refl, refl); counted = tt; reorganized = tt; turns = has_front_turns sizes script 0 [] can refl };
  last = λ some. absurd (omega (arith, some));
  events = [];
  pieces = refl;
  ends = refl;
})

-- a Finish without moves, which tells of none
no_moves : (origin : Ground) (before : List Entry) (session : ℕ) (reply : Reply) → IsNoneLeft reply → IsFinishing origin before session (Finish session reply ∷ [])
no_moves origin before session reply none = ([], Finish session reply, refl, record { own = All-nil (IsOwnWork session); told = none_tells origin before session [] reply refl none }, refl)

-- a script of one statement of session 1
abbrev one_line : Schema → List ℕ → Script
one_line schema text = record { schema = schema; lines = Whole 1 text ∷ []; sessions = 1 ∷ [] }

module _ (sizes : Sizes) (schema : Schema) (text : List ℕ) (can : IsRunnable (one_line schema text)) (bound : Arc Bound Global) (means : IsBoundAfter (begin_of schema) [] text bound.value) (reply : Reply) (none : IsNoneLeft reply) (m : State) (book : Book) where
  -- its whole log, which is the log of a run also where the text of it found no room
  whole_made : Followed (ground_of schema sizes) (Start 1 bound false ∷ Finish 1 reply ∷ End 1 ∷ []) m book → IsCounted (ground_of schema sizes) (Start 1 bound false ∷ Finish 1 reply ∷ End 1 ∷ [])
      → IsReorganized (ground_of schema sizes) (Start 1 bound false ∷ Finish 1 reply ∷ End 1 ∷ []) → IsMadeOf (ground_of schema sizes) (one_line schema text) (Start 1 bound false ∷ Finish 1 reply ∷ End 1 ∷ [])
  whole_made followed counted reorganized = inl (record {
    history = record { state = m; book = book; followed = followed; counted = counted; reorganized = reorganized; turns = has_turns sizes (one_line schema text) (Start 1 bound false ∷ Finish 1 reply ∷ End 1 ∷ []) (Start 1 bound false ∷ Finish 1 reply ∷ []) can pieces refl };
    scheduled = (Start 1 bound false ∷ Finish 1 reply ∷ [], pieces, refl);
  })
    where
      pieces : ArePieces (ground_of schema sizes) [] (Whole 1 text ∷ []) (Start 1 bound false ∷ Finish 1 reply ∷ [])
      pieces = (Start 1 bound false ∷ Finish 1 reply ∷ [], [], refl, (Start 1 bound false, Finish 1 reply ∷ [], refl, (refl, means), no_moves (ground_of schema sizes) (Start 1 bound false ∷ []) 1 reply none), refl)

-- the first entries are counted where all are
counted_front : (origin : Ground) (before log more : List Entry) → AreCountedAfter origin before (log ++ more) → AreCountedAfter origin before log
counted_front origin before [] more x = tt
counted_front origin before (e ∷ log) more x = (x.0, counted_front origin (before ++ e ∷ []) log more x.1)

-- so it is with the moves of sessions
reorganized_front : (origin : Ground) (before log more : List Entry) → AreReorganizedAfter origin before (log ++ more) → AreReorganizedAfter origin before log
reorganized_front origin before [] more x = tt
reorganized_front origin before (e ∷ log) more x = (x.0, reorganized_front origin (before ++ e ∷ []) log more x.1)

-- the log of a whole run, cut among its Ends, is that of a run that stopped
module _ (origin : Ground) (script : Script) (log : List Entry) (whole : IsLogOf origin script log) (ended : ℕ) (m : State) (book : Book) where
  abbrev begun_ends : List Entry
  begun_ends = whole.scheduled.0 ++ map End (take ended script.sessions)

  ends_begun : Followed origin begun_ends m book → IsMadeOf origin script begun_ends
  ends_begun followed = inr (record {
    lines = length script.lines;
    ended = ended;
    history = record {
      state = m;
      book = book;
      followed = followed;
      counted = counted_front origin [] begun_ends (map End (drop ended script.sessions)) (subst (IsCounted origin) cut whole.history.counted);
      reorganized = reorganized_front origin [] begun_ends (map End (drop ended script.sessions)) (subst (IsReorganized origin) cut whole.history.reorganized);
      turns = turns_cut origin.begin script begun_ends (map End (drop ended script.sessions)) (subst (Turns origin.begin script) cut whole.history.turns);
    };
    last = λ some. omega arith;
    events = whole.scheduled.0;
    pieces = subst (λ lines. ArePieces origin [] lines whole.scheduled.0) (sym (take_all (length script.lines) script.lines (omega arith))) whole.scheduled.1;
    ends = refl;
  })
    where
      cut : log ≡ begun_ends ++ map End (drop ended script.sessions)
      cut =
          whole.scheduled.2 ∙ ap (λ sessions. whole.scheduled.0 ++ map End sessions) (sym (take-append-drop ended script.sessions))
          ∙ ap (λ ends. whole.scheduled.0 ++ ends) (map-append End (take ended script.sessions) (drop ended script.sessions))
          ∙ sym (append_assoc whole.scheduled.0 (map End (take ended script.sessions)) (map End (drop ended script.sessions)))

-- ---- schedules

-- a statement between whose Start and Finish a mover, or a move of any actor, has an entry, and then the End
abbrev interrupted : Arc Bound Global → Bool → Actor → Work → Reply → List Entry
interrupted bound short actor work reply = Start 1 bound short ∷ Mover actor work ∷ Finish 1 reply ∷ End 1 ∷ []

-- its session has the turns of one statement
one_turn : (bound : Arc Bound Global) (short : Bool) (actor : Actor) (work : Work) (reply : Reply) → AreTurns 1 1 (turns_of 1 (interrupted bound short actor work reply))
one_turn bound short actor work reply = (Start 1 bound short, Finish 1 reply, End 1 ∷ [], refl, refl, refl, refl)

-- no other session has one
no_turn : (bound : Arc Bound Global) (short : Bool) (actor : Actor) (work : Work) (reply : Reply) → turns_of 2 (interrupted bound short actor work reply) ≡ []
no_turn bound short actor work reply = refl

-- and it is meant, where its statement is what the one text of the session means
one_meaning : (begin : Begin) (text : List ℕ) (bound : Arc Bound Global) (short : Bool) (actor : Actor) (work : Work) (reply : Reply) → IsBoundAfter begin [] text bound.value
    → AreMeant begin (Whole 1 text ∷ []) [] (interrupted bound short actor work reply)
one_meaning begin text bound short actor work reply means = ((text, refl, means), (tt, (tt, (tt, tt))))

-- an End before the last Finish is no turn
no_early_end : (bound : Arc Bound Global) (short : Bool) (reply : Reply) → AreTurns 1 1 (Start 1 bound short ∷ End 1 ∷ Finish 1 reply ∷ []) → ⊥
no_early_end bound short reply t = let is : t.1 ≡ End 1 = cc in subst (IsFinishOf 1) is t.5

-- the events of a whole line with any moves that a session may make
whole_line : (origin : Ground) (before moves : List Entry) (session : ℕ) (text : List ℕ) (bound : Arc Bound Global) (short : Bool) (reply : Reply) → IsBoundAfter origin.begin before text bound.value → AreMoves origin (before ++ Start session bound short ∷ []) session moves (Finish session reply)
    → IsPiece origin before (Whole session text) (Start session bound short ∷ (moves ++ Finish session reply ∷ []))
whole_line origin before moves session text bound short reply means are =
    (Start session bound short, moves ++ Finish session reply ∷ [], refl, (refl, means), (moves, Finish session reply, refl, are, refl))

longer : (xs : List Entry) (b : Entry) → [] ≡ xs ++ b ∷ [] → ⊥
longer xs b e = let none = ap length e in let some = length-append xs (b ∷ []) in omega (arith, none, some)

-- whatever the moves are, they and their Finish are cut in one way
cut_once : (moves others : List Entry) (a b : Entry) → moves ++ a ∷ [] ≡ others ++ b ∷ [] → (moves ≡ others) × (a ≡ b)
cut_once [] [] a b e = (refl, cc)
cut_once [] (y ∷ others) a b e = let rest : [] ≡ others ++ b ∷ [] = cc in absurd (longer others b rest)
cut_once (x ∷ moves) [] a b e = let rest : [] ≡ moves ++ a ∷ [] = cc in absurd (longer moves a rest)
cut_once (x ∷ moves) (y ∷ others) a b e =
    let first : x ≡ y = cc in
    let rest : moves ++ a ∷ [] ≡ others ++ b ∷ [] = cc in
    let cut = cut_once moves others a b rest in
    ((λ i. first i ∷ cut.0 i), cut.1)

-- ---- turns of movers

module _ (bound : Arc Bound Global) (short : Bool) (claimed installed : Work) (reply : Reply) where
  -- a mover's whole turn between two statements of a session
  abbrev between : List Entry
  between = Start 1 bound short ∷ Finish 1 reply ∷ Mover (actor.Mover 1) claimed ∷ Mover (actor.Mover 1) installed ∷ Start 1 bound short ∷ Finish 1 reply ∷ End 1 ∷ []

  -- leaves the session its two
  two_turns : AreTurns 1 2 (turns_of 1 between)
  two_turns = (Start 1 bound short, Finish 1 reply, Start 1 bound short ∷ Finish 1 reply ∷ End 1 ∷ [], refl, refl, refl, (Start 1 bound short, Finish 1 reply, End 1 ∷ [], refl, refl, refl, refl))

  -- and the numbers of sessions and movers have nothing in common
  no_session_65 : turns_of 65 between ≡ []
  no_session_65 = refl

-- a claim, the Finish of a session, and the install are three lines
module _ (origin : Ground) (before claims installs : List Entry) (reply : Reply) (none : IsNoneLeft reply) (begins : BeginsTurn origin before (actor.Mover 1) claims)
    (ends : EndsTurn origin ((before ++ claims) ++ Finish 1 reply ∷ []) (actor.Mover 1) installs) where
  three_lines : ArePieces origin before (Claiming 1 ∷ Finished 1 ∷ Installing 1 ∷ []) (claims ++ Finish 1 reply ∷ (installs ++ []))
  three_lines =
      (claims, Finish 1 reply ∷ (installs ++ []), refl, begins, (Finish 1 reply ∷ [], installs ++ [], refl, no_moves origin (before ++ claims) 1 reply none, (installs, [], refl, ends, refl)))

-- movers are 1 to 8, and no other has a line, not even the last half of a turn
module _ (core : CoreValue) where
  no_mover_0 : (MayRun core (Turn 0) → ⊥) × (MayRun core (Claiming 0) → ⊥) × (MayRun core (Installing 0) → ⊥)
  no_mover_0 = (
    λ may. let served = may.served in let low : 1 ≤ 0 = served.0 in absurd (omega (arith, low)),
    λ may. let served = may.served in let low : 1 ≤ 0 = served.0 in absurd (omega (arith, low)),
    λ may. let low : 1 ≤ 0 = may.0 in absurd (omega (arith, low)),
  )

  no_mover_9 : (MayRun core (Turn 9) → ⊥) × (MayRun core (Installing 9) → ⊥)
  no_mover_9 = (λ may. let served = may.served in let high : 9 ≤ 8 = served.1 in absurd (omega (arith, high)), λ may. let high : 9 ≤ 8 = may.1 in absurd (omega (arith, high)))

-- a whole turn has no entry where there is nothing to do
module _ (origin : Ground) (before : List Entry) (mover : ℕ) (moment : Moment origin before) (floor : ℕ) (is : IsFloor (snapshots moment.state) (let state = moment.state in state.clock) floor)
    (nothing : choice_work (choice floor origin.sizes.group_rows (actor.Mover mover) moment.book) floor moment.book ≡ None) (free : claim_by (actor.Mover mover) moment.book ≡ None) where
  idle_turn : IsPiece origin before (Turn mover) []
  idle_turn = record {
    first = [];
    last = [];
    joined = refl;
    begins = record { moment = moment; floor = floor; is_floor = is; free = free; first = subst (λ work. IsFirst (actor.Mover mover) work []) (sym nothing) refl };
    ends = subst (λ log. EndsTurn origin log (actor.Mover mover) []) (sym (append-nil before)) (inr (inr (record { moment = moment; free = free; none = refl })));
  }

-- ---- a REORGANIZE

-- in one line it closes the open store, packs it, finds nothing more to do, and leaves nothing where nobody holds a group
module _ (origin : Ground) (before : List Entry) (text : List ℕ) (bound : Arc Bound Global) (means : IsBoundAfter origin.begin before text bound.value) (all : bound.value ≡ Reorganize true) (m : State) (book : Book)
    (followed : Followed origin before m book) (id fresh rows : ℕ) where
  abbrev packs : List Entry
  packs = Mover (actor.Session 1) (work.Close id) ∷ Mover (actor.Session 1) (work.ClaimCompress id fresh) ∷ Mover (actor.Session 1) (work.InstallCompress id fresh rows) ∷ []

  abbrev begun : List Entry
  begun = before ++ Start 1 bound false ∷ []

  closed_and_packed : (moment : Moment origin (begun ++ packs)) → IsIdle origin.sizes 1 moment.state moment.book → held_groups moment.book ≡ []
      → IsPiece origin before (Whole 1 text) (Start 1 bound false ∷ (packs ++ Finish 1 (Left []) ∷ []))
  closed_and_packed moment idle none =
      let half : IsHalfDone origin begun 1 = record {
        all = true;
        state = m;
        book = book;
        begun = record { before = before; bound = bound; short = false; behind = []; split = refl; others = refl; is = all; followed = followed };
      } in
      let are : AreLeft (closed_ids book ++ id ∷ []) (actor.Session 1) moment.book [] = record {
        by_id = IsNonDecreasingBy-short (λ (held : ℕ × Actor). held.0) [] (omega arith);
        are = subst (λ held. IsPermutation (filter (is_kept (closed_ids book ++ id ∷ []) (actor.Session 1)) held) []) (sym none) (IsPermutation-refl []);
      } in
      let last : List Entry = Mover (actor.Session 1) (work.InstallCompress id fresh rows) ∷ [] in
      let claim : List Entry = Mover (actor.Session 1) (work.ClaimCompress id fresh) ∷ [] in
      let own : All (IsOwnWork 1) packs =
      All-append (IsOwnWork 1) (Mover (actor.Session 1) (work.Close id) ∷ []) (claim ++ last) (own_one 1 (work.Close id))
      (All-append (IsOwnWork 1) claim last (own_one 1 (work.ClaimCompress id fresh)) (own_one 1 (work.InstallCompress id fresh rows))) in
      whole_line origin before packs 1 text bound false (Left []) means (record {
        own = own;
        told = record {
          half = half;
          leaves = record {
            looked = λ _. inl (id, work.ClaimCompress id fresh ∷ work.InstallCompress id fresh rows ∷ [], refl);
            well = refl;
            since = packs;
            rest = [];
            split = refl;
            last = refl;
            stopped = inr (record { since = packs; rest = []; split = refl; after = refl; moment = moment; holds = idle });
            moment = moment;
            are = are;
          };
        };
      })

-- it leaves no group in a Finish before whose last look it still had a claim to make good: what stands after the look is no work
no_work_behind : (origin : Ground) (all : Bool) (start : Book) (from before : List Entry) (w : Work) (left : List (ℕ × Actor)) (leaves : LeavesFrom origin 1 all start from (before ++ Mover (actor.Session 1) w ∷ []) left)
    → leaves.rest ≡ Mover (actor.Session 1) w ∷ [] → ⊥
no_work_behind origin all start from before w left leaves is = let none : works_of 1 (Mover (actor.Session 1) w ∷ []) ≡ [] = sym (ap (works_of 1) is) ∙ leaves.last in absurd (cc none)
