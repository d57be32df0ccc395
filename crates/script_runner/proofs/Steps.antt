-- A run of a script, one step more, and its end.
use Rattle.std.proofs.lemmas.List.Elements.{All-contains}
use Rattle.std.proofs.Common.{◌≡◌, ℕ, ◌+◌, ◌<◌, ◌≤◌, List, [], ◌∷◌, ◌++◌, length, get_or, take, drop, refl, sym, ap, subst, ◌∙◌, cond, Bool, true, false, map, Contains, All, arith}
use Rattle.std.proofs.lemmas.Bool.{eq-eqb}
use Rattle.std.proofs.lemmas.Bool.Decides.{nat_tests}
use Rattle.std.proofs.lemmas.List.{append-nil, take_more, drop_more}
use Rattle.std.specs.Prelude.{None, Some, ◌==◌, Result, Ok, Err, OnOk, OnErr}
use Rattle.cs_model.specs.declared.entry.Entry.{Entry}
use Rattle.cs_model.specs.declared.entry.Entry.TheVariants.{End}
use Rattle.cs_model.specs.declared.work.Actor.{Actor}
use Rattle.cs_model.specs.declared.work.Actor.TheVariants.{Session, Mover}
use Rattle.cs_types.specs.declared.Schema.{Schema}
use Rattle.cs_model.specs.State.{State}
use Rattle.group_book.specs.Book.{Book}
use Rattle.group_book.specs.Commits.{Sizes}
use Rattle.group_book.specs.Turns.{same_actor}
use Rattle.group_directory.specs.Installing.{held_by}
use Rattle.group_log.specs.Counted.{IsCounted}
use Rattle.group_log.specs.Followed.{Ground, ground_of, Followed}
use Rattle.group_log.specs.Reorganizing.{IsReorganized}
use Rattle.group_view.specs.declared.claim.Claim.{Claim}
use Rattle.cs_model.specs.Actors.{entries_of, is_begun, has_ended}
use Rattle.script_reader.specs.declared.script.Script.{Script}
use Rattle.script_reader.specs.declared.script.Step.{Step}
use Rattle.script_reader.specs.declared.script.Step.TheVariants.{Whole, Begun, Finished, Turn, Claiming, Installing}
use Rattle.script_reader.specs.Scripts as reader
use Rattle.script_reader.specs.Scripts.{taken_by, text_of, half_done, ArePaired, IsServed, IsRunnable}
use Rattle.script_reader.proofs.Halves.{half_same, half_other, half_empty}
use Rattle.script_runner.specs.Running.{Running, AreFree, AreRunnable, IsFrontRun, LeavesClaims, MayRun, OthersKeep}
use Rattle.script_runner.specs.Schedule.{IsPiece, ArePieces, Scheduled}
use Rattle.script_runner.specs.Logs.{IsLogOf, IsFrontLogOf}
use Rattle.script_runner.proofs.Pieces.{is_not, plain, piece_begun, piece_going, pieces_push}
use Rattle.script_runner.proofs.Turning.{has_turns, has_front_turns}
use Rattle.statement_core.specs.CoreValue.{CoreValue}

pub running_first : (origin : Ground) (core : CoreValue) (lines : List Step) → core.log ≡ [] → core.claims ≡ [] → ArePaired [] lines → Running origin core [] lines
running_first origin core lines e none paired = record {
  pieces = e;
  begun = λ s. ap (λ es. is_begun (entries_of s es)) e ∙ sym (half_empty (Session s));
  going = λ s. ap (λ es. has_ended (entries_of s es)) e;
  free = λ m half. ap (held_by (Mover m)) none;
  none = λ s. ap (held_by (Session s)) none;
  paired = paired;
}

-- ---- the claims after a step

-- movers without anything half done hold no claim
abbrev AreFreeBehind : List Step → List (Actor × Claim) → Type 0
AreFreeBehind done claims = (m : ℕ) → half_done (Mover m) done ≡ false → held_by (Mover m) claims ≡ None

-- the step of a session
session_free : (done : List Step) (step : Step) (s : ℕ) (old new : List (Actor × Claim)) → taken_by step ≡ Session s → AreFreeBehind done old → new ≡ old → AreFreeBehind (done ++ step ∷ []) new
session_free done step s old new by free is =
    λ m half. ap (held_by (Mover m)) is ∙ free m (sym (half_other (Mover m) done step (ap (λ by. same_actor by (Mover m)) by)) ∙ half)

-- the step of a mover, which holds no claim after it, if it has none half done
mover_free : (done : List Step) (step : Step) (mover : ℕ) (old new : List (Actor × Claim)) → taken_by step ≡ Mover mover → AreFreeBehind done old
    → (half_done (Mover mover) (done ++ step ∷ []) ≡ false → held_by (Mover mover) new ≡ None) → OthersKeep (Mover mover) old new → AreFreeBehind (done ++ step ∷ []) new
mover_free done step mover old new by free its others = λ m half. at m (m == mover) refl half
  where
    at : (m : ℕ) (t : Bool) → (m == mover) ≡ t → half_done (Mover m) (done ++ step ∷ []) ≡ false → held_by (Mover m) new ≡ None
    at m true t half =
        let same : mover ≡ m = grind (arith, nat_tests) in
        subst (λ n. held_by (Mover n) new ≡ None) same (its (ap (λ n. half_done (Mover n) (done ++ step ∷ [])) same ∙ half))
    at m false t half =
        let apart : (mover == m) ≡ false = grind (arith, nat_tests) in
        others (Mover m) apart ∙ free m (sym (half_other (Mover m) done step (ap (λ by. same_actor by (Mover m)) by ∙ apart)) ∙ half)

-- a turn that was begun alone is half done
claiming_half : (done : List Step) (mover : ℕ) → half_done (Mover mover) (done ++ Claiming mover ∷ []) ≡ true
claiming_half done mover = half_same (Mover mover) done (Claiming mover) (eq-eqb mover mover refl)

step_free : (done : List Step) (step : Step) (old new : List (Actor × Claim)) → AreFreeBehind done old → LeavesClaims step old new → AreFreeBehind (done ++ step ∷ []) new
step_free done (Whole s text) old new free is = session_free done (Whole s text) s old new refl free is
step_free done (Begun s text) old new free is = session_free done (Begun s text) s old new refl free is
step_free done (Finished s) old new free is = session_free done (Finished s) s old new refl free is
step_free done (Turn m) old new free is = mover_free done (Turn m) m old new refl free (λ half. is.0) is.1
step_free done (Claiming m) old new free is = mover_free done (Claiming m) m old new refl free (λ half. let begun = claiming_half done m in absurd (cc (half, begun))) is
step_free done (Installing m) old new free is = mover_free done (Installing m) m old new refl free (λ half. is.0) is.1

-- between steps no session holds a claim
step_none : (step : Step) (old new : List (Actor × Claim)) → ((s : ℕ) → held_by (Session s) old ≡ None) → LeavesClaims step old new → (s : ℕ) → held_by (Session s) new ≡ None
step_none (Whole n text) old new none is = λ s. ap (held_by (Session s)) is ∙ none s
step_none (Begun n text) old new none is = λ s. ap (held_by (Session s)) is ∙ none s
step_none (Finished n) old new none is = λ s. ap (held_by (Session s)) is ∙ none s
step_none (Turn m) old new none is = λ s. is.1 (Session s) refl ∙ none s
step_none (Claiming m) old new none is = λ s. is (Session s) refl ∙ none s
step_none (Installing m) old new none is = λ s. is.1 (Session s) refl ∙ none s

-- ---- one step more

pub running_push : (origin : Ground) (core new : CoreValue) (done left : List Step) (step : Step) (piece : List Entry)
    → Running origin core done (step ∷ left) → IsPiece origin core.log step piece → new.log ≡ core.log ++ piece → LeavesClaims step core.claims new.claims → Running origin new (done ++ step ∷ []) left
running_push origin core new done left step piece run p is leaves = record {
  pieces = subst (ArePieces origin [] (done ++ step ∷ [])) (sym is) (pieces_push origin [] done core.log step piece run.pieces p);
  begun = λ s. ap (λ es. is_begun (entries_of s es)) is ∙ piece_begun origin.begin step piece core.log s (plain origin core.log step piece p) ∙ at s (same_actor (taken_by step) (Session s)) refl;
  going = λ s. ap (λ es. has_ended (entries_of s es)) is ∙ piece_going origin.begin step piece core.log s (plain origin core.log step piece p) ∙ run.going s;
  free = step_free done step core.claims new.claims run.free leaves;
  none = step_none step core.claims new.claims run.none leaves;
  paired = run.paired.1;
}
  where
    at : (s : ℕ) (t : Bool) → same_actor (taken_by step) (Session s) ≡ t
        → cond (same_actor (taken_by step) (Session s)) (reader.is_begun (Some step)) (is_begun (entries_of s core.log)) ≡ half_done (Session s) (done ++ step ∷ [])
    at s true e = ap (λ b. cond b (reader.is_begun (Some step)) (is_begun (entries_of s core.log))) e ∙ sym (half_same (Session s) done step e)
    at s false e = ap (λ b. cond b (reader.is_begun (Some step)) (is_begun (entries_of s core.log))) e ∙ run.begun s ∙ sym (half_other (Session s) done step e)

-- ---- the step at a place

-- a step that comes next can be run
may_run : (origin : Ground) (core : CoreValue) (done left : List Step) (step : Step) → Running origin core done (step ∷ left) → length (text_of step) ≤ 65536 → IsServed core.sessions (taken_by step) → MayRun core step
may_run origin core done left (Whole s text) run short served =
    (record { served = served; half = run.begun s ∙ is_not (half_done (Session s) done) run.paired.0; going = run.going s }, short)
may_run origin core done left (Begun s text) run short served =
    (record { served = served; half = run.begun s ∙ is_not (half_done (Session s) done) run.paired.0; going = run.going s }, short)
may_run origin core done left (Finished s) run short served = record { served = served; half = run.begun s ∙ run.paired.0; going = run.going s }
may_run origin core done left (Turn m) run short served = record { served = served; free = run.free m (is_not (half_done (Mover m) done) run.paired.0) }
may_run origin core done left (Claiming m) run short served = record { served = served; free = run.free m (is_not (half_done (Mover m) done) run.paired.0) }
may_run origin core done left (Installing m) run short served = served

module _ (origin : Ground) (lines : List Step) (i : ℕ) (step : Step) (within : i < length lines) (is : step ≡ get_or lines i step) (core : CoreValue)
    (run : Running origin core (take i lines) (drop i lines)) where
  comes : Running origin core (take i lines) (step ∷ drop (i + 1) lines)
  comes = subst (Running origin core (take i lines)) (drop_more lines i step within ∙ ap (λ x. x ∷ drop (i + 1) lines) (sym is)) run

  pub next_at : (sessions : List ℕ) → core.sessions ≡ sessions → AreRunnable sessions lines → MayRun core step
  next_at sessions same can =
      may_run origin core (take i lines) (drop (i + 1) lines) step comes (subst (λ x. length (text_of x) ≤ 65536) (sym is) (can.short i step within))
      (subst (λ known. IsServed known (taken_by step)) (sym same) (subst (λ x. IsServed sessions (taken_by x)) (sym is) (can.served i step within)))

  pub step_more : (now : Ground) (new : CoreValue) → now ≡ origin → (piece : List Entry) × IsPiece now core.log step piece × (new.log ≡ core.log ++ piece) → LeavesClaims step core.claims new.claims
      → Running origin new (take (i + 1) lines) (drop (i + 1) lines)
  step_more now new same x leaves =
      subst (λ done. Running origin new done (drop (i + 1) lines)) (sym (take_more lines i step within ∙ ap (λ s. take i lines ++ s ∷ []) (sym is)))
      (running_push origin core new (take i lines) (drop (i + 1) lines) step x.0 comes (subst (λ s. IsPiece s core.log step x.0) same x.1) x.2 leaves)

-- ---- the end

-- after the last step no session has a statement half done
pub all_rest : (origin : Ground) (core : CoreValue) (done : List Step) → Running origin core done [] → (s : ℕ) → is_begun (entries_of s core.log) ≡ false
all_rest origin core done run s = run.begun s ∙ run.paired (Session s)

-- and nobody holds a claim
pub all_free : (origin : Ground) (core : CoreValue) (done : List Step) (claims : List (Actor × Claim)) → Running origin core done [] → claims ≡ core.claims → AreFree claims
all_free origin core done claims run is (Session s) = ap (held_by (Session s)) is ∙ run.none s
all_free origin core done claims run is (Mover m) = ap (held_by (Mover m)) is ∙ run.free m (run.paired (Mover m))

-- an actor of the script is served by a core with its sessions
served_of : (own sessions : List ℕ) (by : Actor) → All (λ session. Contains sessions session) own → IsServed own by → IsServed sessions by
served_of own sessions (Session n) known served = (served.0, served.1, All-contains (λ session. Contains sessions session) own n known served.2)
served_of own sessions (Mover n) known served = served

-- a script's steps can be run by a core with its sessions
pub runnable_of : (script : Script) (sessions : List ℕ) → All (λ session. Contains sessions session) script.sessions → IsRunnable script → AreRunnable sessions script.lines
runnable_of script sessions known can = record {
  short = can.short;
  served = λ k d lt. served_of script.sessions sessions (taken_by (get_or script.lines k d)) known (can.range k d lt);
  paired = can.paired;
}

pub scheduled_of : (script : Script) (first : Schema) (sizes : Sizes) (steps : List Step) (sessions : List ℕ) (core : CoreValue) (log : List Entry) → first ≡ script.schema → steps ≡ script.lines
    → sessions ≡ script.sessions → Running (ground_of first sizes) core steps [] → log ≡ core.log ++ map End sessions → Scheduled (ground_of script.schema sizes) script log
scheduled_of script first sizes steps sessions core log of_first of_steps of_sessions run is = (
  core.log,
  subst (λ xs. ArePieces (ground_of script.schema sizes) [] xs core.log) of_steps (subst (λ s. ArePieces (ground_of s sizes) [] steps core.log) of_first run.pieces),
  is ∙ ap (λ xs. core.log ++ map End xs) of_sessions,
)

pub front_of : (script : Script) (first : Schema) (sizes : Sizes) (steps : List Step) (log : List Entry) → first ≡ script.schema → steps ≡ script.lines → IsFrontRun (ground_of first sizes) steps log
    → IsFrontRun (ground_of script.schema sizes) script.lines log
front_of script first sizes steps log of_first of_steps x = (
  x.0,
  subst (λ xs. ArePieces (ground_of script.schema sizes) [] (take x.0 xs) log) of_steps (subst (λ s. ArePieces (ground_of s sizes) [] (take x.0 steps) log) of_first x.1),
)

-- ---- the log

pub log_of : (sizes : Sizes) (script : Script) (schema : Schema) (now : Sizes) (log : List Entry) → IsRunnable script → schema ≡ script.schema → now ≡ sizes
    → (m : State) × (book : Book) × Followed (ground_of schema now) log m book → IsCounted (ground_of schema now) log → IsReorganized (ground_of schema now) log → Scheduled (ground_of script.schema sizes) script log → IsLogOf (ground_of script.schema sizes) script log
log_of sizes script schema now log can same sized legal counted reorganized x = record {
  history = record {
    state = legal.0;
    book = legal.1;
    followed = subst (λ s. Followed (ground_of s sizes) log legal.0 legal.1) same (subst (λ z. Followed (ground_of schema z) log legal.0 legal.1) sized legal.2);
    counted = subst (λ s. IsCounted (ground_of s sizes) log) same (subst (λ z. IsCounted (ground_of schema z) log) sized counted);
    reorganized = subst (λ s. IsReorganized (ground_of s sizes) log) same (subst (λ z. IsReorganized (ground_of schema z) log) sized reorganized);
    turns = has_turns sizes script log x.0 can x.1 x.2;
  };
  scheduled = x;
}

pub front_log_of : (sizes : Sizes) (script : Script) (schema : Schema) (now : Sizes) (log : List Entry) → IsRunnable script → schema ≡ script.schema → now ≡ sizes
    → (m : State) × (book : Book) × Followed (ground_of schema now) log m book → IsCounted (ground_of schema now) log → IsReorganized (ground_of schema now) log → IsFrontRun (ground_of script.schema sizes) script.lines log → IsFrontLogOf (ground_of script.schema sizes) script log
front_log_of sizes script schema now log can same sized legal counted reorganized x = record {
  lines = x.0;
  ended = 0;
  history = record {
    state = legal.0;
    book = legal.1;
    followed = subst (λ s. Followed (ground_of s sizes) log legal.0 legal.1) same (subst (λ z. Followed (ground_of schema z) log legal.0 legal.1) sized legal.2);
    counted = subst (λ s. IsCounted (ground_of s sizes) log) same (subst (λ z. IsCounted (ground_of schema z) log) sized counted);
    reorganized = subst (λ s. IsReorganized (ground_of s sizes) log) same (subst (λ z. IsReorganized (ground_of schema z) log) sized reorganized);
    turns = has_front_turns sizes script x.0 log can x.1;
  };
  last = λ some. absurd (omega (arith, some));
  events = log;
  pieces = x.1;
  ends = sym (append-nil log);
}

pub on_ok : {T E : Type 0} (P Q : Type 0) (r : Result T E) → (P → Q) → OnOk r P → OnOk r Q
on_ok P Q (Ok x) f h = f h
on_ok P Q (Err e) f h = h

pub on_err : {T E : Type 0} (P Q : Type 0) (r : Result T E) → (P → Q) → OnErr r P → OnErr r Q
on_err P Q (Ok x) f h = h
on_err P Q (Err e) f h = f h

pub at_err : {T E : Type 0} (P : Type 0) (r : Result T E) → P → OnErr r P
at_err P (Ok x) h = tt
at_err P (Err e) h = h
