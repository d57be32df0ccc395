-- The events of a mover's turn are the piece of its step, and what was started waits after them.
use Rattle.std.proofs.Common.{◌≡◌, ℕ, List, [], ◌++◌, refl, sym, ap, subst, ◌∙◌, append_assoc, inl, inr}
use Rattle.std.specs.Prelude.{Option, None, Result, Ok, Err, OnOk, OnErr}
use Rattle.std.proofs.lemmas.List.{append-nil}
use Rattle.cs_model.specs.declared.entry.Entry.{Entry}
use Rattle.cs_model.specs.declared.work.Actor.{Actor}
use Rattle.cs_model.specs.declared.work.Actor.TheVariants.{Mover}
use Rattle.cs_model.specs.declared.work.Work.{Work}
use Rattle.cs_model.specs.State.{Begin}
use Rattle.group_book.specs.Book.{Choice, Claim}
use Rattle.group_book.specs.Choices.{install_work, release_work}
use Rattle.group_book.specs.Commits.{Sizes}
use Rattle.group_log.specs.Followed.{Ground}
use Rattle.group_view.specs.declared.claim.Claim as lent
use Rattle.group_directory.specs.Installing.{held_by}
use Rattle.script_reader.specs.declared.script.Step.TheVariants.{Turn}
use Rattle.script_runner.specs.Running.{Waits}
use Rattle.script_runner.specs.Schedule.{IsPiece}
use Rattle.script_runner.proofs.Pieces.{begins_works, ends_works}
use Rattle.script_runner.proofs.Waiting.{waits_works}
use Rattle.statement_core.specs.declared.started.Started.{Started}
use Rattle.statement_core.specs.declared.movers.Turned.{Turned}
use Rattle.statement_core.specs.Turns.{HasAllClaims, BeginsTurn, TurnsTo, EndsBy, EndsTurn, HasNoTurn}
use Rattle.statement_core.proofs.Turns.{turn_begun}

-- a call made the first event of a mover's turn, or the last one
abbrev pub Begins : Ground → List Entry → List Entry → ℕ → Type 0
Begins origin log new mover = (piece : List Entry) × (new ≡ log ++ piece) × BeginsTurn origin log (Mover mover) piece

abbrev pub Ends : Ground → List Entry → List Entry → ℕ → Type 0
Ends origin log new mover = (piece : List Entry) × (new ≡ log ++ piece) × EndsTurn origin log (Mover mover) piece

-- what the turn gave set aside, a first event is one by the choice
pub begun_turn : (origin : Ground) (log new : List Entry) (mover : ℕ) (given : Turned) → (piece : List Entry) × (new ≡ log ++ piece) × TurnsTo origin log (Mover mover) given piece → Begins origin log new mover
begun_turn origin log new mover given x = (x.0, x.1, turn_begun origin log (Mover mover) given x.0 x.2)

-- an event that ended a turn by this work of its claim
abbrev EndedBy : (Choice → Claim → Option Work) → Ground → List Entry → List Entry → ℕ → Type 0
EndedBy ends origin log new mover = (piece : List Entry) × (new ≡ log ++ piece) × EndsBy ends origin log (Mover mover) piece

-- by an install or by a release, the turn has ended
pub ended_turn : {P E : Type 0} (origin : Ground) (log new : List Entry) (mover : ℕ) (product : Result P E) → OnOk product (EndedBy install_work origin log new mover) → OnErr product (EndedBy release_work origin log new mover)
    → Ends origin log new mover
ended_turn origin log new mover (Ok product) installs releases = (installs.0, installs.1, inl installs.2)
ended_turn origin log new mover (Err why) installs releases = (releases.0, releases.1, inr (inl releases.2))

-- who holds none of all claims has no turn to end
pub free_turn : (origin : Ground) (log : List Entry) (claims : List (Actor × lent.Claim)) (actor : Actor) → HasAllClaims origin log claims → held_by actor claims ≡ None → HasNoTurn origin log actor []
free_turn origin log claims actor all none = record { moment = all.moment; free = all.holds actor none; none = refl }

-- without a claim there was no turn to end
pub no_turn : (origin : Ground) (log : List Entry) (mover : ℕ) → HasNoTurn origin log (Mover mover) [] → Ends origin log log mover
no_turn origin log mover none = ([], sym (append-nil log), inr (inr none))

pub turn_piece : (origin now : Ground) (log mid new : List Entry) (mover : ℕ) → now ≡ origin → Begins origin log mid mover → Ends now mid new mover
    → (piece : List Entry) × IsPiece origin log (Turn mover) piece × (new ≡ log ++ piece)
turn_piece origin now log mid new mover same x y = (
  x.0 ++ y.0,
  record {
    first = x.0;
    last = y.0;
    joined = refl;
    begins = x.2;
    ends = subst (λ es. EndsTurn origin es (Mover mover) y.0) x.1 (subst (λ o. EndsTurn o mid (Mover mover) y.0) same y.2);
  },
  y.1 ∙ ap (λ es. es ++ y.0) x.1 ∙ append_assoc log x.0 y.0,
)

pub waits_begins : (origin : Ground) (sizes : Sizes) (begin : Begin) (log new : List Entry) (mover : ℕ) (waiting : ℕ → Option Started) → Waits sizes begin log waiting → Begins origin log new mover → Waits sizes begin new waiting
waits_begins origin sizes begin log new mover waiting waits x = waits_works sizes begin log new x.0 waiting waits x.1 (begins_works origin log mover x.0 x.2)

pub waits_ends : (origin : Ground) (sizes : Sizes) (begin : Begin) (log new : List Entry) (mover : ℕ) (waiting : ℕ → Option Started) → Waits sizes begin log waiting → Ends origin log new mover → Waits sizes begin new waiting
waits_ends origin sizes begin log new mover waiting waits x = waits_works sizes begin log new x.0 waiting waits x.1 (ends_works origin log mover x.0 x.2)
