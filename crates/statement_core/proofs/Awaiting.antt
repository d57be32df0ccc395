-- What a session knows of its half-done statement, and what its work gives.
use Rattle.std.proofs.Common.{◌≡◌, ℕ, List, [], ◌∷◌, ◌++◌, subst, false}
use Rattle.std.specs.Prelude.{◌==◌, ◌&&◌}
use Rattle.cs_model.specs.declared.entry.Bound.{Bound}
use Rattle.cs_model.specs.declared.entry.Entry.{Entry}
use Rattle.cs_model.specs.State.{Begin}
use Rattle.cs_model.specs.Actors.{actor_of, is_turn}
use Rattle.group_book.specs.Book.{empty}
use Rattle.group_book.specs.Commits.{Sizes}
use Rattle.group_log.specs.Reorganizing.{works_of}
use Rattle.log_laws.specs.Started.{Begun}
use Rattle.log_laws.proofs.StartedOn.{started_on}
use Rattle.statement_core.specs.declared.started.Started.{Started}
use Rattle.statement_core.specs.declared.started.Outcome.{Outcome}
use Rattle.statement_core.specs.Begun.{Hands, MayWork}
use Rattle.statement_core.specs.Outcomes.{GivesOn}
use Rattle.statement_core.specs.Reorganizes.{reorganizes, IsOver}
use Rattle.statement_core.specs.Terms.{sizes_of}
use Rattle.statement_core.specs.Cores.{IsDone}
use Rattle.statement_core.proofs.Counting.{start_counts_on}
use Rattle.statement_core.proofs.Reorganizes.{ledger_on}
use Rattle.statement_core.specs.Awaiting.{Awaits}

-- it is known as before where the entry is no turn and no work of the session
pub awaits_on : (sizes : Sizes) (begin : Begin) (log : List Entry) (e : Entry) (s : ℕ) (started : Started) → (is_turn e && (actor_of e == s)) ≡ false → works_of s (e ∷ []) ≡ []
    → Awaits sizes begin log s started → Awaits sizes begin (log ++ e ∷ []) s started
awaits_on sizes begin log e s started other none k = record {
  terms = k.terms;
  sized = k.sized;
  begun = k.begun;
  hands = k.hands;
  works = k.works;
  is = started_on begin log e s k.begun other k.is;
  counts = start_counts_on (record { begin = begin; sizes = sizes; book = empty }) log e s started other k.counts;
  ledger = ledger_on (record { begin = begin; sizes = sizes; book = empty }) log e s (reorganizes started.bound.value) started.ledger other none k.ledger;
}

-- what the work of it gives is what the definitions give, where it ends the statement
pub awaits_done : (sizes : Sizes) (begin : Begin) (log : List Entry) (s : ℕ) (started : Started) (o : Outcome) → Awaits sizes begin log s started → IsOver started.bound.value o
    → ((begun : Begun) → Hands begun started → MayWork begun → GivesOn (sizes_of started.terms.value) begun o) → IsDone begin sizes log s o
awaits_done sizes begin log s started o w over g =
    let hands = w.hands in
    record {
      begun = w.begun;
      started = w.is;
      gives = subst (λ z. GivesOn z w.begun o) w.sized (g w.begun w.hands w.works);
      over = subst (λ (b : Bound). IsOver b o) hands.bound over;
    }
