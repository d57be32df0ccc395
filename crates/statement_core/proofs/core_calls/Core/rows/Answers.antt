use Rattle.std.proofs.Common.{◌≡◌, length, ap, sym, subst, ◌∙◌}
use Rattle.cs_model.specs.Changes.{table}
use Rattle.cs_model.specs.State.{State, begin_of}
use Rattle.cs_model.specs.Steps.{Legal}
use Rattle.log_laws.proofs.Logs.{legal_one}
use Rattle.statement_core.specs.CoreValue.{CoreValue}
use Rattle.statement_core.specs.CoreState.{state_of}
use Rattle.statement_core.proofs.Keeping.{core_legal}
use Rattle.statement_core.proofs.core_calls.Core.rows.Goals as goal

pub rows-requires : goal.rows-requires
rows-requires c = let stands = c.self.invariant.0.stands in stands.held

pub returns : goal.returns
returns c =
    let inside = c.self.inside in
    let i = c.self.invariant.0 in
    let rows = c.rows.ensures i.changes i.stands in
    let legal = core_legal inside.terms.value inside.held inside.log.items _ inside.sessions.items i in
    λ m led.
    let own : Legal (begin_of inside.terms.value.schema.value) inside.log.items m = subst (λ (v : CoreValue). Legal (begin_of v.schema) v.log m) (sym c.self.view_is) led in
    let same : state_of i.changes inside.held ≡ m = legal_one (begin_of inside.terms.value.schema.value) inside.log.items (state_of i.changes inside.held) m legal own in
    rows ∙ ap (λ (m : State). length (table m.changes m.clock)) same
