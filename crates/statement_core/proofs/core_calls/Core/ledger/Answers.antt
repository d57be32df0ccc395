use Rattle.std.proofs.Common.{subst}
use Rattle.std.specs.Prelude.{IfOk}
use Rattle.std.proofs.lemmas.Result.{IfOk-weaker}
use Rattle.group_log.specs.Followed.{ground_of}
use Rattle.statement_core.specs.CoreState.{groups_of}
use Rattle.statement_core.specs.CoreValue.{CoreValue}
use Rattle.statement_core.specs.Reorganizes.{IsLedgerOf, IsLedgerAt}
use Rattle.statement_core.proofs.Reorganizes.{ledger_found}
use Rattle.statement_core.proofs.Turns.{moment}
use Rattle.statement_core.proofs.core_calls.Core.ledger.Goals as goal

pub ledger-requires : goal.ledger-requires
ledger-requires c = let stands = c.self.invariant.0.stands in stands.held

pub returns : goal.returns
returns c =
    let inside = c.self.inside in
    let i = c.self.invariant.0 in
    subst (λ (v : CoreValue). IfOk c.ledger.result (IsLedgerAt (ground_of v.schema v.sizes) v.log)) c.self.view_is
    (IfOk-weaker c.ledger.result (IsLedgerOf (groups_of inside.held)) _
    (λ ledger is. record { moment = moment inside.terms.value inside.held inside.log.items _ inside.sessions.items i; holds = is })
    (ledger_found inside.held.directory.list c.ledger.result c.ledger.ensures.lines c.ledger.ensures.buffered c.ledger.ensures.holders))
