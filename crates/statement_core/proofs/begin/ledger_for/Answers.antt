use Rattle.std.proofs.Common.{◌∙◌, sym, subst, Some}
use Rattle.statement_core.specs.CoreState.{groups_of}
use Rattle.statement_core.specs.Reorganizes.{reorganizes, IsLedgerFor}
use Rattle.statement_core.proofs.Reorganizes.{all_holders}
use Rattle.statement_core.proofs.begin.ledger_for.Goals as goal

pub returns-in_ok-ledger-in-Reorganize : goal.returns-in_ok-ledger-in-Reorganize
returns-in_ok-ledger-in-Reorganize c =
    let held = c.args.held.now in
    let x = c.in_ok-ledger-in-Reorganize in
    subst (λ b. IsLedgerFor (groups_of held) (reorganizes b) (Some x.field-0)) (sym c.in-Reorganize.is)
    (record { lines = x.ensures.lines; buffered = x.ensures.buffered; holders = x.ensures.holders ∙ all_holders held.directory.list.claims.items })
