use Rattle.std.proofs.Common.{IfOk}
use Rattle.group_log.specs.Followed.{ground_of}
use Rattle.statement_core.specs.Reorganizes.{IsLedgerAt}
use Rattle.session_pool.proofs.Events.{entries_are}
use Rattle.session_pool.proofs.Pools.{seen_as}
use Rattle.session_pool.proofs.pooled.Pooled.ledger.Goals as goal

pub returns : goal.returns
returns g c =
    let p = c.self.inside in
    let pool = c.self.invariant.1 in
    seen_as (λ origin log. IfOk c.ledger.result (IsLedgerAt origin log)) (ground_of p.core.schema p.core.sizes) (ground_of g.J.Made.schema g.J.Made.sizes) p.core.log _ (λ i. ground_of (pool.schema_is i) (pool.sizes_are i)) (entries_are p.lent.items p.core.log c.args.self.now c.self.view_is) c.ledger.ensures
