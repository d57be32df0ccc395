use Rattle.std.proofs.Common.{arith, rules}
use Rattle.txn_table.proofs.PlaceSet.{none_at}
use Rattle.txn_table.proofs.txns.Txns.new.Goals as goal

pub returns-clause-none : goal.returns-clause-none
returns-clause-none c =
    none_at c.from_fn.result (λ i d l. let (p, q, called) = c.from_fn.ensures.items.at i d (omega (arith, c.from_fn.ensures.items.long)) in search rules)
