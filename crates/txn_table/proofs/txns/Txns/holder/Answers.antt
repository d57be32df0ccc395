use Rattle.txn_table.proofs.txns.Txns.holder.Goals as goal

pub returns-clause-none : goal.returns-clause-none
returns-clause-none c = rw (← c.self.view_is) c.holder_in.ensures.none
