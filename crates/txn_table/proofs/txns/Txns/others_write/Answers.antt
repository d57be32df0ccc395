use Rattle.txn_table.proofs.txns.Txns.others_write.Goals as goal

pub returns-clause-some : goal.returns-clause-some
returns-clause-some c = rw (← c.self.view_is) c.others_write_in.ensures.some

pub returns-clause-none : goal.returns-clause-none
returns-clause-none c = rw (← c.self.view_is) c.others_write_in.ensures.none
