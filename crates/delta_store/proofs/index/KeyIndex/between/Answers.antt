use Rattle.delta_store.proofs.index.KeyIndex.between.Goals as goal

pub returns : goal.returns
returns c = rw (← c.self.view_is) (rw c.deref.ensures.value at c.between.ensures)
