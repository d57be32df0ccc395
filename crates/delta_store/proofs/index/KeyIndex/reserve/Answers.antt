use Rattle.delta_store.specs.Runs.{pairs_of}
use Rattle.delta_store.proofs.Pairs.{same-behind}
use Rattle.delta_store.proofs.index.KeyIndex.reserve.Goals as goal

pub returns-in_err-merge_newest-clause-places : goal.returns-in_err-merge_newest-clause-places
returns-in_err-merge_newest-clause-places c =
    rw (← c.make_way.ensures, ← c.self.view_is) (same-behind c.self.inside.own.pairs (pairs_of c.self.inside.runs.items) (pairs_of c.merge_newest.new.runs.items) c.merge_newest.ensures)

pub returns-clause-places : goal.returns-clause-places
returns-clause-places c =
    rw (c.reserve.ensures.pairs, ← c.make_way.ensures, ← c.self.view_is) (same-behind c.self.inside.own.pairs (pairs_of c.self.inside.runs.items) (pairs_of c.merge_newest.new.runs.items) c.merge_newest.ensures)
