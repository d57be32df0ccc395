use Rattle.std.proofs.Common.{rules}
use Rattle.std.proofs.lemmas.List.Sorted.{answers_always}
use Rattle.delta_store.proofs.Search.{searched}
use Rattle.delta_store.proofs.run.Run.search.Goals as goal

-- the closure gives a pair's key, and the slice is the index's pairs
pub returns-clause-found : goal.returns-clause-found
returns-clause-found c =
    let facts = c.binary_search_by_key.ensures in
    let by_key = facts.position (λ pair. pair.0) (answers_always _ _ _ (λ f a r g called. search rules)) in
    let both = searched _ (rw c.deref.ensures.value c.self.invariant.0) c.args.key _ facts.bound by_key in
    rw (← c.self.view_is, ← c.deref.ensures.value) both.found

pub returns-clause-absent : goal.returns-clause-absent
returns-clause-absent c =
    let facts = c.binary_search_by_key.ensures in
    let by_key = facts.position (λ pair. pair.0) (answers_always _ _ _ (λ f a r g called. search rules)) in
    let both = searched _ (rw c.deref.ensures.value c.self.invariant.0) c.args.key _ facts.bound by_key in
    rw (← c.self.view_is, ← c.deref.ensures.value) both.absent

pub returns-clause-order : goal.returns-clause-order
returns-clause-order c = rw (← c.self.view_is) c.self.invariant.0
