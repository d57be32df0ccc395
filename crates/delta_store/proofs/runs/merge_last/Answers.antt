use Rattle.std.proofs.Common.{◌++◌, ◌-◌, arith}
use Rattle.delta_store.specs.Index.{HaveSamePlaces}
use Rattle.delta_store.specs.Runs.{pairs_in}
use Rattle.delta_store.proofs.RunLemmas.{merged-last}
use Rattle.delta_store.proofs.runs.merge_last.Goals as goal

pub returns-clause-places : goal.returns-clause-places
returns-clause-places c =
    let same : HaveSamePlaces (pairs_in c.index.result.now ++ pairs_in c.index-2.result.now) (pairs_in c.in_ok-runs.field-0) = rw (c.in_ok-runs.ensures.ok, ← c.deref.ensures, ← c.deref-2.ensures) c.in_ok-merged.ensures in
    rw c.truncate.ensures.items (merged-last c.args.runs.now.items (c.len-newest.result - 1) (c.len-newest.result - 1 - 1) c.index.result.now c.index-2.result.now c.in_ok-runs.field-0 (omega (arith, c.len-newest.ensures)) (omega (arith, c.len-newest.ensures)) c.index.ensures c.index-2.ensures same)
