use Rattle.std.proofs.Common.{sym, arith}
use Rattle.std.proofs.lemmas.List.{get_or_default}
use Rattle.delta_store.specs.Index.{no_pair}
use Rattle.delta_store.proofs.Search.{place_at, no_place}
use Rattle.delta_store.proofs.run.Run.get.Goals as goal

-- the key is at its place, and the pair there is the one that was read
pub returns-in-Ok : goal.returns-in-Ok
returns-in-Ok c =
    let found = rw (← c.self.view_is) at c.in-Ok.ensures.found in
    let value = place_at c.self.inside.pairs.items c.self.invariant.0 c.args.key c.in-Ok.at found in
    let read = get_or_default c.self.inside.pairs.items c.in-Ok.at c.index.result.now no_pair found.in_range in
    rw (← c.self.view_is) (grind (arith, value, read))

-- the key is not there
pub returns-in-Err : goal.returns-in-Err
returns-in-Err c = sym (no_place _ _ _ c.in-Err.ensures.absent)
