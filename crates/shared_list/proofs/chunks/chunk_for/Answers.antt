use Rattle.std.proofs.Common.{◌<◌, length, arith}
use Rattle.std.proofs.lemmas.Bool.Decides.{nat_tests}
use Rattle.shared_list.proofs.Places.{gap_in, some_items}
use Rattle.shared_list.proofs.chunks.chunk_for.Goals as goal

pub chunk_at-requires-clause-there : goal.chunk_at-requires-clause-there
chunk_at-requires-clause-there g c =
    let chunks = c.args.chunks.now in
    let empty = c.if-is_empty.ensures in
    let there : 0 < length chunks = grind (arith, nat_tests, empty) in
    let some = some_items chunks c.requires.stand there in
    let before = c.saturating_sub.ensures in
    let place = c.requires.place in
    omega (arith, some, before, place)

pub returns : goal.returns
returns g c = gap_in c.args.chunks.now c.args.i c.chunk_at.result (rw c.saturating_sub.ensures at c.chunk_at.ensures)
