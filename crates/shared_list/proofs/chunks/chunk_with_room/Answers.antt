use Rattle.std.proofs.Common.{◌≡◌, ◌+◌, ◌<◌, List, length, ap, arith, rules}
use Rattle.std.proofs.lemmas.List.{drop_all}
use Rattle.shared_list.specs.Placed.{Placed}
use Rattle.shared_list.specs.Chunks.{joined}
use Rattle.shared_list.proofs.Edits.{ends_here}
use Rattle.shared_list.proofs.chunks.chunk_with_room.Goals as goal

pub overflow_add-from : goal.overflow_add-from
overflow_add-from g c =
    let inside : c.in-Some.at < length c.args.chunks.now.items = search rules in
    let ends = ends_here c.args.chunks.now.items c.requires.stand c.in-Some.at c.index-chunk.result.now inside c.index-chunk.ensures in
    let long = ap length c.as_slice-len.ensures in
    let from = c.from.ensures in
    let fits = c.requires.fits in
    omega (arith, ends, long, from, fits)

pub returns-then-from-len-clause-place : goal.returns-then-from-len-clause-place
returns-then-from-len-clause-place g c =
    let chunks = c.args.chunks.now.items in
    let inside : c.in-Some.at < length chunks = search rules in
    let last : length chunks ≡ c.in-Some.at + 1 = search rules in
    let ends = ends_here chunks c.requires.stand c.in-Some.at c.index-chunk.result.now inside c.index-chunk.ensures in
    let none = ap (λ (cs : List (Placed g.row.T.Denot)). length (joined cs)) (drop_all (c.in-Some.at + 1) chunks (omega (arith, last))) in
    let long = ap length c.as_slice-len.ensures in
    let from = c.from.ensures in
    let place = c.if-from-len.true in
    omega (arith, ends, none, long, from, place)
