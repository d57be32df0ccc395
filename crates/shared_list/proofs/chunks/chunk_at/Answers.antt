use Rattle.std.proofs.Common.{rules}
use Rattle.std.proofs.lemmas.List.Sorted.{answers_always}
use Rattle.shared_list.proofs.Places.{froms_rise, place_between, place_found}
use Rattle.shared_list.proofs.chunks.chunk_at.Goals as goal

pub overflow_sub-result : goal.overflow_sub-result
overflow_sub-result g c =
    let facts = c.binary_search_by_key.ensures in
    let by_place = facts.position (λ chunk. chunk.from) (answers_always _ _ _ (λ f a r g called. search rules)) in
    let parted = rw c.in-Err.is at by_place in
    (place_between c.args.chunks.now c.requires.stand c.args.i c.in-Err.at (rw c.in-Err.is at facts.bound) c.requires.there (parted (froms_rise c.args.chunks.now c.requires.stand c.args.i))).0

pub returns-in-Ok : goal.returns-in-Ok
returns-in-Ok g c =
    let facts = c.binary_search_by_key.ensures in
    let by_place = facts.position (λ chunk. chunk.from) (answers_always _ _ _ (λ f a r g called. search rules)) in
    place_found c.args.chunks.now c.requires.stand c.args.i c.in-Ok.at (rw c.in-Ok.is at facts.bound) (rw c.in-Ok.is at by_place)

pub returns-in-Err : goal.returns-in-Err
returns-in-Err g c =
    let facts = c.binary_search_by_key.ensures in
    let by_place = facts.position (λ chunk. chunk.from) (answers_always _ _ _ (λ f a r g called. search rules)) in
    let parted = rw c.in-Err.is at by_place in
    (place_between c.args.chunks.now c.requires.stand c.args.i c.in-Err.at (rw c.in-Err.is at facts.bound) c.requires.there (parted (froms_rise c.args.chunks.now c.requires.stand c.args.i))).1
