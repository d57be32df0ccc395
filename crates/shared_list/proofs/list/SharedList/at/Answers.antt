use Rattle.std.proofs.Common.{refl, length}
use Rattle.std.proofs.lemmas.Option.{slice_get_read}
use Rattle.shared_list.specs.Chunks.{joined}
use Rattle.shared_list.proofs.Places.{got_read}
use Rattle.shared_list.proofs.list.SharedList.at.Goals as goal

pub returns-clause-value : goal.returns-clause-value
returns-clause-value g c =
    let chunks = c.self.inside.chunks.items in
    let place = rw c.deref.ensures.value at c.chunk_at.ensures in
    let within = rw (← c.self.view_is) at c.requires in
    let read = rw (c.as_slice.ensures, c.from.ensures) at c.index-as_slice-place.is in
    rw (← c.self.view_is)
    (slice_get_read (joined chunks) (length (joined chunks)) c.args.i c.index-as_slice-place.result refl within
    (got_read chunks c.self.invariant.0.stand c.args.i c.chunk_at.result c.index-chunk.result.now c.index-as_slice-place.result place c.index-chunk.ensures read))

pub returns-clause-item : goal.returns-clause-item
returns-clause-item g c =
    let place = rw c.deref.ensures.value at c.chunk_at.ensures in
    let read = rw (c.as_slice.ensures, c.from.ensures) at c.index-as_slice-place.is in
    rw (← c.self.view_is) (got_read c.self.inside.chunks.items c.self.invariant.0.stand c.args.i c.chunk_at.result c.index-chunk.result.now c.index-as_slice-place.result place c.index-chunk.ensures read)
