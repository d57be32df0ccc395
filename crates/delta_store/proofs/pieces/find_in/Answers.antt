use Rattle.std.proofs.Common.{◌<◌, length, get_or, refl, ap, ◌∙◌, rules}
use Rattle.std.specs.declared.alloc.Global.{Global}
use Rattle.std.specs.declared.vec.Vec.{Vec}
use Rattle.std.proofs.lemmas.Option.{slice_get_read}
use Rattle.delta_store.specs.declared.version.LinkedVersion.{LinkedVersion}
use Rattle.delta_store.specs.Chunks.{piece_in}
use Rattle.delta_store.proofs.PieceLemmas.{pieces-place}
use Rattle.delta_store.proofs.pieces.find_in.Goals as goal

pub returns-then-at-len : goal.returns-then-at-len
returns-then-at-len c =
    let within : c.loop-piece.at < length (piece_in c.piece-item.result) = search rules in
    let is = c.index.ensures ∙ ap (λ (whole : Vec LinkedVersion Global). get_or whole.items c.loop-piece.at c.index.result.now) c.deref-then-at-len.ensures in
    pieces-place c.args.pieces.now c.loop-piece.piece-index c.piece-item.result c.loop-piece-test.true c.piece-item.is c.args.place c.loop-piece.at c.loop-piece.invariant within
    ∙ slice_get_read (piece_in c.piece-item.result) _ c.loop-piece.at c.index.result.now refl within is
