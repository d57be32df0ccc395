use Rattle.std.proofs.Common.{◌≡◌, take}
use Rattle.delta_store.specs.Chunks.{pieces_in}
use Rattle.delta_store.proofs.pieces.share_each.Given as goal

abbrev pub invariant-loop-piece : goal.invariant-loop-piece
invariant-loop-piece l = pieces_in l.shared.items ≡ pieces_in (take l.piece-index l.pieces)
