use Rattle.std.proofs.Common.{◌≡◌, ◌+◌, length, take}
use Rattle.delta_store.specs.Chunks.{pieces_in}
use Rattle.delta_store.proofs.pieces.find_in.Given as goal

abbrev pub invariant-loop-piece : goal.invariant-loop-piece
invariant-loop-piece l = length (pieces_in (take l.piece-index l.pieces)) + l.at ≡ l.place
