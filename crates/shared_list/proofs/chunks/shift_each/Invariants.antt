use Rattle.std.proofs.Common.{◌≡◌, ◌++◌, map, take, drop}
use Rattle.shared_list.specs.Chunks.{later}
use Rattle.shared_list.proofs.chunks.shift_each.Given as goal

abbrev pub invariant-loop-chunk : goal.invariant-loop-chunk
invariant-loop-chunk g l = l.chunks ≡ map later (take l.chunk-index l.initial.chunks) ++ drop l.chunk-index l.initial.chunks
