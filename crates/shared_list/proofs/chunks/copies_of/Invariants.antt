use Rattle.std.proofs.Common.{◌≡◌, take}
use Rattle.shared_list.specs.Chunks.{joined}
use Rattle.shared_list.proofs.chunks.copies_of.Given as goal

abbrev pub invariant-loop-chunk : goal.invariant-loop-chunk
invariant-loop-chunk g l = l.copied.items ≡ joined (take l.chunk-index l.chunks)
