use Rattle.std.proofs.Common.{◌≡◌, map, take, All, false}
use Rattle.delta_store.specs.Chunks.{versions_in, owns_in}
use Rattle.delta_store.proofs.chunks.share_each.Given as goal

abbrev pub invariant-loop-chunk : goal.invariant-loop-chunk
invariant-loop-chunk l = record {
  versions : map versions_in l.chunks ≡ map versions_in l.initial.chunks;
  shared : map versions_in l.shared.items ≡ take l.chunk-index (map versions_in l.initial.chunks);
  none_own : All (λ chunk. All (λ own. own ≡ false) (owns_in chunk)) (take l.chunk-index l.chunks);
}
