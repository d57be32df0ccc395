use Rattle.std.proofs.Common.{ℕ, ◌+◌, ◌-◌, ◌*◌, ◌<◌, ◌≤◌, min, length, vec_len}
use Rattle.delta_store.specs.Chunks.{versions_at, free_at, AreKept}
use Rattle.delta_store.proofs.chunks.make_room.Given as goal

abbrev pub invariant-loop-at : goal.invariant-loop-at
invariant-loop-at l = record {
  kept : AreKept l.initial.chunks.items l.chunks.items;
  there : l.at ≤ vec_len l.chunks;
  room : (i : ℕ) → l.first ≤ i → i < l.at → min 1024 (l.end - 1024 * i) ≤ length (versions_at l.chunks.items i) + free_at l.chunks.items i;
}
