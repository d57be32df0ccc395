use Rattle.std.proofs.Common.{◌≡◌, ◌≤◌, [], length, All}
use Rattle.delta_store.specs.Versions.{Store}
use Rattle.group_directory.proofs.commit_room.pool_of.Given as goal

abbrev pub invariant-loop : goal.invariant-loop
invariant-loop l = record {
  count : length l.pool.items ≡ l.counter;
  each : All (λ (store : Store). (store.versions ≡ []) × (l.room ≤ store.spare)) l.pool.items;
}
