use Rattle.std.proofs.Common.{◌≡◌, take, All}
use Rattle.cs_types.specs.declared.Key.{Key}
use Rattle.delta_store.specs.Versions.{IsReady}
use Rattle.delta_store.proofs.store.Delta.prepare.Given as goal

abbrev pub invariant-loop-key : goal.invariant-loop-key
invariant-loop-key l = record {
  versions : l.self.versions ≡ l.initial.self.versions;
  ready : All (IsReady l.self) (take l.key-index l.keys);
  kept : (key : Key) → IsReady l.initial.self key → IsReady l.self key;
  room : l.self.spare ≡ l.initial.self.spare;
}
