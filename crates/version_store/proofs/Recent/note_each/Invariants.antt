use Rattle.std.proofs.Common.{◌≡◌, ◌≤◌, ◌+◌, take, length}
use Rattle.version_store.specs.Newest.{noted_by}
use Rattle.version_store.proofs.Recent.note_each.Given as goal

abbrev pub invariant-loop-key : goal.invariant-loop-key
invariant-loop-key l = record {
  changes : l.self.changes ≡ noted_by l.change l.initial.self.changes (take l.key-index l.keys);
  room : length l.keys ≤ l.self.spare + l.key-index;
  held : l.self.held ≤ l.initial.self.held + l.key-index;
}
