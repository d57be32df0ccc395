use Rattle.std.proofs.Common.{◌≡◌, ℕ, ◌+◌, ◌-◌, ◌≤◌, length, get_or, take}
use Rattle.delete_buffer.specs.Entries.{Entry, without}
use Rattle.delete_buffer.proofs.Merges.{ArePassed}
use Rattle.delete_buffer.proofs.batches.keep_others.Given as goal

abbrev pub invariant-loop-place : goal.invariant-loop-place
invariant-loop-place l = record {
  reached : l.kept ≤ l.place;
  within : l.place ≤ length l.entries;
  taken_left : l.next ≤ length l.taken;
  rest : (k : ℕ) (d : Entry) → l.place ≤ k → get_or l.entries k d ≡ get_or l.initial.entries k d;
  kept : take l.kept l.entries ≡ without l.taken (take l.place l.initial.entries);
  passed : ArePassed l.taken l.next l.initial.entries l.place;
}

abbrev pub decreases-loop-place : goal.decreases-loop-place
decreases-loop-place l = (length l.initial.entries - l.place) + (length l.taken - l.next)
