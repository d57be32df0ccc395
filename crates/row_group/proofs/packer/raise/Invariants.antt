use Rattle.std.proofs.Common.{◌≡◌, ◌<◌, ◌≤◌, ℕ, length, get_or}
use Rattle.row_group.specs.Rows.{begin_above}
use Rattle.row_group.proofs.packer.raise.Given as goal

abbrev pub invariant-loop-place : goal.invariant-loop-place
invariant-loop-place l = record {
  counted : length l.begins.items ≡ length l.initial.begins.items;
  done : (k : ℕ) → k < l.place → get_or l.begins.items k 0 ≡ begin_above l.floor (get_or l.initial.begins.items k 0);
  open_yet : (k : ℕ) → l.place ≤ k → get_or l.begins.items k 0 ≡ get_or l.initial.begins.items k 0;
}
