use Rattle.std.proofs.Common.{◌≡◌, ◌<◌, ◌≤◌, ◌++◌, ℕ, [], length, get_or}
use Rattle.row_group.specs.Packings.{cells_at}
use Rattle.row_group.proofs.columns.add_packed.Given as goal

abbrev pub invariant-loop-place : goal.invariant-loop-place
invariant-loop-place l = record {
  counted : length l.columns.items ≡ length l.initial.columns.items;
  done : (c : ℕ) → c < l.place → get_or l.columns.items c [] ≡ get_or l.initial.columns.items c [] ++ cells_at l.packed l.positions c;
  open_yet : (c : ℕ) → l.place ≤ c → get_or l.columns.items c [] ≡ get_or l.initial.columns.items c [];
}
