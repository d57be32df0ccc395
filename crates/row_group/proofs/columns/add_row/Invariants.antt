use Rattle.std.proofs.Common.{◌≡◌, ◌<◌, ◌≤◌, ◌++◌, ◌∷◌, ℕ, [], length, get_or}
use Rattle.cs_types.specs.Rows.{cell_at}
use Rattle.row_group.proofs.columns.add_row.Given as goal

abbrev pub invariant-loop-place : goal.invariant-loop-place
invariant-loop-place l = record {
  counted : length l.columns.items ≡ length l.initial.columns.items;
  done : (c : ℕ) → c < l.place → get_or l.columns.items c [] ≡ get_or l.initial.columns.items c [] ++ cell_at l.row c ∷ [];
  open_yet : (c : ℕ) → l.place ≤ c → get_or l.columns.items c [] ≡ get_or l.initial.columns.items c [];
}
