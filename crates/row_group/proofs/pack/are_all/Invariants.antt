use Rattle.std.proofs.Common.{◌≡◌, ◌<◌, ℕ, get_or}
use Rattle.row_group.proofs.pack.are_all.Given as goal

abbrev pub invariant-loop-begin : goal.invariant-loop-begin
invariant-loop-begin l = (i d : ℕ) → i < l.begin-index → get_or l.begins i d ≡ l.floor
