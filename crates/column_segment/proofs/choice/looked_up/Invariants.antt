use Rattle.std.proofs.Common.{◌≡◌, ◌<◌, ℕ, length, get_or}
use Rattle.column_segment.proofs.choice.looked_up.Given as goal

abbrev pub invariant-loop-place : goal.invariant-loop-place
invariant-loop-place l = record {
  counted : length l.codes.items ≡ l.place-index;
  done : (i d : ℕ) → i < l.place-index → get_or l.codes.items i d ≡ get_or l.table (get_or l.places i 0) d;
}
