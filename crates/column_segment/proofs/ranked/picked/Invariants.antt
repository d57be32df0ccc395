use Rattle.std.proofs.Common.{◌≡◌, ◌<◌, ℕ, length, get_or}
use Rattle.column_segment.proofs.ranked.picked.Given as goal

abbrev pub invariant-loop-place : goal.invariant-loop-place
invariant-loop-place l = record {
  counted : length l.all.items ≡ l.place-index;
  done : (i d : ℕ) → i < l.place-index → get_or l.all.items i d ≡ get_or l.codes (get_or l.order i 0) d;
}
