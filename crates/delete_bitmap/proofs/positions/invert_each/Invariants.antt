use Rattle.std.proofs.Common.{◌≡◌, ℕ, ◌<◌, ◌≤◌, ◌^◌, get_or, length}
use Rattle.std.specs.Int.{bit_not, w64}
use Rattle.delete_bitmap.proofs.positions.invert_each.Given as goal

abbrev pub invariant-loop-i : goal.invariant-loop-i
invariant-loop-i l = record {
  len : length l.words.items ≡ length l.initial.words.items;
  done : (k : ℕ) → k < l.i → get_or l.words.items k 0 ≡ bit_not w64 (get_or l.initial.words.items k 0);
  small : (k : ℕ) → k < l.i → get_or l.initial.words.items k 0 < 2 ^ 64;
  rest : (k : ℕ) → l.i ≤ k → get_or l.words.items k 0 ≡ get_or l.initial.words.items k 0;
}
